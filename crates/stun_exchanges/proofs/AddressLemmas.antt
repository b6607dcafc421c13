-- The address in a reply.
use Rattle.std.proofs.Common.{◌≡◌, ℕ, ◌/◌, ◌%◌, ◌^◌, ◌<◌, List, length, drop, Option, None, Some, Result, Ok, Err, refl, sym, ap, subst, ◌∙◌, arith}
use Rattle.std.specs.Prelude.{get_or, bit_xor, MatchOption}
use Rattle.std.specs.List.{zip}
use Rattle.std.specs.Net.Addr.{is_ipv6}
use Rattle.std.specs.Net.Socket.{socket_ip, socket_port}
use Rattle.std.specs.declared.net.ip_addr.IpAddr.{IpAddr}
use Rattle.std.specs.declared.net.ip_addr.IpAddr.TheVariants as Ip
use Rattle.std.specs.declared.net.socket_addr.SocketAddr.{SocketAddr}
use Rattle.std.specs.declared.net.socket_addr.SocketAddr.TheVariants.{V4, V6}
use Rattle.std.proofs.lemmas.List.{length-map}
use Rattle.std.specs.Int.Bits.{xor_assoc, xor_self, xor_zero_r}
use Rattle.std.proofs.lemmas.Nat.{xor_of_16}
use Rattle.std.proofs.lemmas.Slice.Zip.{length-zip}
use Rattle.stun_grammar.specs.declared.error.StunParseError.{StunParseError}
use Rattle.stun_grammar.specs.declared.error.StunParseError.TheVariants.{MissingAttribute}
use Rattle.stun_grammar.specs.AttributeTypes.{XOR_MAPPED_ADDRESS}
use Rattle.stun_grammar.specs.Chains.{Shown}
use Rattle.stun_grammar.specs.Headers.{id_field}
use Rattle.stun_grammar.specs.Parsing.{parse_fault}
use Rattle.stun_attributes.specs.Reading.{Reads}
use Rattle.stun_attributes.proofs.AddressesLemmas.{xored_twice}
use Rattle.stun_types.specs.LookingUp.{nth}
use Rattle.stun_values.specs.Addresses.{family, octets, mask, xor_bytes, address_fault, Spells, IsXored, IsInRange, IsPlain, xored_value}
use Rattle.stun_transactions.specs.Mapped.{TellsAddress, ReadsMapped, IsSuccessOf}
use Rattle.stun_exchanges.specs.Learning.{without_flow, TellsOnly}

-- ---- The address without flow info

plain_there : (a : SocketAddr) → IsPlain (without_flow a)
plain_there (V4 a) = record { flowinfo = refl; scope_id = refl }
plain_there (V6 a) = record { flowinfo = refl; scope_id = refl }

ip_there : (a : SocketAddr) → socket_ip (without_flow a) ≡ socket_ip a
ip_there (V4 a) = refl
ip_there (V6 a) = refl

port_there : (a : SocketAddr) → socket_port (without_flow a) ≡ socket_port a
port_there (V4 a) = refl
port_there (V6 a) = refl

range_there : (a : SocketAddr) → IsInRange a → IsInRange (without_flow a)
range_there (V4 a) range = record { port = range.port; octets_are = range.octets_are }
range_there (V6 a) range = record { port = range.port; octets_are = range.octets_are }

-- ---- What its value spells

readable : (id : ℕ) (a : SocketAddr) → IsInRange a → address_fault (xored_value id a) ≡ None
readable id (V4 a) range =
    let bytes = octets (socket_ip (V4 a)) in
    let n : length (xored_value id (V4 a)) ≡ 8 = omega (arith, range.octets_are, length-map (zip bytes (mask id)) (λ (pair : ℕ × ℕ). bit_xor pair.0 pair.1), length-zip bytes (mask id)) in
    rw n refl
readable id (V6 a) range =
    let bytes = octets (socket_ip (V6 a)) in
    let n : length (xored_value id (V6 a)) ≡ 20 = omega (arith, range.octets_are, length-map (zip bytes (mask id)) (λ (pair : ℕ × ℕ). bit_xor pair.0 pair.1), length-zip bytes (mask id)) in
    rw n refl

same_kind : (x a : IpAddr) → family a ≡ family x → is_ipv6 x ≡ is_ipv6 a
same_kind (Ip.V4 x) (Ip.V4 a) e = refl
same_kind (Ip.V4 x) (Ip.V6 a) e = absurd (omega (arith, e))
same_kind (Ip.V6 x) (Ip.V4 a) e = absurd (omega (arith, e))
same_kind (Ip.V6 x) (Ip.V6 a) e = refl

port_one : (p q : ℕ) → p < 2 ^ 16 → q < 2 ^ 16 → p / 256 % 256 ≡ q / 256 % 256 → p % 256 ≡ q % 256 → q ≡ p
port_one p q small same high low = omega (arith, small, same, high, low)

-- the port of an address before the XOR fits too
port_fits : (p q : ℕ) → q < 2 ^ 16 → q ≡ bit_xor p (0x2112A442 / 2 ^ 16) → p < 2 ^ 16
port_fits p q small e =
    let cookie = 0x2112A442 / 2 ^ 16 in
    let back : bit_xor q cookie ≡ p = ap (λ (n : ℕ). bit_xor n cookie) e ∙ xor_assoc p cookie cookie ∙ ap (bit_xor p) (xor_self cookie) ∙ xor_zero_r p in
    subst (λ (n : ℕ). n < 2 ^ 16) back (xor_of_16 q cookie small (omega arith))

-- what the value spells is the address, XORed
spelled_xored : (id : ℕ) (a x : SocketAddr) → IsInRange a → socket_port x < 2 ^ 16 → Spells (xored_value id a) x → IsXored id (without_flow a) x
spelled_xored id a x range small spells =
    let cookie = 0x2112A442 / 2 ^ 16 in
    let s = spells.spelled in
    record {
      family_is = same_kind (socket_ip x) (socket_ip a) (ap (λ (l : List ℕ). get_or l 0 0) s) ∙ ap is_ipv6 (sym (ip_there a));
      port_is = port_one (bit_xor (socket_port a) cookie) (socket_port x) (xor_of_16 (socket_port a) cookie range.port (omega arith)) small
          (ap (λ (l : List ℕ). get_or l 1 0) s) (ap (λ (l : List ℕ). get_or l 2 0) s) ∙ ap (λ (p : ℕ). bit_xor p cookie) (sym (port_there a));
      octets_are = sym (ap (drop 3) s) ∙ ap (λ (ip : IpAddr). xor_bytes (octets ip) (mask id)) (sym (ip_there a));
      plain = spells.plain;
    }

-- so what it reports is the address
reported_once : (id : ℕ) (a read : SocketAddr) → IsInRange a → IsInRange read → TellsAddress id (xored_value id a) read → read ≡ without_flow a
reported_once id a read range other tells =
    let small = port_fits (socket_port tells.written) (socket_port read) other.port tells.xored.port_is in
    xored_twice id (without_flow a) tells.written read (plain_there a) (range_there a range) (spelled_xored id a tells.written range small tells.spelled) tells.xored

-- ---- What is read of the reply

-- the attribute is there, and its value has the address
pub tells_only : (a : SocketAddr) (r d : List ℕ) (x : Shown) → IsInRange a → parse_fault d ≡ None → IsSuccessOf r d → nth d XOR_MAPPED_ADDRESS 0 ≡ Some x → x.value ≡ xored_value (id_field d) a
    → TellsOnly (without_flow a) r d
tells_only a r d x range parses success found value (Ok None) read = absurd (read.1 success)
tells_only a r d x range parses success found value (Ok (Some it)) read = λ other.
    let here = subst (λ (o : Option Shown). MatchOption o (Ok it ≡ Err (MissingAttribute (record { 0 = XOR_MAPPED_ADDRESS }))) (λ (s : Shown). Reads (address_fault s.value) (TellsAddress (id_field d) s.value) (Ok it))) found read.2 in
    let reported = subst (λ (v : List ℕ). Reads (address_fault v) (TellsAddress (id_field d) v) (Ok it)) value here in
    let right = subst (λ (o : Option StunParseError). Reads o (TellsAddress (id_field d) (xored_value (id_field d) a)) (Ok it)) (readable (id_field d) a range) reported in
    reported_once (id_field d) a it range other right
tells_only a r d x range parses success found value (Err e) read =
    let none : Result SocketAddr StunParseError = Err e in
    let inside = subst (λ (o : Option StunParseError). MatchOption o (IsSuccessOf r d × ReadsMapped d none) (λ (fault : StunParseError). e ≡ fault)) parses read in
    let here = subst (λ (o : Option Shown). MatchOption o (none ≡ Err (MissingAttribute (record { 0 = XOR_MAPPED_ADDRESS }))) (λ (s : Shown). Reads (address_fault s.value) (TellsAddress (id_field d) s.value) none)) found inside.1 in
    let reported = subst (λ (v : List ℕ). Reads (address_fault v) (TellsAddress (id_field d) v) none) value here in
    let right = subst (λ (o : Option StunParseError). Reads o (TellsAddress (id_field d) (xored_value (id_field d) a)) none) (readable (id_field d) a range) reported in
    absurd right
