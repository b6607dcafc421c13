-- Addresses that are XORed twice, and addresses that are read back.
use Rattle.std.proofs.Common.{◌≡◌, ℕ, ◌/◌, ◌%◌, ◌^◌, ◌<◌, ◌≤◌, List, [], ◌∷◌, length, get_or, drop, bit_xor, Option, None, Ok, Err, refl, sym, ap, subst, ◌∙◌, arith}
use Rattle.std.specs.Prelude.{Result, IsOkAnd, MatchOption}
use Rattle.std.specs.Int.Bits.{xor_assoc, xor_self, xor_zero_r}
use Rattle.std.specs.Net.Addr.{octets_of, is_ipv6}
use Rattle.std.specs.Net.Socket.{socket_ip, socket_port}
use Rattle.std.specs.declared.net.ip_addr.IpAddr.{IpAddr}
use Rattle.std.specs.declared.net.ip_addr.IpAddr.TheVariants as Ip
use Rattle.std.specs.declared.net.socket_addr.SocketAddrV4.{SocketAddrV4}
use Rattle.std.specs.declared.net.socket_addr.SocketAddrV6.{SocketAddrV6}
use Rattle.std.specs.declared.net.socket_addr.SocketAddr.{SocketAddr}
use Rattle.std.specs.declared.net.socket_addr.SocketAddr.TheVariants.{V4, V6}
use Rattle.stun_grammar.specs.declared.error.StunParseError.{StunParseError}
use Rattle.stun_values.specs.Addresses.{octets, address_value, address_fault, mask, xor_bytes, octets_count, IsPlain, IsInRange, IsXored, Spells}
use Rattle.stun_attributes.specs.AddressAttributes.{ReadsAddress}

xor_back : (x m : ℕ) → bit_xor (bit_xor x m) m ≡ x
xor_back x m = xor_assoc x m m ∙ ap (bit_xor x) (xor_self m) ∙ xor_zero_r x

bytes_back : (xs m : List ℕ) → length xs ≤ length m → xor_bytes (xor_bytes xs m) m ≡ xs
bytes_back [] [] fits = refl
bytes_back [] (y ∷ m) fits = refl
bytes_back (x ∷ xs) [] fits = absurd (omega arith)
bytes_back (x ∷ xs) (y ∷ m) fits = λ i. xor_back x y i ∷ bytes_back xs m (omega arith) i

octets_one : (xs ys : List ℕ) → octets_of xs ≡ octets_of ys → xs ≡ ys
octets_one [] [] e = refl
octets_one [] (y ∷ ys) e = absurd (omega (arith, ap length e))
octets_one (x ∷ xs) [] e = absurd (omega (arith, ap length e))
octets_one (x ∷ xs) (y ∷ ys) e =
    let high : x / 256 ≡ y / 256 = ap (λ (zs : List ℕ). get_or zs 0 0) e in
    let low : x % 256 ≡ y % 256 = ap (λ (zs : List ℕ). get_or zs 1 0) e in
    let first : x ≡ y = omega (arith, high, low) in
    λ i. first i ∷ octets_one xs ys (ap (drop 2) e) i

same_v4 : (a b : SocketAddrV4) → a.ip.octets ≡ b.ip.octets → a.port ≡ b.port → a ≡ b
same_v4 a b ip port = λ i. record { ip = record { octets = ip i }; port = port i }

same_v6 : (a b : SocketAddrV6) → a.ip.segments ≡ b.ip.segments → a.port ≡ b.port → a.flowinfo ≡ b.flowinfo → a.scope_id ≡ b.scope_id → a ≡ b
same_v6 a b ip port flowinfo scope_id = λ i. record { ip = record { segments = ip i }; port = port i; flowinfo = flowinfo i; scope_id = scope_id i }

-- plain addresses of one family with one port and the same bytes are equal
pub same_address : (a b : SocketAddr) → IsPlain a → IsPlain b → is_ipv6 (socket_ip a) ≡ is_ipv6 (socket_ip b) → socket_port a ≡ socket_port b → octets (socket_ip a) ≡ octets (socket_ip b) → a ≡ b
same_address (V4 a) (V4 b) p q family port bytes = ap V4 (same_v4 a b bytes port)
same_address (V4 a) (V6 b) p q family port bytes = absurd cc
same_address (V6 a) (V4 b) p q family port bytes = absurd cc
same_address (V6 a) (V6 b) p q family port bytes = ap V6 (same_v6 a b (octets_one a.ip.segments b.ip.segments bytes) port (p.flowinfo ∙ sym q.flowinfo) (p.scope_id ∙ sym q.scope_id))

short : (ip : IpAddr) → length (octets ip) ≡ octets_count ip → length (octets ip) ≤ 16
short (Ip.V4 ip) e = omega (arith, e)
short (Ip.V6 ip) e = omega (arith, e)

-- what is XORed twice is as it was
pub xored_twice : (id : ℕ) (a x y : SocketAddr) → IsPlain a → IsInRange a → IsXored id a x → IsXored id x y → y ≡ a
xored_twice id a x y plain range first second =
    same_address y a second.plain plain (second.family_is ∙ first.family_is)
    (second.port_is ∙ ap (λ (p : ℕ). bit_xor p (0x2112A442 / 2 ^ 16)) first.port_is ∙ xor_back (socket_port a) (0x2112A442 / 2 ^ 16))
    (second.octets_are ∙ ap (λ (bytes : List ℕ). xor_bytes bytes (mask id)) first.octets_are ∙ bytes_back (octets (socket_ip a)) (mask id) (short (socket_ip a) range.octets_are))

port_one : (p q : ℕ) → p < 2 ^ 16 → q < 2 ^ 16 → p / 256 % 256 ≡ q / 256 % 256 → p % 256 ≡ q % 256 → p ≡ q
port_one p q small same high low = omega (arith, small, same, high, low)

-- plain addresses with one value are one
spelled_once : (a b : SocketAddr) → IsPlain a → socket_port a < 2 ^ 16 → socket_port b < 2 ^ 16 → Spells (address_value a) b → b ≡ a
spelled_once (V4 a) (V4 b) plain pa pb s = same_address (V4 b) (V4 a) s.plain plain refl
    (port_one b.port a.port pb pa (sym (ap (λ (l : List ℕ). get_or l 1 0) s.spelled)) (sym (ap (λ (l : List ℕ). get_or l 2 0) s.spelled))) (sym (ap (drop 3) s.spelled))
spelled_once (V4 a) (V6 b) plain pa pb s = let kind : 1 ≡ 2 = ap (λ (l : List ℕ). get_or l 0 0) s.spelled in absurd (omega (arith, kind))
spelled_once (V6 a) (V4 b) plain pa pb s = let kind : 2 ≡ 1 = ap (λ (l : List ℕ). get_or l 0 0) s.spelled in absurd (omega (arith, kind))
spelled_once (V6 a) (V6 b) plain pa pb s = same_address (V6 b) (V6 a) s.plain plain refl
    (port_one b.port a.port pb pa (sym (ap (λ (l : List ℕ). get_or l 1 0) s.spelled)) (sym (ap (λ (l : List ℕ). get_or l 2 0) s.spelled))) (sym (ap (drop 3) s.spelled))

readable : (a : SocketAddr) → IsInRange a → address_fault (address_value a) ≡ None
readable (V4 a) range =
    let n : length (address_value (V4 a)) ≡ 8 = omega (arith, range.octets_are) in
    rw n refl
readable (V6 a) range =
    let n : length (address_value (V6 a)) ≡ 20 = omega (arith, range.octets_are) in
    rw n refl

read_of : {T : Type 0} (addr_of : T → SocketAddr) (a : SocketAddr) (result : Result T StunParseError) → IsPlain a → IsInRange a
    → IsOkAnd result (λ read. Spells (address_value a) (addr_of read)) → IsOkAnd result (λ read. IsInRange (addr_of read) → addr_of read ≡ a)
read_of addr_of a (Ok read) plain range spells = λ other. spelled_once a (addr_of read) plain range.port other.port spells
read_of addr_of a (Err e) plain range spells = absurd spells

-- the value of an address is read as that address
pub address_back : {T : Type 0} (addr_of : T → SocketAddr) (a : SocketAddr) (result : Result T StunParseError) → IsPlain a → IsInRange a
    → ReadsAddress addr_of (address_value a) result → IsOkAnd result (λ read. IsInRange (addr_of read) → addr_of read ≡ a)
address_back {T} addr_of a result plain range reported =
    read_of addr_of a result plain range (subst (λ (o : Option StunParseError). MatchOption o (IsOkAnd result (λ read. Spells (address_value a) (addr_of read))) (λ e. result ≡ Err e)) (readable a range) reported)
