-- Addresses and their bytes.
use Rattle.std.proofs.Common.{◌≡◌, ℕ, suc, ◌+◌, ◌-◌, ◌*◌, ◌/◌, ◌%◌, ◌<◌, ◌≤◌, List, [], ◌∷◌, ◌++◌, length, get_or, drop, Some, refl, sym, ◌∙◌, arith, ne_eqb, slice_index, drop-cons}
use Rattle.std.proofs.lemmas.Bool.{lt-ltb, le-ltb}
use Rattle.std.specs.Net.Addr.{segments_of, octets_of, ipv4_octets, ipv6_segments}
use Rattle.std.specs.Net.Socket.{socket_ip, socket_port, socket_flowinfo, socket_scope_id}
use Rattle.std.specs.declared.net.ipv4_addr.Ipv4Addr.{Ipv4Addr}
use Rattle.std.specs.declared.net.ipv6_addr.Ipv6Addr.{Ipv6Addr}
use Rattle.std.specs.declared.net.ip_addr.IpAddr.{IpAddr}
use Rattle.std.specs.declared.net.ip_addr.IpAddr.TheVariants as Ip
use Rattle.std.specs.declared.net.socket_addr.SocketAddr.{SocketAddr}
use Rattle.std.specs.declared.net.socket_addr.SocketAddr.TheVariants.{V4, V6}
use Rattle.stun_grammar.specs.declared.error.StunParseError.TheVariants.{Truncated, InvalidAttributeData}
use Rattle.stun_grammar.specs.Numbers.{be16}
use Rattle.stun_grammar.specs.Lengths.{exact_fault}
use Rattle.stun_values.specs.Addresses.{address_fault, address_in, ip_in, port_in, plain_socket}

halves : (n : ℕ) (xs : List ℕ) → length xs ≡ 2 * n → ((k : ℕ) → get_or xs k 0 < 256) → octets_of (segments_of xs) ≡ xs
halves n [] even small = refl
halves n (a ∷ []) even small = absurd (omega arith)
halves n (a ∷ b ∷ xs) even small =
    let low : b < 256 = small 1 in
    let high : (a * 256 + b) / 256 ≡ a = omega arith in
    let rest : (a * 256 + b) % 256 ≡ b = omega arith in
    λ i. high i ∷ rest i ∷ halves (n - 1) xs (omega arith) (λ k. small (suc (suc k))) i

-- sixteen bytes are those of their eight segments
pub octets_back : (xs : List ℕ) → length xs ≡ 16 → ((k : ℕ) → get_or xs k 0 < 256) → octets_of (segments_of xs) ≡ xs
octets_back xs long small = halves 8 xs (omega arith) small

pub too_short : (value : List ℕ) → length value < 4 → address_fault value ≡ Some (Truncated 4 (length value))
too_short value short = rw (lt-ltb (length value) 4 short) refl

pub of_ipv4 : (value : List ℕ) → 4 ≤ length value → slice_index value 1 ≡ 1 → address_fault value ≡ exact_fault 8 (length value)
of_ipv4 value long is = rw (le-ltb (length value) 4 long, is) refl

pub of_ipv6 : (value : List ℕ) → 4 ≤ length value → slice_index value 1 ≡ 2 → address_fault value ≡ exact_fault 20 (length value)
of_ipv6 value long is = rw (le-ltb (length value) 4 long, is) refl

pub no_family : (value : List ℕ) → 4 ≤ length value → (slice_index value 1 ≡ 1 → ⊥) → (slice_index value 1 ≡ 2 → ⊥) → address_fault value ≡ Some InvalidAttributeData
no_family value long first second = rw (le-ltb (length value) 4 long, ne_eqb (slice_index value 1) 1 first, ne_eqb (slice_index value 1) 2 second) refl

-- after its first byte a value is the family, the port and the address
pub spells : (value octets : List ℕ) (kind port : ℕ) → 4 ≤ length value → slice_index value 1 ≡ kind → ((k : ℕ) → get_or value k 0 < 256)
    → port ≡ get_or value 2 0 * 256 + get_or value 3 0 → octets ≡ drop 4 value → drop 1 value ≡ kind ∷ (be16 port ++ octets)
spells value octets kind port long kind_is small is behind =
    let parts : drop 1 value ≡ get_or value 1 0 ∷ get_or value 2 0 ∷ get_or value 3 0 ∷ drop 4 value =
    rw (drop-cons value 1 0 (omega arith), drop-cons value 2 0 (omega arith), drop-cons value 3 0 (omega arith)) refl in
    let high : port / 256 % 256 ≡ get_or value 2 0 = omega (arith, is, small 2, small 3) in
    let low : port % 256 ≡ get_or value 3 0 = omega (arith, is, small 2, small 3) in
    rw (high, low, behind, ← kind_is) parts

plain_is : (a : SocketAddr) (ip : IpAddr) (port : ℕ) → socket_ip a ≡ ip → socket_port a ≡ port → socket_flowinfo a ≡ 0 → socket_scope_id a ≡ 0 → a ≡ plain_socket ip port
plain_is (V4 a) ip port of p flow scope = rw (← of) (λ i. V4 (record { ip = a.ip; port = p i }))
plain_is (V6 a) ip port of p flow scope = rw (← of) (λ i. V6 (record { ip = a.ip; port = p i; flowinfo = flow i; scope_id = scope i }))

-- a plain address of the family, the port and the bytes of a value is the one that is there
pub holds_ipv4 : (value : List ℕ) (a : SocketAddr) (ip : Ipv4Addr) → slice_index value 1 ≡ 1 → ipv4_octets ip ≡ drop 4 value → socket_ip a ≡ Ip.V4 ip → socket_port a ≡ get_or value 2 0 * 256 + get_or value 3 0
    → socket_flowinfo a ≡ 0 → socket_scope_id a ≡ 0 → a ≡ address_in value
holds_ipv4 value a ip kind bytes of port flow scope =
    let one : ip_in value ≡ Ip.V4 (record { octets = drop 4 value }) = rw kind refl in
    let same : Ip.V4 ip ≡ Ip.V4 (record { octets = drop 4 value }) = λ i. Ip.V4 (record { octets = bytes i }) in
    plain_is a (ip_in value) (port_in value) (of ∙ same ∙ sym one) port flow scope

pub holds_ipv6 : (value : List ℕ) (a : SocketAddr) (ip : Ipv6Addr) → slice_index value 1 ≡ 2 → ipv6_segments ip ≡ segments_of (drop 4 value) → socket_ip a ≡ Ip.V6 ip → socket_port a ≡ get_or value 2 0 * 256 + get_or value 3 0
    → socket_flowinfo a ≡ 0 → socket_scope_id a ≡ 0 → a ≡ address_in value
holds_ipv6 value a ip kind segments of port flow scope =
    let two : ip_in value ≡ Ip.V6 (record { segments = segments_of (drop 4 value) }) = rw kind refl in
    let same : Ip.V6 ip ≡ Ip.V6 (record { segments = segments_of (drop 4 value) }) = λ i. Ip.V6 (record { segments = segments i }) in
    plain_is a (ip_in value) (port_in value) (of ∙ same ∙ sym two) port flow scope
