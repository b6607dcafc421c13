-- A transport address is read from its attribute as it was written (RFC 8489, section 14.2).
use Rattle.std.proofs.Common.{◌≡◌, ℕ, ◌+◌, ◌*◌, ◌/◌, ◌%◌, ◌^◌, ◌<◌, ◌≤◌, Bool, true, false, List, [], ◌∷◌, length, bit_xor, None, Some, refl, ap, ◌∙◌, arith}
use Rattle.std.specs.Prelude.{◌==◌, is_some, not, if◌then◌else◌}
use Rattle.std.specs.Int.{w128, to_be_bytes}
use Rattle.std.specs.Int.Bits.{xor_assoc, xor_self, xor_zero_r}
use Rattle.std.specs.List.{zip}
use Rattle.std.specs.Net.Addr.{segments_of}
use Rattle.std.specs.Net.Socket.{socket_ip, socket_port}
use Rattle.std.specs.declared.net.ip_addr.IpAddr.{IpAddr}
use Rattle.std.specs.declared.net.ip_addr.IpAddr.TheVariants as Ip
use Rattle.std.specs.declared.net.socket_addr.SocketAddr.{SocketAddr}
use Rattle.std.specs.declared.net.socket_addr.SocketAddr.TheVariants.{V4, V6}
use Rattle.std.proofs.lemmas.List.{length-map}
use Rattle.std.proofs.lemmas.Nat.{xor_of_16}
use Rattle.std.proofs.lemmas.Slice.Zip.{length-zip}
use Rattle.stun_grammar.specs.Headers.{magic_cookie}
use Rattle.stun_grammar.specs.Numbers.{be32, number}
use Rattle.stun_grammar.specs.Attributes.{canonical}
use Rattle.stun_grammar.specs.AttributeTypes.{is_ending}
use Rattle.stun_values.specs.Addresses.{IsInRange, address_fault, family, mask, octets, octets_count, plain_socket, port_in, xor_bytes, xored_value}
use Rattle.stun_endpoints.specs.Conversions.{endpoint_of, is_address, socket_of}
use Rattle.stun_endpoints.specs.declared.endpoints.Endpoint.{Endpoint}
use Rattle.stun_exchanges.proofs.LoginsWritableLemmas.{IsAdded}
use Rattle.turn_server.specs.Addresses.{peer_in, peer_read}
use Rattle.turn_sessions.specs.Sides.{IsTransport}

-- what the law of socket addresses says
abbrev pub AreOfEndpoints : Type 0
AreOfEndpoints = (e : Endpoint) → is_address e.ip ≡ true → endpoint_of (socket_of e) ≡ e

-- ---- What is XORed twice is as it was

xor_back : (x m : ℕ) → bit_xor (bit_xor x m) m ≡ x
xor_back x m = xor_assoc x m m ∙ ap (bit_xor x) (xor_self m) ∙ xor_zero_r x

bytes_back : (xs m : List ℕ) → length xs ≤ length m → xor_bytes (xor_bytes xs m) m ≡ xs
bytes_back [] [] fits = refl
bytes_back [] (y ∷ m) fits = refl
bytes_back (x ∷ xs) [] fits = absurd (omega arith)
bytes_back (x ∷ xs) (y ∷ m) fits = λ i. xor_back x y i ∷ bytes_back xs m (omega arith) i

-- ---- The value

few_octets : (ip : IpAddr) → length (octets ip) ≡ octets_count ip → length (octets ip) ≤ 16
few_octets (Ip.V4 ip) e = omega (arith, e)
few_octets (Ip.V6 ip) e = omega (arith, e)

value_size : (id : ℕ) (a : SocketAddr) → length (xored_value id a) ≤ 4 + length (octets (socket_ip a))
value_size id a =
    let bytes = octets (socket_ip a) in
    omega (arith, length-map (zip bytes (mask id)) (λ (pair : ℕ × ℕ). bit_xor pair.0 pair.1), length-zip bytes (mask id))

readable : (id : ℕ) (a : SocketAddr) → IsInRange a → address_fault (xored_value id a) ≡ None
readable id (V4 a) range =
    let bytes = octets (socket_ip (V4 a)) in
    let n : length (xored_value id (V4 a)) ≡ 8 = omega (arith, range.octets_are, length-map (zip bytes (mask id)) (λ (pair : ℕ × ℕ). bit_xor pair.0 pair.1), length-zip bytes (mask id)) in
    rw n refl
readable id (V6 a) range =
    let bytes = octets (socket_ip (V6 a)) in
    let n : length (xored_value id (V6 a)) ≡ 20 = omega (arith, range.octets_are, length-map (zip bytes (mask id)) (λ (pair : ℕ × ℕ). bit_xor pair.0 pair.1), length-zip bytes (mask id)) in
    rw n refl

-- two bytes are the number that was written
two_bytes : (n : ℕ) → n < 2 ^ 16 → n / 256 % 256 * 256 + n % 256 ≡ n
two_bytes n small = omega (arith, small)

read_back : (id : ℕ) (a : SocketAddr) → IsInRange a → peer_read id (xored_value id a) ≡ Some (endpoint_of a)
read_back id a range =
    let cookie = magic_cookie / 2 ^ 16 in
    let port = bit_xor (socket_port a) cookie in
    let fault = readable id a range in
    let bytes : xor_bytes (xor_bytes (octets (socket_ip a)) (mask id)) (mask id) ≡ octets (socket_ip a) = bytes_back (octets (socket_ip a)) (mask id) (few_octets (socket_ip a) range.octets_are) in
    let back : bit_xor (port_in (xored_value id a)) cookie ≡ socket_port a =
    ap (λ (n : ℕ). bit_xor n cookie) (two_bytes port (xor_of_16 (socket_port a) cookie range.port (omega arith))) ∙ xor_back (socket_port a) cookie in
    λ i. if not (is_some (fault i)) then Some (record { ip = record { family = family (socket_ip a); number = number (bytes i) }; port = back i }) else None

-- ---- A transport address

in_range : (is_ipv4 : Bool) (n port : ℕ) → port < 2 ^ 16
    → IsInRange (plain_socket (if is_ipv4 then Ip.V4 (record { octets = be32 n }) else Ip.V6 (record { segments = segments_of (to_be_bytes w128 n) })) port)
in_range true n port small = record { port = small; octets_are = refl }
in_range false n port small = record { port = small; octets_are = refl }

socket_in_range : (e : Endpoint) → e.port < 2 ^ 16 → IsInRange (socket_of e)
socket_in_range e small = in_range (e.ip.family == 1) e.ip.number e.port small

pub transport_size : (id : ℕ) (e : Endpoint) → IsTransport e → length (xored_value id (socket_of e)) ≤ 20
transport_size id e is =
    let range = socket_in_range e is.port in
    omega (arith, value_size id (socket_of e), few_octets (socket_ip (socket_of e)) range.octets_are)

-- its value is one
pub transport_fits : (id : ℕ) (e : Endpoint) → IsTransport e → address_fault (xored_value id (socket_of e)) ≡ None
transport_fits id e is = readable id (socket_of e) (socket_in_range e is.port)

pub transport_read : AreOfEndpoints → (id : ℕ) (e : Endpoint) → IsTransport e → peer_read id (xored_value id (socket_of e)) ≡ Some e
transport_read sockets id e is = read_back id (socket_of e) (socket_in_range e is.port) ∙ ap (λ (x : Endpoint). Some x) (sockets e is.ip)

-- of this one
some_is : (b : Bool) (x e : Endpoint) → (if b then Some x else None) ≡ Some e → x ≡ e
some_is true x e is = cc
some_is false x e is = absurd cc

pub transport_in : AreOfEndpoints → (id : ℕ) (e : Endpoint) → IsTransport e → peer_in id (xored_value id (socket_of e)) ≡ e
transport_in sockets id e is = some_is (not (is_some (address_fault (xored_value id (socket_of e))))) (peer_in id (xored_value id (socket_of e))) e (transport_read sockets id e is)

pub transport_added : (type id : ℕ) (e : Endpoint) → IsTransport e → type < 2 ^ 16 → is_ending type ≡ false → IsAdded (canonical type (xored_value id (socket_of e)))
transport_added type id e is small plain = record { written = refl; type_fits = small; value_fits = omega (arith, transport_size id e is); plain = plain }
