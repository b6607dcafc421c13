-- Addresses as values (RFC 8489, sections 14.1, 14.2 and 14.15).
use Rattle.std.specs.Prelude.{◌≡◌, ℕ, ◌+◌, ◌*◌, ◌/◌, ◌^◌, ◌<◌, List, ◌∷◌, ◌++◌, codes, length, drop, map, bit_xor, slice_index, Option, Some, nat_lt, ◌==◌, if◌then◌else◌}
use Rattle.std.specs.Fmt.{decimal}
use Rattle.std.specs.List.{zip}
use Rattle.std.specs.Net.Addr.{ipv4_octets, ipv6_octets, is_ipv6, segments_of}
use Rattle.std.specs.Net.Socket.{v4_ip, v4_port, socket_ip, socket_port, socket_flowinfo, socket_scope_id}
use Rattle.std.specs.Net.Text.{ipv4_text, socket_v6_text}
use Rattle.std.specs.declared.net.ip_addr.IpAddr.{IpAddr}
use Rattle.std.specs.declared.net.ip_addr.IpAddr.TheVariants.{V4, V6}
use Rattle.std.specs.declared.net.socket_addr.SocketAddr.{SocketAddr}
use Rattle.std.specs.declared.net.socket_addr.SocketAddr.TheVariants as Socket
use Rattle.stun_grammar.specs.declared.error.StunParseError.{StunParseError}
use Rattle.stun_grammar.specs.declared.error.StunParseError.TheVariants.{Truncated, InvalidAttributeData}
use Rattle.stun_grammar.specs.Numbers.{be16, be32, be96}
use Rattle.stun_grammar.specs.Headers.{magic_cookie}
use Rattle.stun_grammar.specs.Lengths.{exact_fault}

-- the family: 1 for IPv4 and 2 for IPv6
abbrev pub family : IpAddr → ℕ
family (V4 ip) = 1
family (V6 ip) = 2

-- the four or sixteen bytes of an address, the most significant first
abbrev pub octets : IpAddr → List ℕ
octets (V4 ip) = ipv4_octets ip
octets (V6 ip) = ipv6_octets ip

-- a zero, the family, the port in two bytes, and the address
abbrev pub address_value : SocketAddr → List ℕ
address_value a = 0 ∷ family (socket_ip a) ∷ (be16 (socket_port a) ++ octets (socket_ip a))

-- flow info and scope ID are 0: the wire format has no field for them
pub record IsPlain (a : SocketAddr) : Type 0 where
  pub flowinfo : socket_flowinfo a ≡ 0
  pub scope_id : socket_scope_id a ≡ 0

-- how many bytes an address has
abbrev pub octets_count : IpAddr → ℕ
octets_count (V4 ip) = 4
octets_count (V6 ip) = 16

-- what the Rust type guarantees of every address: a port of sixteen bits, and as many bytes as its
-- family has
pub record IsInRange (a : SocketAddr) : Type 0 where
  pub port : socket_port a < 2 ^ 16
  pub octets_are : length (octets (socket_ip a)) ≡ octets_count (socket_ip a)

-- a value, whose first byte is ignored, spells this address
pub record Spells (value : List ℕ) (a : SocketAddr) : Type 0 where
  pub spelled : drop 1 value ≡ drop 1 (address_value a)
  pub plain : IsPlain a

-- why a value isn't an address
abbrev pub address_fault : List ℕ → Option StunParseError
address_fault value =
    let n = length value in
    let kind = slice_index value 1 in
    if nat_lt n 4 then Some (Truncated 4 n) else (
    if kind == 1 then exact_fault 8 n else (
    if kind == 2 then exact_fault 20 n else
    Some InvalidAttributeData))

-- the address in a value that has no fault: its IP address, and its port, the high byte first
abbrev pub ip_in : List ℕ → IpAddr
ip_in value =
    if slice_index value 1 == 1 then V4 (record { octets = drop 4 value })
    else V6 (record { segments = segments_of (drop 4 value) })

abbrev pub port_in : List ℕ → ℕ
port_in value = slice_index value 2 * 256 + slice_index value 3

abbrev pub plain_socket : IpAddr → ℕ → SocketAddr
plain_socket (V4 ip) port = Socket.V4 (record { ip = ip; port = port })
plain_socket (V6 ip) port = Socket.V6 (record { ip = ip; port = port; flowinfo = 0; scope_id = 0 })

abbrev pub address_in : List ℕ → SocketAddr
address_in value = plain_socket (ip_in value) (port_in value)

-- ---- XORed addresses (RFC 8489, section 14.2)

-- what an address is XORed with: the magic cookie, followed by the transaction ID
abbrev pub mask : ℕ → List ℕ
mask id = be32 magic_cookie ++ be96 id

-- each byte XORed with the one at the same index
abbrev pub xor_bytes : List ℕ → List ℕ → List ℕ
xor_bytes xs ys = map (λ pair. bit_xor pair.0 pair.1) (zip xs ys)

-- the value of an XOR-MAPPED-ADDRESS: as `address_value`, but for the port and the address, which are
-- XORed
abbrev pub xored_value : ℕ → SocketAddr → List ℕ
xored_value id a =
    0 ∷ family (socket_ip a) ∷ (be16 (bit_xor (socket_port a) (magic_cookie / 2 ^ 16))
    ++ xor_bytes (octets (socket_ip a)) (mask id))

-- an address XORed under a transaction ID: its port with the high half of the cookie, its bytes
-- with the mask
pub record IsXored (id : ℕ) (a xored : SocketAddr) : Type 0 where
  pub family_is : is_ipv6 (socket_ip xored) ≡ is_ipv6 (socket_ip a)
  pub port_is : socket_port xored ≡ bit_xor (socket_port a) (magic_cookie / 2 ^ 16)
  pub octets_are : octets (socket_ip xored) ≡ xor_bytes (octets (socket_ip a)) (mask id)
  pub plain : IsPlain xored

-- a XORed address as it is printed: of IPv4 the address without the XOR, which takes no transaction
-- ID; of IPv6 the address as it is written
abbrev pub xored_text : SocketAddr → List ℕ
xored_text (Socket.V4 a) =
    ipv4_text (xor_bytes (ipv4_octets (v4_ip a)) (be32 magic_cookie)) ++ codes ":"
    ++ decimal (bit_xor (v4_port a) (magic_cookie / 2 ^ 16))
xored_text (Socket.V6 a) = codes "XOR(" ++ socket_v6_text a ++ codes ")"
