-- Addresses of the standard library as two numbers, and back.
use Rattle.std.specs.Prelude.{◌^◌, Bool, ◌&&◌, ◌||◌, ◌==◌, nat_lt, if◌then◌else◌}
use Rattle.std.specs.Int.{w128, to_be_bytes}
use Rattle.std.specs.Net.Addr.{segments_of}
use Rattle.std.specs.Net.Socket.{socket_ip, socket_port}
use Rattle.std.specs.declared.net.ip_addr.IpAddr.{IpAddr}
use Rattle.std.specs.declared.net.ip_addr.IpAddr.TheVariants.{V4, V6}
use Rattle.std.specs.declared.net.socket_addr.SocketAddr.{SocketAddr}
use Rattle.stun_grammar.specs.Numbers.{number, be32}
use Rattle.stun_values.specs.Addresses.{family, octets, plain_socket}
use Rattle.stun_endpoints.specs.Endpoints.{Ip, Endpoint}

-- whether it is an address: the family is that of IPv4 or of IPv6, and the number has no more bits
-- than an address of it
abbrev pub is_address : Ip → Bool
is_address ip =
    ((ip.family == 1) && nat_lt ip.number (2 ^ 32))
    || ((ip.family == 2) && nat_lt ip.number (2 ^ 128))

-- the family of an IP address, and its bytes as a number
abbrev pub ip_of : IpAddr → Ip
ip_of a = record { family = family a; number = number (octets a) }

-- a number as the four bytes of an IPv4 address, if the family is 1, or as the sixteen of an IPv6
-- address
abbrev pub ip_addr_of : Ip → IpAddr
ip_addr_of ip =
    if ip.family == 1 then V4 (record { octets = be32 ip.number })
    else V6 (record { segments = segments_of (to_be_bytes w128 ip.number) })

-- an address without flow info and scope ID, which may differ between two datagrams of one client
abbrev pub endpoint_of : SocketAddr → Endpoint
endpoint_of a = record { ip = ip_of (socket_ip a); port = socket_port a }

-- flow info and scope ID are 0
abbrev pub socket_of : Endpoint → SocketAddr
socket_of e = plain_socket (ip_addr_of e.ip) e.port
