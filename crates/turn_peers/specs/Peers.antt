-- Which peers a TURN server relays to (RFC 8656, section 21).
use Rattle.std.specs.Prelude.{ℕ, ◌+◌, Bool, ◌&&◌, ◌||◌, not, nat_le, List, Option, Some, None}
use Rattle.std.specs.List.{list_all, list_any}
use Rattle.std.specs.Net.Socket.{socket_ip}
use Rattle.std.specs.declared.net.socket_addr.SocketAddr.{SocketAddr}
use Rattle.stun_endpoints.specs.declared.endpoints.Ip.{Ip}
use Rattle.stun_endpoints.specs.declared.endpoints.Endpoint.{Endpoint}
use Rattle.stun_endpoints.specs.Endpoints.{is_endpoint}
use Rattle.stun_endpoints.specs.Conversions.{is_address, ip_of, endpoint_of}
use Rattle.turn_peers.specs.declared.defaults.TheConstants.{DENIED_BY_DEFAULT}
use Rattle.turn_peers.specs.declared.ranges.PeerRange.{PeerRange}
use Rattle.turn_peers.specs.declared.peers.Peers.{Peers}
use Rattle.turn_peers.specs.Ranges.{has_all_ports, denies, allows as range_allows}

-- whether a range whose prefix has at least this length allows a peer
abbrev pub is_allowed_by : List PeerRange → ℕ → Ip → Option ℕ → Bool
is_allowed_by allowed least ip port =
    list_any (λ q. nat_le least q.prefix.length && range_allows ip port q) allowed

-- whether each range that denies a peer is overruled by one that allows it, and whose prefix is longer
-- by at least so many bits
abbrev pub is_open : List PeerRange → List PeerRange → ℕ → Ip → Option ℕ → Bool
is_open denied allowed more ip port =
    list_all (λ p. not (denies ip port p) || is_allowed_by allowed (p.prefix.length + more) ip port) denied

-- The longest prefix decides: a range that denies is overruled by one with a longer prefix that allows, and one
-- that denies by default also by one of the same length, which then has the same prefix.
abbrev pub allows_peer : List PeerRange → List PeerRange → Ip → Option ℕ → Bool
allows_peer denied allowed ip port =
    is_open denied allowed 1 ip port && is_open DENIED_BY_DEFAULT allowed 0 ip port

-- the same of an IP address, as a permission is: with any port
abbrev pub allows_address : List PeerRange → List PeerRange → Ip → Bool
allows_address denied allowed ip = allows_peer denied allowed ip None

abbrev pub allows_ip : Peers → Ip → Bool
allows_ip peers ip = allows_address peers.denied.now peers.allowed.now ip

-- whether each range has all ports, so that the IP address decides
abbrev pub are_whole : List PeerRange → List PeerRange → Bool
are_whole denied allowed = list_all has_all_ports denied && list_all has_all_ports allowed

-- whether a port of an IP address that is allowed is so too
abbrev pub allows_port_of : List PeerRange → List PeerRange → Endpoint → Bool
allows_port_of denied allowed peer =
    are_whole denied allowed || allows_peer denied allowed peer.ip (Some peer.port)

-- whether a transport address is one of those where the server listens, to which its clients send
abbrev pub is_listening : List SocketAddr → Endpoint → Bool
is_listening listening peer = list_any (λ own. is_endpoint (endpoint_of own) peer) listening

-- and a peer isn't the server itself (section 21.1.7)
abbrev pub allows : Peers → SocketAddr → Bool
allows peers peer =
    allows_ip peers (ip_of (socket_ip peer))
    && (not (is_listening peers.listening.now (endpoint_of peer))
    && allows_port_of peers.denied.now peers.allowed.now (endpoint_of peer))

-- the same for a table: what is no address is denied
abbrev pub is_peer_allowed : Peers → Ip → Bool
is_peer_allowed peers ip = is_address ip && allows_ip peers ip

abbrev pub is_port_allowed : Peers → Endpoint → Bool
is_port_allowed peers peer =
    is_address peer.ip
    && (not (is_listening peers.listening.now peer)
    && allows_port_of peers.denied.now peers.allowed.now peer)
