-- Ranges of peers: a prefix of IP addresses, and ports.
use Rattle.std.specs.Prelude.{ℕ, ◌-◌, ◌/◌, ◌^◌, Bool, ◌&&◌, ◌==◌, nat_le, min, Option, Some, None}
use Rattle.stun_endpoints.specs.declared.endpoints.Ip.{Ip}
use Rattle.turn_peers.specs.declared.networks.Prefix.{Prefix}
use Rattle.turn_peers.specs.declared.ranges.PeerRange.{PeerRange}
use Rattle.turn_peers.specs.Networks.{contains, first_bits}

-- every port of the addresses of a prefix
abbrev pub all_ports : Prefix → PeerRange
all_ports prefix = record { prefix = prefix; first_port = 0; last_port = 65535 }

abbrev pub has_all_ports : PeerRange → Bool
has_all_ports r = (r.first_port == 0) && (r.last_port == 65535)

abbrev pub has_port : ℕ → PeerRange → Bool
has_port port r = nat_le r.first_port port && nat_le port r.last_port

-- A peer is an IP address with a port, or with any port, as a permission is of an IP address alone (RFC 8656,
-- section 9). One of any port is denied by a range with all ports, and allowed by a range with some port.
abbrev pub denies : Ip → Option ℕ → PeerRange → Bool
denies ip (Some port) r = has_port port r && contains ip r.prefix
denies ip None r = has_all_ports r && contains ip r.prefix

abbrev pub allows : Ip → Option ℕ → PeerRange → Bool
allows ip (Some port) r = has_port port r && contains ip r.prefix
allows ip None r = contains ip r.prefix

abbrev pub has_ip : Ip → PeerRange → Bool
has_ip ip r = contains ip r.prefix

-- whether some addresses of a family with a first octet are in a range: it is that of the prefix, as far as the
-- prefix goes
abbrev pub has_octet : (family octet : ℕ) → PeerRange → Bool
has_octet family octet r =
    let known = min 8 r.prefix.length in
    (r.prefix.network.family == family) && (octet / 2 ^ (8 - known) == first_bits known r.prefix.network)
