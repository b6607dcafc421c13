-- The blocks of the special-purpose address registry (RFC 6890, tables 1 to 29; of SRv6, RFC
-- 9602), those of multicast and of sites, and three that hold IPv4 addresses: which addresses are at their ends, and which are beside them. A
-- Python program computed them (ipaddress).
use Rattle.std.specs.Prelude.{ℕ, List, [], ◌∷◌}
use Rattle.std.specs.declared.net.ip_addr.IpAddr.{IpAddr}
use Rattle.std.specs.declared.net.ip_addr.IpAddr.TheVariants.{V4, V6}
use Rattle.turn_peers.specs.declared.ranges.PeerRange.{PeerRange}
use Rattle.turn_peers.specs.Ranges.{all_ports}
use Rattle.stun_endpoints.specs.Conversions.{ip_of}

abbrev pub ipv4 : (a b c d : ℕ) → IpAddr
ipv4 a b c d = V4 (record { octets = a ∷ b ∷ c ∷ d ∷ [] })

abbrev pub ipv6 : (a b c d e f g h : ℕ) → IpAddr
ipv6 a b c d e f g h = V6 (record { segments = a ∷ b ∷ c ∷ d ∷ e ∷ f ∷ g ∷ h ∷ [] })

-- The first and the last address of each IPv4 block to which a server doesn't relay, and the
-- addresses before and after a block that are in another one
abbrev pub closed_ipv4 : List IpAddr
closed_ipv4 =
    -- 0.0.0.0/8, this network
    ipv4 0 0 0 0 ∷
    ipv4 0 255 255 255 ∷
    -- 10.0.0.0/8, private use
    ipv4 10 0 0 0 ∷
    ipv4 10 255 255 255 ∷
    -- 100.64.0.0/10, shared address space
    ipv4 100 64 0 0 ∷
    ipv4 100 127 255 255 ∷
    -- 127.0.0.0/8, loopback
    ipv4 127 0 0 0 ∷
    ipv4 127 255 255 255 ∷
    -- 169.254.0.0/16, link local
    ipv4 169 254 0 0 ∷
    ipv4 169 254 255 255 ∷
    -- 172.16.0.0/12, private use
    ipv4 172 16 0 0 ∷
    ipv4 172 31 255 255 ∷
    -- 192.0.0.0/24, IETF protocol assignments
    ipv4 192 0 0 0 ∷
    ipv4 192 0 0 255 ∷
    -- 192.0.0.0/29, DS-Lite
    ipv4 192 0 0 7 ∷
    ipv4 192 0 0 8 ∷
    -- 192.88.99.0/24, 6to4 relay anycast
    ipv4 192 88 99 0 ∷
    ipv4 192 88 99 255 ∷
    -- 192.168.0.0/16, private use
    ipv4 192 168 0 0 ∷
    ipv4 192 168 255 255 ∷
    -- 198.18.0.0/15, benchmarking
    ipv4 198 18 0 0 ∷
    ipv4 198 19 255 255 ∷
    -- 240.0.0.0/4, reserved
    ipv4 239 255 255 255 ∷
    ipv4 240 0 0 0 ∷
    ipv4 255 255 255 255 ∷
    -- 255.255.255.255/32, limited broadcast
    ipv4 255 255 255 254 ∷
    -- 224.0.0.0/4, multicast (RFC 1112, section 4)
    ipv4 224 0 0 0 ∷
    []

-- the addresses before and after those blocks that are in none, and the same of the other blocks
abbrev pub open_ipv4 : List IpAddr
open_ipv4 =
    -- 0.0.0.0/8, this network
    ipv4 1 0 0 0 ∷
    -- 10.0.0.0/8, private use
    ipv4 9 255 255 255 ∷
    ipv4 11 0 0 0 ∷
    -- 100.64.0.0/10, shared address space
    ipv4 100 63 255 255 ∷
    ipv4 100 128 0 0 ∷
    -- 127.0.0.0/8, loopback
    ipv4 126 255 255 255 ∷
    ipv4 128 0 0 0 ∷
    -- 169.254.0.0/16, link local
    ipv4 169 253 255 255 ∷
    ipv4 169 255 0 0 ∷
    -- 172.16.0.0/12, private use
    ipv4 172 15 255 255 ∷
    ipv4 172 32 0 0 ∷
    -- 192.0.0.0/24, IETF protocol assignments
    ipv4 191 255 255 255 ∷
    ipv4 192 0 1 0 ∷
    -- 192.0.2.0/24, TEST-NET-1
    ipv4 192 0 1 255 ∷
    ipv4 192 0 2 0 ∷
    ipv4 192 0 2 255 ∷
    ipv4 192 0 3 0 ∷
    -- 192.88.99.0/24, 6to4 relay anycast
    ipv4 192 88 98 255 ∷
    ipv4 192 88 100 0 ∷
    -- 192.168.0.0/16, private use
    ipv4 192 167 255 255 ∷
    ipv4 192 169 0 0 ∷
    -- 198.18.0.0/15, benchmarking
    ipv4 198 17 255 255 ∷
    ipv4 198 20 0 0 ∷
    -- 198.51.100.0/24, TEST-NET-2
    ipv4 198 51 99 255 ∷
    ipv4 198 51 100 0 ∷
    ipv4 198 51 100 255 ∷
    ipv4 198 51 101 0 ∷
    -- 203.0.113.0/24, TEST-NET-3
    ipv4 203 0 112 255 ∷
    ipv4 203 0 113 0 ∷
    ipv4 203 0 113 255 ∷
    ipv4 203 0 114 0 ∷
    -- 224.0.0.0/4, multicast (RFC 1112, section 4)
    ipv4 223 255 255 255 ∷
    []

-- the same of IPv6
abbrev pub closed_ipv6 : List IpAddr
closed_ipv6 =
    -- ::1/128, loopback
    ipv6 0 0 0 0 0 0 0 0 ∷
    ipv6 0 0 0 0 0 0 0 1 ∷
    ipv6 0 0 0 0 0 0 0 2 ∷
    -- 64:ff9b::/96, IPv4-IPv6 translation
    ipv6 0x64 0xff9b 0 0 0 0 0 0 ∷
    ipv6 0x64 0xff9b 0 0 0 0 0xffff 0xffff ∷
    -- ::ffff:0:0/96, IPv4-mapped
    ipv6 0 0 0 0 0 0xffff 0 0 ∷
    ipv6 0 0 0 0 0 0xffff 0xffff 0xffff ∷
    -- 2001::/23, IETF protocol assignments
    ipv6 0x2001 0 0 0 0 0 0 0 ∷
    ipv6 0x2001 0x1ff 0xffff 0xffff 0xffff 0xffff 0xffff 0xffff ∷
    -- 2001::/32, Teredo
    ipv6 0x2001 0 0xffff 0xffff 0xffff 0xffff 0xffff 0xffff ∷
    ipv6 0x2001 1 0 0 0 0 0 0 ∷
    -- 2001:2::/48, benchmarking
    ipv6 0x2001 1 0xffff 0xffff 0xffff 0xffff 0xffff 0xffff ∷
    ipv6 0x2001 2 0 0 0 0 0 0 ∷
    ipv6 0x2001 2 0 0xffff 0xffff 0xffff 0xffff 0xffff ∷
    ipv6 0x2001 2 1 0 0 0 0 0 ∷
    -- 2001:10::/28, ORCHID
    ipv6 0x2001 0xf 0xffff 0xffff 0xffff 0xffff 0xffff 0xffff ∷
    ipv6 0x2001 0x10 0 0 0 0 0 0 ∷
    ipv6 0x2001 0x1f 0xffff 0xffff 0xffff 0xffff 0xffff 0xffff ∷
    ipv6 0x2001 0x20 0 0 0 0 0 0 ∷
    -- 2002::/16, 6to4
    ipv6 0x2002 0 0 0 0 0 0 0 ∷
    ipv6 0x2002 0xffff 0xffff 0xffff 0xffff 0xffff 0xffff 0xffff ∷
    -- fc00::/7, unique local
    ipv6 0xfc00 0 0 0 0 0 0 0 ∷
    ipv6 0xfdff 0xffff 0xffff 0xffff 0xffff 0xffff 0xffff 0xffff ∷
    -- fe80::/10, link-scoped unicast
    ipv6 0xfe80 0 0 0 0 0 0 0 ∷
    ipv6 0xfebf 0xffff 0xffff 0xffff 0xffff 0xffff 0xffff 0xffff ∷
    -- ::/96, IPv4-compatible (RFC 4291, section 2.5.5.1)
    ipv6 0 0 0 0 0 0 0xffff 0xffff ∷
    -- 64:ff9b:1::/48, IPv4-IPv6 translation in a network (RFC 8215)
    ipv6 0x64 0xff9b 1 0 0 0 0 0 ∷
    ipv6 0x64 0xff9b 1 0xffff 0xffff 0xffff 0xffff 0xffff ∷
    -- ::ffff:0:0:0/96, IPv4-translated (RFC 2765, section 2.1)
    ipv6 0 0 0 0 0xffff 0 0 0 ∷
    ipv6 0 0 0 0 0xffff 0 0xffff 0xffff ∷
    -- 5f00::/16, SRv6 (RFC 9602)
    ipv6 0x5f00 0 0 0 0 0 0 0 ∷
    ipv6 0x5f00 0xffff 0xffff 0xffff 0xffff 0xffff 0xffff 0xffff ∷
    -- fec0::/10, site-local (RFC 3879)
    ipv6 0xfec0 0 0 0 0 0 0 0 ∷
    ipv6 0xfeff 0xffff 0xffff 0xffff 0xffff 0xffff 0xffff 0xffff ∷
    -- ff00::/8, multicast (RFC 4291, section 2.7)
    ipv6 0xff00 0 0 0 0 0 0 0 ∷
    ipv6 0xffff 0xffff 0xffff 0xffff 0xffff 0xffff 0xffff 0xffff ∷
    []

-- and of these the addresses that are in no such block
abbrev pub open_ipv6 : List IpAddr
open_ipv6 =
    -- 64:ff9b::/96, IPv4-IPv6 translation
    ipv6 0x64 0xff9a 0xffff 0xffff 0xffff 0xffff 0xffff 0xffff ∷
    ipv6 0x64 0xff9b 0 0 0 1 0 0 ∷
    -- ::ffff:0:0/96, IPv4-mapped
    ipv6 0 0 0 0 0 0xfffe 0xffff 0xffff ∷
    ipv6 0 0 0 0 1 0 0 0 ∷
    -- 100::/64, discard only
    ipv6 0xff 0xffff 0xffff 0xffff 0xffff 0xffff 0xffff 0xffff ∷
    ipv6 0x100 0 0 0 0 0 0 0 ∷
    ipv6 0x100 0 0 0 0xffff 0xffff 0xffff 0xffff ∷
    ipv6 0x100 0 0 1 0 0 0 0 ∷
    -- 2001::/23, IETF protocol assignments
    ipv6 0x2000 0xffff 0xffff 0xffff 0xffff 0xffff 0xffff 0xffff ∷
    ipv6 0x2001 0x200 0 0 0 0 0 0 ∷
    -- 2001:db8::/32, documentation
    ipv6 0x2001 0xdb7 0xffff 0xffff 0xffff 0xffff 0xffff 0xffff ∷
    ipv6 0x2001 0xdb8 0 0 0 0 0 0 ∷
    ipv6 0x2001 0xdb8 0xffff 0xffff 0xffff 0xffff 0xffff 0xffff ∷
    ipv6 0x2001 0xdb9 0 0 0 0 0 0 ∷
    -- 2002::/16, 6to4
    ipv6 0x2001 0xffff 0xffff 0xffff 0xffff 0xffff 0xffff 0xffff ∷
    ipv6 0x2003 0 0 0 0 0 0 0 ∷
    -- fc00::/7, unique local
    ipv6 0xfbff 0xffff 0xffff 0xffff 0xffff 0xffff 0xffff 0xffff ∷
    ipv6 0xfe00 0 0 0 0 0 0 0 ∷
    -- fe80::/10, link-scoped unicast
    ipv6 0xfe7f 0xffff 0xffff 0xffff 0xffff 0xffff 0xffff 0xffff ∷
    -- ::/96, IPv4-compatible (RFC 4291, section 2.5.5.1)
    ipv6 0 0 0 0 0 1 0 0 ∷
    -- 64:ff9b:1::/48, IPv4-IPv6 translation in a network (RFC 8215)
    ipv6 0x64 0xff9b 0 0xffff 0xffff 0xffff 0xffff 0xffff ∷
    ipv6 0x64 0xff9b 2 0 0 0 0 0 ∷
    -- ::ffff:0:0:0/96, IPv4-translated (RFC 2765, section 2.1)
    ipv6 0 0 0 0 0xfffe 0xffff 0xffff 0xffff ∷
    ipv6 0 0 0 0 0xffff 1 0 0 ∷
    -- 5f00::/16, SRv6 (RFC 9602)
    ipv6 0x5eff 0xffff 0xffff 0xffff 0xffff 0xffff 0xffff 0xffff ∷
    ipv6 0x5f01 0 0 0 0 0 0 0 ∷
    []

-- the prefix of the first bits of these addresses
-- all ports of a prefix, and some
abbrev pub prefix4 : (a b c d length : ℕ) → PeerRange
prefix4 a b c d length = all_ports (record { network = ip_of (ipv4 a b c d); length = length })

abbrev pub ports4 : (a b c d length first last : ℕ) → PeerRange
ports4 a b c d length first last = record {
  prefix = record { network = ip_of (ipv4 a b c d); length = length };
  first_port = first;
  last_port = last;
}

abbrev pub prefix6 : (a b c d e f g h length : ℕ) → PeerRange
prefix6 a b c d e f g h length =
    all_ports (record { network = ip_of (ipv6 a b c d e f g h); length = length })
