-- Addresses of tunnels to IPv6 (RFC 8656, section 21.4).
use Rattle.std.specs.Prelude.{◌/◌, ◌^◌, Bool, ◌&&◌, ◌||◌, ◌==◌}
use Rattle.stun_endpoints.specs.declared.endpoints.Ip.{Ip}

-- whether an address is one of Teredo, 2001::/32 (RFC 4380, section 2.6), or of 6to4, 2002::/16 (RFC
-- 3056, section 2)
abbrev pub is_tunnelled : Ip → Bool
is_tunnelled ip =
    (ip.family == 2)
    && ((ip.number / 2 ^ 96 == 0x2001_0000) || (ip.number / 2 ^ 112 == 0x2002))
