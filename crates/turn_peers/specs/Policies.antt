-- Which peers a server accepts by its policy (RFC 8656, section 21).
use Rattle.std.specs.Prelude.{Bool, not, ◌&&◌}
use Rattle.stun_endpoints.specs.declared.endpoints.Ip.{Ip}
use Rattle.turn_peers.specs.Tunnels.{is_tunnelled}

-- whether an IP address may be a peer's: the policy allows it, and it is none of Teredo or 6to4, which a
-- server must not accept (section 21.4)
abbrev pub is_peer : (Ip → Bool) → Ip → Bool
is_peer address ip = not (is_tunnelled ip) && address ip
