-- Addresses, and the 5-tuple that identifies a client (RFC 8656, section 2).
use Rattle.std.specs.Prelude.{ℕ, ◌+◌, ◌*◌, Bool, ◌&&◌, ◌==◌}
pub use Rattle.stun_endpoints.specs.declared.endpoints.Ip.{Ip}
pub use Rattle.stun_endpoints.specs.declared.endpoints.Endpoint.{Endpoint}
pub use Rattle.stun_endpoints.specs.declared.endpoints.FiveTuple.{FiveTuple}

abbrev pub is_ip : Ip → Ip → Bool
is_ip a b = (a.family == b.family) && (a.number == b.number)

abbrev pub is_endpoint : Endpoint → Endpoint → Bool
is_endpoint a b = is_ip a.ip b.ip && (a.port == b.port)

abbrev pub is_tuple : FiveTuple → FiveTuple → Bool
is_tuple a b =
    is_endpoint a.client b.client
    && (is_endpoint a.server b.server && (a.transport == b.transport))

-- the families, the protocol and the ports as one number, which a hash takes in
abbrev pub small_parts : FiveTuple → ℕ
small_parts t =
    ((t.client.ip.family * 256 + t.server.ip.family) * 256 + t.transport) * 4_294_967_296
    + (t.client.port * 65_536 + t.server.port)
