-- What identifies a relayed address: its client and its family (RFC 8656, section 5).
use Rattle.std.specs.Prelude.{ℕ, ◌+◌, ◌*◌, ◌%◌, Bool, ◌&&◌, ◌==◌}
use Rattle.stun_endpoints.specs.Endpoints.{is_tuple}
pub use Rattle.turn_slots.specs.declared.relay_key.RelayKey.{RelayKey}

abbrev pub is_relay : RelayKey → RelayKey → Bool
is_relay a b = is_tuple a.tuple b.tuple && (a.family == b.family)

-- the ports of the client and of the server as one number
abbrev pub ports : RelayKey → ℕ
ports key = key.tuple.client.port * 65_536 + key.tuple.server.port

-- what a hash takes in of a client, as one number: of an IPv4 address its bytes and the ports, and of any other one
-- the family, the protocol and the ports. It is the same for the relayed addresses of one client
abbrev pub ipv4_parts : RelayKey → ℕ
ipv4_parts key = key.tuple.client.ip.number % 4_294_967_296 * 4_294_967_296 + ports key

abbrev pub small_parts : RelayKey → ℕ
small_parts key =
    (key.tuple.client.ip.family * 256 + key.tuple.transport) * 4_294_967_296 + ports key
