-- The state of a TURN server (RFC 8656, sections 6, 9 and 12): its relayed addresses that haven't
-- expired. An allocation is the one or two relayed addresses of a 5-tuple, at most one of each
-- family. All moments are nanoseconds of the caller's clock, from its start.
use Rattle.std.specs.Prelude.{ℕ, ◌*◌, Bool, ◌&&◌, List, length, count_by, nat_lt, ◌==◌, if◌then◌else◌}
use Rattle.std.specs.List.{list_any}
use Rattle.stun_endpoints.specs.declared.endpoints.Ip.{Ip}
use Rattle.stun_endpoints.specs.declared.endpoints.Endpoint.{Endpoint}
use Rattle.stun_endpoints.specs.declared.endpoints.FiveTuple.{FiveTuple}
use Rattle.stun_endpoints.specs.Endpoints.{is_ip, is_endpoint, is_tuple}
pub use Rattle.turn_machine.specs.declared.grants.Permission.{Permission}
pub use Rattle.turn_machine.specs.declared.grants.Channel.{Channel}

abbrev pub seconds : ℕ → ℕ
seconds n = n * 1_000_000_000

-- A relayed address: the client and the user that asked for it, and the transaction ID of the
-- request; its family; the number and the address of its socket; and the moment at which it ends
pub record Relay : Type 0 where
  pub tuple : FiveTuple
  pub user : ℕ
  pub transaction_id : ℕ
  pub family : ℕ
  pub number : ℕ
  pub address : Endpoint
  pub expires_at : ℕ
  pub permissions : List Permission
  pub channels : List Channel

-- Set once, by the caller: the most relayed addresses, in all and for one user; the most
-- reservations; the most permissions and channels of each relayed address; the greatest lifetime, in
-- seconds; the last channel number, which is 0x4FFF, or 0x7FFF to serve clients of RFC 5766; the
-- families that the server supports; whether it can set the DF bit, whether it relays ICMP, and
-- whether the permission of a ChannelBind request lasts as long as the channel
pub record Setup : Type 0 where
  pub most_relays : ℕ
  pub most_of_user : ℕ
  pub most_reservations : ℕ
  pub most_permissions : ℕ
  pub most_channels : ℕ
  pub greatest_lifetime : ℕ
  pub last_channel : ℕ
  pub has_family : ℕ → Bool
  pub supports_dont_fragment : Bool
  pub passes_icmp : Bool
  pub channel_permits : Bool

-- How many seconds the permission of a ChannelBind request lasts: 300 (9); or as long as the channel,
-- which departs from the RFC
abbrev pub bound_for : Setup → ℕ
bound_for setup = if setup.channel_permits then 600 else 300

-- The rules in force at an event: the IP addresses with which clients may exchange data, and the
-- transport addresses to which they may send
pub record Rules : Type 0 where
  pub allows_ip : Ip → Bool
  pub allows_port : Endpoint → Bool

-- the latest moment of any event; a lower bound of the next socket's number; and the relayed
-- addresses
pub record State : Type 0 where
  pub clock : ℕ
  pub next : ℕ
  pub relays : List Relay

-- ---- The owner of a relayed address

abbrev pub is_live : ℕ → Relay → Bool
is_live now a = nat_lt now a.expires_at

abbrev pub is_of : FiveTuple → Relay → Bool
is_of tuple a = is_tuple tuple a.tuple

abbrev pub is_for : FiveTuple → (family : ℕ) → Relay → Bool
is_for tuple family a = is_of tuple a && (a.family == family)

abbrev pub is_users : (user : ℕ) → Relay → Bool
is_users user a = a.user == user

abbrev pub is_owned : FiveTuple → (user : ℕ) → Relay → Bool
is_owned tuple user a = is_of tuple a && is_users user a

abbrev pub is_at : (number : ℕ) → Relay → Bool
is_at number a = a.number == number

-- ---- Room and quota (5 and 7.2). The state has only what is live, so what has expired doesn't
-- count

abbrev pub has_room : Setup → State → Bool
has_room setup state = nat_lt (length state.relays) setup.most_relays

abbrev pub has_quota : Setup → (user : ℕ) → State → Bool
has_quota setup user state = nat_lt (count_by (is_users user) state.relays) setup.most_of_user

-- ---- Permissions and channels

-- ports are not considered (9)
abbrev pub is_permission : ℕ → Ip → Permission → Bool
is_permission now ip p = is_ip ip p.ip && nat_lt now p.expires_at

abbrev pub is_permitted : ℕ → Ip → Relay → Bool
is_permitted now ip a = list_any (is_permission now ip) a.permissions

abbrev pub is_channel : ℕ → (number : ℕ) → Channel → Bool
is_channel now number c = (c.number == number) && nat_lt now c.expires_at

abbrev pub is_channel_of : ℕ → Endpoint → Channel → Bool
is_channel_of now peer c = is_endpoint c.peer peer && nat_lt now c.expires_at
