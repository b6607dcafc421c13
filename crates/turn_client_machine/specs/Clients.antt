-- The state of a TURN client (RFC 8656): one allocation at one server, on one 5-tuple. All moments
-- are nanoseconds of the caller's clock, from its start.
use Rattle.std.specs.Prelude.{ℕ, ◌+◌, Bool, true, false, ◌&&◌, ◌||◌, List, Option, is_some, nat_lt, nat_le, ◌==◌}
use Rattle.std.specs.List.{list_any}
use Rattle.std.specs.Option.{option_map_or}
pub use Rattle.stun_endpoints.specs.declared.endpoints.Ip.{Ip}
pub use Rattle.stun_endpoints.specs.declared.endpoints.Endpoint.{Endpoint}
pub use Rattle.stun_endpoints.specs.Endpoints.{is_ip, is_endpoint}
pub use Rattle.turn_machine.specs.Relays.{seconds}
-- Types that code shares, with their meaning there (`src/`). The kinds of requests: Allocate (7.1),
-- Refresh (8.1), Refresh with lifetime 0, CreatePermission (10.1) and ChannelBind (12.1)
pub use Rattle.turn_client_machine.specs.declared.requests.Kind.{Kind}
pub use Rattle.turn_client_machine.specs.declared.requests.Kind.TheVariants.{Allocate, Refresh, Delete, Permit, Bind}
-- a request; one that waits for its response; and something to be granted by the server, and to be
-- renewed
pub use Rattle.turn_client_machine.specs.declared.requests.Request.{Request}
pub use Rattle.turn_client_machine.specs.declared.tasks.Pending.{Pending}
pub use Rattle.turn_client_machine.specs.declared.tasks.Task.{Task}
-- why a client ended, and its phases
pub use Rattle.turn_client_machine.specs.declared.phases.End.{End}
pub use Rattle.turn_client_machine.specs.declared.phases.End.TheVariants.{Closed, Silent, Rejected, Moved, Useless, IntegrityViolated}
pub use Rattle.turn_client_machine.specs.declared.phases.Phase.{Phase}
pub use Rattle.turn_client_machine.specs.declared.phases.Phase.TheVariants.{Quiet, Asking, Allocated, Closing, Ended}
-- a peer that the user has named, or has dropped since
pub use Rattle.turn_client_machine.specs.declared.peers.Peer.{Peer}

-- Set once, by the caller: the server; the address family to ask for, 1 for IPv4 or 2 for IPv6;
-- whether the transport is reliable, as TCP is; the most peers; the most peers that one
-- CreatePermission request names; the most sendings of one request,
-- and the wait after each (RFC 8489, 6.2.1 and 6.2.2); and how often the server may ask for other
-- credentials before it accepts a request
pub record Setup : Type 0 where
  pub server : Endpoint
  pub family : ℕ
  pub is_reliable : Bool
  pub most_peers : ℕ
  pub most_named : ℕ
  pub most_sends : ℕ
  pub most_retries : ℕ
  pub wait : ℕ → ℕ

pub record State : Type 0 where
  pub clock : ℕ
  pub phase : Phase
  -- the challenge of the server that came last
  pub challenge : Option ℕ
  -- the task of the allocation itself
  pub task : Task
  -- whether a response to its request under way had a wrong integrity
  pub violated : Bool
  pub relayed : Endpoint
  pub mapped : Endpoint
  -- when the allocation expires at the earliest
  pub expires_at : ℕ
  pub peers : List Peer

-- ---- Tests

abbrev pub is_allocated : Phase → Bool
is_allocated Quiet = false
is_allocated Asking = false
is_allocated Allocated = true
is_allocated (Closing why) = false
is_allocated (Ended why) = false

abbrev pub is_active : Phase → Bool
is_active Quiet = false
is_active Asking = true
is_active Allocated = true
is_active (Closing why) = true
is_active (Ended why) = false

abbrev pub is_peer : Endpoint → Peer → Bool
is_peer address p = is_endpoint address p.address

-- the user has dropped it
abbrev pub is_dropped : Peer → Bool
is_dropped p = is_some p.rests_until

-- it was dropped, and its number has rested long enough for another peer
abbrev pub is_rested : (now : ℕ) → Peer → Bool
is_rested now p = p.over && option_map_or (λ until. nat_le until now) p.rests_until false

-- the server permits the IP address (9: ports are not considered)
abbrev pub is_permitted : (now : ℕ) → Ip → Peer → Bool
is_permitted now ip p = is_ip ip p.address.ip && nat_lt now p.expires_at

-- This very peer has a channel that lasts 20 seconds more. A channel whose renewal was refused
-- expires, and ChannelData under way at that moment would be lost
abbrev pub has_channel : (now : ℕ) → Endpoint → Peer → Bool
has_channel now address p =
    is_peer address p
    && (nat_lt now p.expires_at && nat_lt (now + seconds 20) p.channel_expires_at)

abbrev pub is_bind : Kind → Bool
is_bind Allocate = false
is_bind Refresh = false
is_bind Delete = false
is_bind (Permit peer) = false
is_bind (Bind number peer) = true

-- a ChannelBind request for the peer is under way
abbrev pub is_binding : Peer → Bool
is_binding p = option_map_or (λ q. is_bind q.request.kind) p.task.pending false

-- whether ChannelData with this number is data of the peer: it has the number, and its channel is
-- live. ChannelData may come before the response to the ChannelBind request (12), so the peer's
-- data is also shown while that request is under way, if the server permits its IP address
abbrev pub hears : (now number : ℕ) → List Peer → Peer → Bool
hears now number peers p =
    (p.number == number) && (nat_lt now p.channel_expires_at
    || (is_binding p && list_any (is_permitted now p.address.ip) peers))
