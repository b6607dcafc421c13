-- What is reported of a client: the difference between what it is and what was reported before.
use Rattle.std.specs.Prelude.{ℕ, Bool, true, false, not, ◌&&◌, ◌||◌, ◌==◌, List, replicate, reverse, Option, None, Some, min, slice_set, option_and_then, if◌then◌else◌}
use Rattle.std.specs.List.{position, slice_get, zip}
use Rattle.std.specs.Option.{option_map}
use Rattle.stun_endpoints.specs.declared.endpoints.Endpoint.{Endpoint}
use Rattle.stun_endpoints.specs.Endpoints.{is_endpoint}
use Rattle.turn_client_machine.specs.Clients.{State, is_dropped, is_permitted, has_channel}
use Rattle.turn_client_machine.specs.declared.peers.Peer.{Peer}
use Rattle.turn_client_machine.specs.declared.phases.Phase.{Phase}
use Rattle.turn_client_machine.specs.declared.phases.Phase.TheVariants.{Quiet, Asking, Allocated, Closing, Ended}
use Rattle.turn_client_state.specs.declared.settings.Settings.{Settings}
use Rattle.turn_client_state.specs.declared.reports.Change.{Change}
use Rattle.turn_client_state.specs.declared.reports.Change.TheVariants.{Allocated as IsAllocated, Refreshed, Peer as PeerIs, Closing as IsClosing, Ended as HasEnded}
use Rattle.turn_client_state.specs.declared.reports.Report.{Report}
use Rattle.turn_client_state.specs.declared.reports.Standing.{Standing}
use Rattle.turn_client_state.specs.declared.reports.Standing.TheVariants.{Asked, Permitted, Bound, Over}

-- until when the allocation lasts, 0 before there is one; whether the deletion and the end were reported; and
-- of each peer, by its place, the oldest first
pub record Reports : Type 0 where
  pub until : ℕ
  pub closing : Bool
  pub ended : Bool
  pub peers : List Report

-- ---- Peers

-- it is bound if data goes to it by its channel, and permitted if data goes to it in Send indications (RFC
-- 8656, sections 11.1 and 12.5)
abbrev pub standing_of : (clock : ℕ) → Peer → Standing
standing_of clock p =
    if p.over then Over
    else (if has_channel clock p.address p then Bound
    else (if is_permitted clock p.address.ip p then Permitted else Asked))

abbrev pub report_of : (clock : ℕ) → Peer → Report
report_of clock p = record {
  address = p.address;
  number = p.number;
  standing = standing_of clock p;
  wants = p.wants;
  until = p.expires_at;
  channel_until = p.channel_expires_at;
  code = p.code;
  violated = p.violated;
}

-- nothing: what holds of a peer for which a permission is asked for
abbrev pub nothing_about : Endpoint → Report
nothing_about address = record {
  address = address;
  number = 0;
  standing = Asked;
  wants = false;
  until = 0;
  channel_until = 0;
  code = 0;
  violated = false;
}

-- what was reported of a peer; of another one that had its place, nothing was
abbrev pub reported_of : Peer → Report → Report
reported_of p r = if is_endpoint p.address r.address then r else nothing_about p.address

abbrev pub is_standing : Standing → Standing → Bool
is_standing Asked Asked = true
is_standing Permitted Permitted = true
is_standing Bound Bound = true
is_standing Over Over = true
is_standing _ _ = false

abbrev pub is_same : Bool → Bool → Bool
is_same one other = if one then other else not other

-- a reason counts once the peer is over
abbrev pub is_reason : Standing → Report → Report → Bool
is_reason Over one other = (one.code == other.code) && is_same one.violated other.violated
is_reason _ one other = true

abbrev pub is_report : Report → Report → Bool
is_report one other =
    is_standing one.standing other.standing && (is_same one.wants other.wants
    && ((one.until == other.until) && ((one.channel_until == other.channel_until)
    && is_reason one.standing one other)))

-- a dropped peer is no news: its user knows
abbrev pub is_news : (clock : ℕ) → Peer × Report → Bool
is_news clock x = not (is_dropped x.0 || is_report (report_of clock x.0) (reported_of x.0 x.1))

-- the place of the first peer of which something else holds than was reported
abbrev pub place_of_news : (clock : ℕ) → List Peer → List Report → Option ℕ
place_of_news clock peers reports = position (is_news clock) (zip peers reports)

abbrev pub peer_change : (clock : ℕ) → Peer → Change
peer_change clock p = PeerIs (report_of clock p)

abbrev pub change_at : (clock : ℕ) → List Peer → Option ℕ → Option Change
change_at clock peers place = option_map (peer_change clock) (option_and_then (slice_get peers) place)

abbrev pub noted_at : (clock place : ℕ) → Option Peer → List Report → List Report
noted_at clock place None reports = reports
noted_at clock place (Some p) reports = slice_set reports place (report_of clock p)

abbrev pub marked_at : (clock : ℕ) → List Peer → Option ℕ → List Report → List Report
marked_at clock peers None reports = reports
marked_at clock peers (Some place) reports = noted_at clock place (slice_get peers place) reports

-- ---- The next change: of the allocation, and then of its peers

abbrev pub news_in : State → Reports → Option ℕ
news_in state r = place_of_news state.clock (reverse state.peers) r.peers

abbrev pub allocation_change : State → Reports → Change
allocation_change state r =
    if r.until == 0 then IsAllocated state.relayed state.mapped state.expires_at
    else Refreshed state.expires_at

abbrev pub allocated_change : State → Reports → Option Change
allocated_change state r =
    if r.until == state.expires_at then change_at state.clock (reverse state.peers) (news_in state r)
    else Some (allocation_change state r)

abbrev pub once : (reported : Bool) → Change → Option Change
once reported change = if reported then None else Some change

abbrev pub change_in : Phase → State → Reports → Option Change
change_in Quiet state r = None
change_in Asking state r = None
change_in Allocated state r = allocated_change state r
change_in (Closing why) state r = once r.closing IsClosing
change_in (Ended why) state r = once r.ended (HasEnded why)

abbrev pub next_change : Reports → State → Option Change
next_change r state = change_in state.phase state r

-- ---- It is marked as reported

abbrev pub allocated_marked : State → Reports → Reports
allocated_marked state r =
    if r.until == state.expires_at
    then record r { peers = marked_at state.clock (reverse state.peers) (news_in state r) r.peers }
    else record r { until = state.expires_at }

abbrev pub marked_in : Phase → State → Reports → Reports
marked_in Quiet state r = r
marked_in Asking state r = r
marked_in Allocated state r = allocated_marked state r
marked_in (Closing why) state r = record r { closing = true }
marked_in (Ended why) state r = record r { ended = true }

abbrev pub marked : Reports → State → Reports
marked r state = marked_in state.phase state r

-- ---- At first

abbrev pub nothing_of : Settings → Reports
nothing_of s = record {
  until = 0;
  closing = false;
  ended = false;
  peers = replicate (min s.most_peers 4096) (nothing_about s.server);
}
