-- One step of the server: the state after an event, the output, and the numbers of the sockets that
-- the caller closes.
use Rattle.std.specs.Prelude.{ℕ, ◌+◌, Bool, true, false, not, ◌&&◌, List, [], ◌++◌, map, filter, Option, ◌==◌, if◌then◌else◌}
use Rattle.std.specs.List.{list_any}
use Rattle.std.specs.Option.{option_map_or}
use Rattle.stun_endpoints.specs.declared.endpoints.Endpoint.{Endpoint}
use Rattle.stun_endpoints.specs.declared.endpoints.FiveTuple.{FiveTuple}
use Rattle.turn_machine.specs.Relays.{seconds, Relay, Setup, bound_for, Rules, State, is_users, is_owned, is_at}
use Rattle.turn_machine.specs.Events.{Want, Request, allocate, unfit_allocate, refresh, permit, bind, unfit, Event, asks, sends, sends_on, arrives, bounces, ends, ends_user, ticks, refreshed, done, refused, Output, answers, nothing}
use Rattle.turn_machine.specs.Times.{at, numbers, over_at, granted_for, refreshed_for, left_of}
use Rattle.turn_machine.specs.Opening.{opens, allocation_answer}
use Rattle.turn_machine.specs.Rows.{with_permission_for, permissions_after, with_channel, fault}
use Rattle.turn_machine.specs.Data.{relayed}

pub record Step : Type 0 where
  pub state : State
  pub output : Output
  pub closes : List ℕ

-- ---- Changes of the state

abbrev pub changed : FiveTuple → (user : ℕ) → (Relay → Relay) → State → State
changed tuple user change state =
    record state { relays = map (λ a. if is_owned tuple user a then change a else a) state.relays }

-- The relayed addresses that pass a test end: they leave the state, and their sockets are to be
-- closed
abbrev pub without : (Relay → Bool) → State → State
without test state = record state { relays = filter (λ a. not (test a)) state.relays }

abbrev pub closing : (Relay → Bool) → Output → State → Step
closing test output state = record {
  state = without test state;
  output = output;
  closes = numbers (filter test state.relays);
}

-- A Refresh request is for one family, or for all that the client has (8.2)
abbrev pub is_wanted : (family : Option ℕ) → Relay → Bool
is_wanted family a = option_map_or (λ f. a.family == f) family true

abbrev pub lasting : (family : Option ℕ) → (expires_at : ℕ) → Relay → Relay
lasting family expires_at a = if is_wanted family a then record a { expires_at = expires_at } else a

abbrev pub permitting : ℕ → List Endpoint → Relay → Relay
permitting now peers a = record a { permissions = permissions_after now peers a }

-- a channel, and a permission for so many seconds (12.2)
abbrev pub binding : (lifetime now number : ℕ) → Endpoint → Relay → Relay
binding lifetime now number peer a =
    if peer.ip.family == a.family then record a {
      permissions = with_permission_for lifetime now peer.ip a.permissions;
      channels = with_channel now number peer a.channels;
    } else a

-- ---- Requests that no row refuses

abbrev pub keeping : State → Output → Step
keeping state output = record { state = state; output = output; closes = [] }

abbrev pub allocates : Setup → FiveTuple → (user id lifetime : ℕ) → List Want → State → Step
allocates setup tuple user id lifetime wants state =
    let after = opens setup tuple user id (state.clock + seconds lifetime) wants state in
    keeping after (answers tuple (allocation_answer setup tuple lifetime wants after))

-- with a lifetime of 0 the relayed address ends at once (8.2)
abbrev pub refreshes : FiveTuple → (user : ℕ) → (family : Option ℕ) → (lifetime : ℕ) → State → Step
refreshes tuple user family lifetime state =
    if lifetime == 0
    then closing (λ a. is_owned tuple user a && is_wanted family a)
    (answers tuple (refreshed lifetime)) state
    else keeping (changed tuple user (lasting family (state.clock + seconds lifetime)) state)
    (answers tuple (refreshed lifetime))

abbrev pub fulfils : Setup → FiveTuple → (user : ℕ) → Request → State → Step
fulfils setup tuple user (allocate id lifetime wants) state =
    allocates setup tuple user id (granted_for lifetime setup.greatest_lifetime) wants state
fulfils setup tuple user (unfit_allocate code) state = keeping state (answers tuple done)
fulfils setup tuple user (refresh family lifetime) state =
    refreshes tuple user family (refreshed_for lifetime setup.greatest_lifetime) state
fulfils setup tuple user (permit peers) state =
    keeping (changed tuple user (permitting state.clock peers) state) (answers tuple done)
fulfils setup tuple user (bind number peer) state =
    keeping (changed tuple user (binding (bound_for setup) state.clock number peer) state)
    (answers tuple done)
fulfils setup tuple user (unfit code) state = keeping state (answers tuple done)

-- ---- All requests

-- An Allocate request that comes again, by its transaction ID (7.2, the note on idempotency)
abbrev pub is_again : FiveTuple → (user : ℕ) → Request → State → Bool
is_again tuple user (allocate id lifetime wants) state =
    list_any (λ a. is_owned tuple user a && (a.transaction_id == id)) state.relays
is_again tuple user _ state = false

abbrev pub answers_again : Setup → FiveTuple → Request → State → Output
answers_again setup tuple (allocate id lifetime wants) state =
    answers tuple (allocation_answer setup tuple (left_of tuple state) wants state)
answers_again setup tuple _ state = nothing

abbrev pub refuses : FiveTuple → State → (code : ℕ) → Step
refuses tuple state code = keeping state (answers tuple (refused code))

abbrev pub serves_new : Setup → Rules → FiveTuple → (user : ℕ) → Request → State → Step
serves_new setup rules tuple user request state =
    option_map_or (refuses tuple state) (fault setup rules state tuple user request)
    (fulfils setup tuple user request state)

abbrev pub serves : Setup → Rules → FiveTuple → (user : ℕ) → Request → State → Step
serves setup rules tuple user request state =
    if is_again tuple user request state
    then keeping state (answers_again setup tuple request state)
    else serves_new setup rules tuple user request state

-- ---- The step

abbrev pub happens : Setup → Rules → State → Event → Step
happens setup rules state (asks tuple user request) = serves setup rules tuple user request state
happens setup rules state (ends number) = closing (is_at number) nothing state
happens setup rules state (ends_user user) = closing (is_users user) nothing state
happens setup rules state (sends tuple peer dont_fragment bytes) =
    keeping state (relayed setup rules state (sends tuple peer dont_fragment bytes))
happens setup rules state (sends_on tuple number bytes) =
    keeping state (relayed setup rules state (sends_on tuple number bytes))
happens setup rules state (arrives number peer bytes) =
    keeping state (relayed setup rules state (arrives number peer bytes))
happens setup rules state (bounces number peer icmp) =
    keeping state (relayed setup rules state (bounces number peer icmp))
happens setup rules state ticks = keeping state nothing

-- what has expired ends before the event counts
abbrev pub step : Setup → Rules → State → ℕ → Event → Step
step setup rules state now event =
    let s = happens setup rules (at now state) event in
    record s { closes = over_at now state ++ s.closes }
