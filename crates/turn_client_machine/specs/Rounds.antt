-- A client that is polled again and again, and whose requests the server grants at once.
use Rattle.std.specs.Prelude.{◌≡◌, ◌⊎◌, ◌<◌, ◌≤◌, ◌+◌, ℕ, zero, suc, true, false, List, [], ◌∷◌, ◌++◌, length, None}
use Rattle.std.specs.List.{AllByRecursion}
use Rattle.turn_client_machine.specs.Clients.{Endpoint, seconds, Setup, Kind, Allocate, Refresh, Delete, Permit, Bind, Allocated, Peer, State}
use Rattle.turn_client_machine.specs.Events.{Answer, Extended, Done, Event, permits, binds, responds, polls, Output, asks, send_to, send_on, shows, nothing}
use Rattle.turn_client_machine.specs.Steps.{Step, step}
use Rattle.turn_client_machine.specs.Runs.{Timed, run}

-- the success response to a request of a client that has an allocation
abbrev pub success_to : (lifetime : ℕ) → Kind → Answer
success_to lifetime Allocate = Done
success_to lifetime Refresh = Extended lifetime
success_to lifetime Delete = Extended 0
success_to lifetime (Permit peer) = Done
success_to lifetime (Bind number peer) = Done

-- the success response comes at once
abbrev pub replied : Setup → (lifetime now : ℕ) → State → Output → State
replied setup lifetime now state (asks r others) =
    (step setup state now 0 (responds setup.server r.id true (success_to lifetime r.kind))).state
replied setup lifetime now state (send_to peer bytes) = state
replied setup lifetime now state (send_on number bytes) = state
replied setup lifetime now state (shows peer bytes) = state
replied setup lifetime now state nothing = state

abbrev pub replied_to : Setup → (lifetime now : ℕ) → Step → State
replied_to setup lifetime now s = replied setup lifetime now s.state s.output

-- a poll, and the success response to its request
abbrev pub exchange : Setup → (lifetime now fresh : ℕ) → State → State
exchange setup lifetime now fresh state =
    replied_to setup lifetime now (step setup state now fresh polls)

abbrev pub exchanges : Setup → (lifetime now fresh : ℕ) → (n : ℕ) → State → State
exchanges setup lifetime now fresh zero state = state
exchanges setup lifetime now fresh (suc n) state =
    exchange setup lifetime now (fresh + n) (exchanges setup lifetime now fresh n state)

-- at each of these moments, the newest first, one exchange for the allocation and each peer
abbrev pub rounds : Setup → (lifetime fresh : ℕ) → (moments : List ℕ) → State → State
rounds setup lifetime fresh [] state = state
rounds setup lifetime fresh (now ∷ earlier) state =
    let before = rounds setup lifetime fresh earlier state in
    exchanges setup lifetime now fresh (suc (length before.peers)) before

-- each moment is at most `late` after the one before
abbrev pub AreClose : Setup → (lifetime fresh late : ℕ) → (moments : List ℕ) → State → Type 0
AreClose setup lifetime fresh late [] state = Unit {0}
AreClose setup lifetime fresh late (now ∷ earlier) state =
    (now ≤ (rounds setup lifetime fresh earlier state).clock + late)
    × AreClose setup lifetime fresh late earlier state

-- ---- The same as events

-- the success response, if a request was sent
abbrev pub reply_events : Setup → (lifetime now : ℕ) → Output → List Timed
reply_events setup lifetime now (asks r others) =
    record {
      now = now;
      fresh = 0;
      event = responds setup.server r.id true (success_to lifetime r.kind);
    } ∷ []
reply_events setup lifetime now (send_to peer bytes) = []
reply_events setup lifetime now (send_on number bytes) = []
reply_events setup lifetime now (shows peer bytes) = []
reply_events setup lifetime now nothing = []

abbrev pub exchange_events : Setup → (lifetime now fresh : ℕ) → List Timed → List Timed
exchange_events setup lifetime now fresh events =
    reply_events setup lifetime now (step setup (run setup events) now fresh polls).output
    ++ record { now = now; fresh = fresh; event = polls } ∷ events

abbrev pub exchanges_events : Setup → (lifetime now fresh : ℕ) → (n : ℕ) → List Timed → List Timed
exchanges_events setup lifetime now fresh zero events = events
exchanges_events setup lifetime now fresh (suc n) events =
    exchange_events setup lifetime now (fresh + n)
    (exchanges_events setup lifetime now fresh n events)

abbrev pub rounds_events : Setup → (lifetime fresh : ℕ) → (moments : List ℕ) → List Timed
    → List Timed
rounds_events setup lifetime fresh [] events = events
rounds_events setup lifetime fresh (now ∷ earlier) events =
    let before = rounds_events setup lifetime fresh earlier events in
    exchanges_events setup lifetime now fresh (suc (length (run setup before).peers)) before

-- ---- The start

-- A peer that is new, was granted, or is over: no request is under way, and if it isn't over,
-- there are 40 seconds from when it is due to its deadline
pub record IsCalmPeer (clock : ℕ) (p : Peer) : Type 0 where
  pub asked : p.over ≡ false → (0 < p.expires_at) ⊎ (p.task.due ≤ clock)
  pub free : p.task.pending ≡ None
  pub time : p.over ≡ false → p.task.due + seconds 40 ≤ p.task.deadline
  pub ends : p.over ≡ false → 0 < p.expires_at → p.task.deadline + seconds 20 ≤ p.expires_at

-- the same of the allocation, with 20 seconds, as when it was just opened or refreshed
pub record IsCalm (state : State) : Type 0 where
  pub allocation : state.phase ≡ Allocated
  pub free : state.task.pending ≡ None
  pub time : state.task.due + seconds 20 ≤ state.task.deadline
  pub peers : AllByRecursion (IsCalmPeer state.clock) state.peers

-- the user asks for a peer
abbrev pub IsNaming : Event → Type 0
IsNaming event = (peer : Endpoint) × ((event ≡ permits peer) ⊎ (event ≡ binds peer))
