-- A client that is polled for as long as something is due, and whose requests the server grants at once.
use Rattle.std.specs.Prelude.{◌≡◌, ◌⊎◌, ◌≤◌, ◌+◌, ℕ, true, false, List, [], ◌∷◌, ◌++◌}
use Rattle.turn_client_machine.specs.Clients.{Endpoint}
use Rattle.turn_client_machine.specs.Events.{Event, drops, responds, polls, Output, asks, send_to, send_on, shows, nothing}
use Rattle.turn_client_machine.specs.Rounds.{IsNaming, success_to}
use Rattle.turn_client_machine.specs.Steps.{is_free}
use Rattle.turn_client_state.specs.States.{output_at}
use Rattle.turn_client_state.specs.Waking.{wake, is_before}
use Rattle.turn_client.specs.Clients.{Client}
use Rattle.turn_client.specs.Receiving.{event_at}
use Rattle.turn_client.specs.Runs.{Moment, calls, takes, after_all}
use Rattle.turn_client.specs.Histories.{state_at}

-- ---- Polls

-- a poll at a moment at which something is due, and a new request may go out: requests for fewer than eight
-- single peers are under way
pub record IsNeeded (now : ℕ) (before : Client) (m : Moment) : Type 0 where
  pub polled : m.call ≡ calls polls
  pub now_is : m.now ≡ now
  pub woken : is_before (state_at before now).clock (wake before.held.state) ≡ false
  pub free : is_free before.held.state.peers ≡ true

abbrev pub AreNeeded : Client → (now : ℕ) → List Moment → Type 0
AreNeeded client now [] = Unit {0}
AreNeeded client now (m ∷ earlier) =
    IsNeeded now (after_all client earlier) m × AreNeeded client now earlier

-- ---- Exchanges

-- the transaction ID of a poll, and the datagram that comes at once if it writes a request
pub record Exchange : Type 0 where
  pub fresh : ℕ
  pub datagram : List ℕ

abbrev pub poll_at : (now fresh : ℕ) → Moment
poll_at now fresh = record { now = now; fresh = fresh; call = calls polls }

-- the datagram comes from the server
abbrev pub answers_to : Client → (now : ℕ) → List ℕ → Output → List Moment
answers_to client now d (asks r others) =
    record { now = now; fresh = 0; call = takes client.held.settings.server d [] } ∷ []
answers_to client now d (send_to peer bytes) = []
answers_to client now d (send_on number bytes) = []
answers_to client now d (shows peer bytes) = []
answers_to client now d nothing = []

abbrev pub polled_by : Client → (now : ℕ) → Exchange → (earlier : List Moment) → Output
polled_by client now x earlier = output_at now x.fresh polls (after_all client earlier).held

abbrev pub exchanged : Client → (now : ℕ) → Exchange → (earlier : List Moment) → List Moment
exchanged client now x earlier =
    answers_to (after_all client earlier) now x.datagram (polled_by client now x earlier)
    ++ poll_at now x.fresh ∷ earlier

abbrev pub all_exchanged : Client → (now : ℕ) → List Exchange → (earlier : List Moment) → List Moment
all_exchanged client now [] earlier = earlier
all_exchanged client now (x ∷ xs) earlier =
    exchanged client now x (all_exchanged client now xs earlier)

-- the client hears the datagram as the success response to its request: with this lifetime, if it is a Refresh
abbrev pub IsGranted : Client → (lifetime : ℕ) → List ℕ → Output → Type 0
IsGranted client lifetime d (asks r others) =
    event_at client client.held.settings.server d
    ≡ responds client.held.settings.server r.id true (success_to lifetime r.kind)
IsGranted client lifetime d (send_to peer bytes) = Unit {0}
IsGranted client lifetime d (send_on number bytes) = Unit {0}
IsGranted client lifetime d (shows peer bytes) = Unit {0}
IsGranted client lifetime d nothing = Unit {0}

abbrev pub AreGranted : Client → (lifetime now : ℕ) → List Exchange → (earlier : List Moment) → Type 0
AreGranted client lifetime now [] earlier = Unit {0}
AreGranted client lifetime now (x ∷ xs) earlier =
    let before = all_exchanged client now xs earlier in
    IsGranted (after_all client (poll_at now x.fresh ∷ before)) lifetime x.datagram
    (polled_by client now x before)
    × AreGranted client lifetime now xs earlier

-- ---- Rounds

-- the exchanges of one moment, the newest first
pub record Round : Type 0 where
  pub now : ℕ
  pub exchanges : List Exchange

-- all that is called and comes in these rounds, the newest first
abbrev pub all_rounds : Client → List Round → (earlier : List Moment) → List Moment
all_rounds client [] earlier = earlier
all_rounds client (round ∷ rounds) earlier =
    all_exchanged client round.now round.exchanges (all_rounds client rounds earlier)

-- a round comes at most `late` after what came before, each request of it is granted, and then
-- `TurnClient::next_wake` returns a later moment
pub record IsRound (client : Client) (lifetime late : ℕ) (round : Round) (earlier : List Moment) : Type 0
  where
    pub soon : round.now ≤ (after_all client earlier).held.state.clock + late
    pub granted : AreGranted client lifetime round.now round.exchanges earlier
    pub done : let after = after_all client (all_exchanged client round.now round.exchanges earlier) in
        is_before (state_at after round.now).clock (wake after.held.state) ≡ true

abbrev pub AreRounds : Client → (lifetime late : ℕ) → List Round → (earlier : List Moment) → Type 0
AreRounds client lifetime late [] earlier = Unit {0}
AreRounds client lifetime late (round ∷ rounds) earlier =
    IsRound client lifetime late round (all_rounds client rounds earlier)
    × AreRounds client lifetime late rounds earlier

-- the user asks for a peer, or drops one
abbrev pub IsWish : Event → Type 0
IsWish event = IsNaming event ⊎ ((peer : Endpoint) × (event ≡ drops peer))
