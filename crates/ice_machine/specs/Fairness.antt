-- Consent checks in turn, so that none starves (RFC 7675, section 5.1).
use Rattle.std.specs.Prelude.{◌≡◌, ℕ, zero, suc, ◌+◌, ◌*◌, ◌-◌, ◌^◌, ◌<◌, ◌≤◌, ◌⊎◌, Bool, true, false, not, ◌&&◌, ◌||◌, List, [], ◌∷◌, None, nat_le, if◌then◌else◌}
use Rattle.std.specs.List.{list_any}
use Rattle.stun_endpoints.specs.declared.endpoints.Endpoint.{Endpoint}
use Rattle.ice_machine.specs.Agents.{seconds, Succeeded, Pair, Setup, State, is_at, is_succeeded}
use Rattle.ice_machine.specs.Events.{Event, gathers, learns, meets, ends, checks, responds, strays, arrives, sends, polls, Accepted, Output, asks, answers, data_to, data_from, nothing}
use Rattle.ice_machine.specs.Roles.{Controlled}
use Rattle.ice_machine.specs.Examples.{setup_1, base_1, remote_1, end_1, address}
use Rattle.ice_machine.specs.Pairs.{pair_of}
use Rattle.ice_machine.specs.Checks.{is_choice}
use Rattle.ice_machine.specs.Steps.{at, is_open, step}
use Rattle.ice_machine.specs.Runs.{Timed}
use Rattle.ice_machine.specs.Meetings.{End, OneAmong, disturbed}
use Rattle.ice_machine.specs.Lasting.{Watch, IsElsewhere, IsAnsweredBy, watched}
use Rattle.ice_machine.specs.Silence.{is_request_to}

-- a valid pair whose next request is due at a moment, or before
abbrev pub is_ahead : (due : ℕ) → Pair → Bool
is_ahead due q = is_succeeded q.state && nat_le q.due due

-- how many there are
abbrev pub ahead : (due : ℕ) → List Pair → ℕ
ahead due [] = 0
ahead due (q ∷ qs) = (if is_ahead due q then 1 else 0) + ahead due qs

-- at a poll a request may be sent, no check is triggered, and no nomination begins
abbrev pub is_turn : Setup → State → Event → Bool
is_turn setup s (gathers b) = false
is_turn setup s (learns r) = false
is_turn setup s meets = false
is_turn setup s ends = false
is_turn setup s (checks c) = false
is_turn setup s (responds base from id answer) = false
is_turn setup s (strays base from id size code) = false
is_turn setup s (arrives base from bytes) = false
is_turn setup s (sends component bytes) = false
is_turn setup s polls = is_open s && not (list_any (λ q. q.triggered || is_choice setup s q) s.pairs)

-- how many such polls there are in a run
abbrev pub turns : Setup → State → List Timed → ℕ
turns setup s [] = 0
turns setup s (t ∷ earlier) =
    (if is_turn setup (at setup t.now (disturbed setup s earlier)) t.event then 1 else 0)
    + turns setup s earlier

-- a request was sent from a base to an address
abbrev pub HasAsked : Setup → (base : ℕ) → Endpoint → State → List Timed → Type 0
HasAsked setup base to s [] = ⊥
HasAsked setup base to s (t ∷ earlier) =
    (is_request_to base to (step setup (disturbed setup s earlier) t.now t.fresh t.event).output ≡ true)
    ⊎ HasAsked setup base to s earlier

-- the pair of the way is valid, its next request is due at a moment, and the peer consents beyond
-- another one
pub record IsDueWay (e : End) (due last : ℕ) (p : Pair) : Type 0 where
  pub there : is_at e.base e.to p ≡ true
  pub valid : is_succeeded p.state ≡ true
  pub is_due : p.due ≡ due
  pub consented : last < p.expires_at

abbrev pub HasDue : End → (due last : ℕ) → State → Type 0
HasDue e due last s = OneAmong (IsDueWay e due last) (IsElsewhere e) s.pairs

-- ---- A valid pair keeps its consent

abbrev pub valid_pairs : List Pair → ℕ
valid_pairs [] = 0
valid_pairs (p ∷ ps) = (if is_succeeded p.state then 1 else 0) + valid_pairs ps

-- how many turns there are at a moment and later
abbrev pub turns_from : Setup → State → (from : ℕ) → List Timed → ℕ
turns_from setup s from [] = 0
turns_from setup s from (t ∷ earlier) =
    let now = at setup t.now (disturbed setup s earlier) in
    (if is_turn setup now t.event && nat_le from now.clock then 1 else 0) + turns_from setup s from earlier

abbrev pub unasked : Watch
unasked = record { free_at = 0; asked_at = None }

-- in the last gap there were so many turns, or the run has begun; and once the way has been asked on, an
-- answer to one of the requests on it comes within a delay
abbrev pub IsPunctual : Setup → End → (n gap delay : ℕ) → State → List Timed → (now : ℕ) → Type 0
IsPunctual setup e n gap delay s events now =
    ((now ≤ s.clock + gap) ⊎ (n ≤ turns_from setup s (now - gap) events))
    × IsAnsweredBy delay now (watched setup e s unasked events).asked_at

-- so it is at each event, and there are at most as many valid pairs
abbrev pub IsFairCourse : Setup → End → (n gap delay : ℕ) → State → List Timed → Type 0
IsFairCourse setup e n gap delay s [] = Unit {0}
IsFairCourse setup e n gap delay s (t ∷ earlier) =
    let before = disturbed setup s earlier in
    IsFairCourse setup e n gap delay s earlier × (before.clock ≤ t.now) × (t.now < 2 ^ 64)
    × (valid_pairs before.pairs ≤ n) × IsPunctual setup e n gap delay s earlier t.now

-- the pair of the way is valid, and its next request is due within 6 seconds, long before its consent ends
pub record IsKeptWay (e : End) (clock : ℕ) (p : Pair) : Type 0 where
  pub there : is_at e.base e.to p ≡ true
  pub valid : is_succeeded p.state ≡ true
  pub ahead : clock ≤ p.due
  pub near : p.due ≤ clock + seconds 6
  pub lasting : p.due + seconds 24 ≤ p.expires_at

abbrev pub HasKept : End → State → Type 0
HasKept e s = OneAmong (IsKeptWay e s.clock) (IsElsewhere e) s.pairs

-- ---- An example

-- two valid pairs of one component, both due at once, of which the first has the greater priority
abbrev pub valid_1 : (n priority : ℕ) → Pair
valid_1 n priority = record (pair_of (base_1 1 priority) (remote_1 n priority)) {
  state = Succeeded;
  expires_at = seconds 30;
}

abbrev pub both_due : State
both_due = record {
  clock = 0;
  role = Controlled;
  tiebreaker = 5;
  ready = true;
  ended = false;
  bases = [];
  remotes = [];
  pairs = valid_1 20 2130706431 ∷ valid_1 21 16777215 ∷ [];
  requests = [];
  next_request_at = 0;
}

-- each request is answered at once
abbrev pub answered_at_once : Setup → (now : ℕ) → State → Output → State
answered_at_once setup now s (asks r) = (step setup s now 0 (responds r.base r.to r.id Accepted)).state
answered_at_once setup now s (answers base to id answer) = s
answered_at_once setup now s (data_to base to bytes) = s
answered_at_once setup now s (data_from component bytes) = s
answered_at_once setup now s nothing = s

-- Ta is 5 s, and the least wait of 4 s is drawn each time: after so many polls
abbrev pub polled_each_5_s : (n : ℕ) → State → State
polled_each_5_s zero s = s
polled_each_5_s (suc n) s =
    let setup = record setup_1 { ta = seconds 5 } in
    let t = step setup (polled_each_5_s n s) (seconds 5 * n) (2_001 * n) polls in
    answered_at_once setup (seconds 5 * n) t.state t.output

-- the same as a list of events: at each poll the other pair is asked on
abbrev pub five_seconds : (n to : ℕ) → List Timed → List Timed
five_seconds n to earlier =
    record { now = seconds 5 * n; fresh = 0; event = responds 1 (address to) (2_001 * n) Accepted }
    ∷ record { now = seconds 5 * n; fresh = 2_001 * n; event = polls } ∷ earlier

abbrev pub in_turn : List Timed
in_turn = five_seconds 5 21 (five_seconds 4 20 (five_seconds 3 21 (five_seconds 2 20
    (five_seconds 1 21 (five_seconds 0 20 [])))))

-- with a gap of 10 s and no delay, the premises of `consent_is_kept` hold
abbrev pub IsFairExample : Type 0
IsFairExample = let setup = record setup_1 { ta = seconds 5 } in
    HasKept (end_1 21) both_due × IsFairCourse setup (end_1 21) 2 (seconds 10) 0 both_due in_turn
    × IsPunctual setup (end_1 21) 2 (seconds 10) 0 both_due in_turn (seconds 30)

abbrev pub is_valid_at : (base : ℕ) → Endpoint → State → Bool
is_valid_at base to s = list_any (λ p. is_at base to p && is_succeeded p.state) s.pairs
