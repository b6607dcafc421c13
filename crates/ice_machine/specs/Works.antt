-- What an agent must not leave undone.
use Rattle.std.specs.Prelude.{◌≡◌, ℕ, ◌+◌, ◌<◌, ◌≤◌, ◌^◌, ◌⊎◌, true, false, List, [], ◌∷◌, find, length, Some}
use Rattle.std.specs.List.{AllByRecursion}
use Rattle.stun_endpoints.specs.declared.endpoints.Endpoint.{Endpoint}
use Rattle.ice_machine.specs.Agents.{seconds, Pair, Request, Setup, State, is_at, is_succeeded, is_lost, pair_priority}
use Rattle.ice_machine.specs.Events.{Check, Accepted, responds, Output, asks}
use Rattle.ice_machine.specs.Checks.{urgency, request_on}
use Rattle.ice_machine.specs.Steps.{at, step}
use Rattle.ice_machine.specs.Bounds.{is_over_at}

-- no request on a pair is due
abbrev pub IsIdle : Setup → State → Pair → Type 0
IsIdle setup state p = urgency setup state p ≡ 0

-- one of a list
abbrev pub IsAmong : Pair → List Pair → Type 0
IsAmong p [] = ⊥
IsAmong p (q ∷ qs) = (p ≡ q) ⊎ IsAmong p qs

-- a request on one pair precedes one on another pair: it is more urgent; or as urgent, and due for as long,
-- if both are valid and due, or else of as great a priority. The clock and the priority of the other one
-- are less than 2^64
pub record Precedes (setup : Setup) (state : State) (p q : Pair) : Type 0 where
  pub urgent : urgency setup state q ≤ urgency setup state p
  pub longer : urgency setup state p ≡ 3 → urgency setup state q ≡ 3 → state.clock < 2 ^ 64
      → p.due ≤ q.due
  pub priority : (urgency setup state p ≡ 3 → ⊥) → urgency setup state q ≡ urgency setup state p
      → pair_priority state.role q < 2 ^ 64 → pair_priority state.role q ≤ pair_priority state.role p

-- a request is sent on a pair, which comes before all others
pub record IsFirstAsked (setup : Setup) (state : State) (fresh : ℕ) (output : Output) : Type 0 where
  pub pair : Pair
  pub known : IsAmong pair state.pairs
  pub asked : output ≡ asks (request_on setup state fresh pair)
  pub first : AllByRecursion (Precedes setup state pair) state.pairs

-- a request is sent on the most urgent pair there is; or none is due on any
abbrev pub IsBusy : Setup → State → (fresh : ℕ) → Output → Type 0
IsBusy setup state fresh output =
    IsFirstAsked setup state fresh output ⊎ AllByRecursion (IsIdle setup state) state.pairs

-- the pair of a base and an address has succeeded, and the peer consents for 30 seconds
pub record IsValid (base : ℕ) (to : Endpoint) (state : State) : Type 0 where
  pub pair : Pair
  pub there : find (is_at base to) state.pairs ≡ Some pair
  pub valid : is_succeeded pair.state ≡ true
  pub consented : pair.expires_at ≡ state.clock + seconds 30

-- if a request is answered with success less than 30 seconds later, and its pair's consent hasn't expired
-- by then, its pair is valid
abbrev pub IsAnsweredInTime : Setup → State → Request → (later anew : ℕ) → Type 0
IsAnsweredInTime setup sent r later anew =
    1 ≤ setup.most_requests → later < r.sent + seconds 30
    → is_over_at r.base r.to (at setup later sent) ≡ false
    → IsValid r.base r.to (step setup sent later anew (responds r.base r.to r.id Accepted)).state

-- a check arrived on a pair: it is valid, or lost, or a request on it is triggered
pub record IsReady (p : Pair) : Type 0 where
  pub heard : p.heard ≡ true
  pub ready : (is_succeeded p.state ≡ true)
      ⊎ ((is_lost p.state ≡ true) ⊎ (p.triggered ≡ true))

pub record IsHeardIn (base : ℕ) (from : Endpoint) (ps : List Pair) : Type 0 where
  pub pair : Pair
  pub there : find (is_at base from) ps ≡ Some pair
  pub ready : IsReady pair

-- the pair of a check that was answered with success, unless there is no room for it
abbrev pub HeardOrFull : Setup → Check → State → Type 0
HeardOrFull setup c after =
    IsHeardIn c.base c.from after.pairs ⊎ (setup.most_pairs ≤ length after.pairs)
