-- How much an agent keeps, and how often it sends.
use Rattle.std.specs.Prelude.{◌≡◌, ℕ, ◌+◌, ◌≤◌, Bool, true, false, ◌&&◌, List, [], ◌∷◌, length, if◌then◌else◌, ◌||◌}
use Rattle.std.specs.List.{AllByRecursion, list_any}
use Rattle.stun_endpoints.specs.declared.endpoints.Endpoint.{Endpoint}
use Rattle.ice_machine.specs.Agents.{Pair, Setup, State, is_at, is_succeeded, is_lost}
use Rattle.ice_machine.specs.Events.{Output, asks, answers, data_to, data_from, nothing}
use Rattle.ice_machine.specs.Checks.{is_settled_in}
use Rattle.ice_machine.specs.Steps.{at}
use Rattle.ice_machine.specs.Runs.{Happening}

pub record IsWithin (setup : Setup) (state : State) : Type 0 where
  pub bases : length state.bases ≤ setup.most_candidates
  pub remotes : length state.remotes ≤ setup.most_candidates
  pub pairs : length state.pairs ≤ setup.most_pairs
  pub requests : length state.requests ≤ setup.most_requests

-- no two pairs have the same base and the same remote address
abbrev pub AreDistinct : List Pair → Type 0
AreDistinct [] = Unit {0}
AreDistinct (p ∷ ps) = (list_any (is_at p.base p.remote) ps ≡ false) × AreDistinct ps

abbrev pub is_asking : Output → Bool
is_asking (asks r) = true
is_asking (answers base to id answer) = false
is_asking (data_to base to bytes) = false
is_asking (data_from component bytes) = false
is_asking nothing = false

-- any two requests are at least a gap apart
abbrev pub IsBefore : (gap now : ℕ) → Happening → Type 0
IsBefore gap now h = is_asking h.output ≡ true → h.moment + gap ≤ now

abbrev pub ArePaced : (gap : ℕ) → List Happening → Type 0
ArePaced gap [] = Unit {0}
ArePaced gap (h ∷ earlier) =
    (is_asking h.output ≡ true → AllByRecursion (IsBefore gap h.moment) earlier)
    × ArePaced gap earlier

-- how many requests were sent
abbrev pub requests_sent : List Happening → ℕ
requests_sent [] = 0
requests_sent (h ∷ earlier) =
    if is_asking h.output then 1 + requests_sent earlier else requests_sent earlier

-- the peer's consent has expired for data from a base to an address
abbrev pub is_lost_at : (base : ℕ) → Endpoint → Pair → Bool
is_lost_at base to p = is_at base to p && is_lost p.state

abbrev pub is_over_at : (base : ℕ) → Endpoint → State → Bool
is_over_at base to state = list_any (is_lost_at base to) state.pairs

-- a pair whose consent ends by now is lost
abbrev pub Ends : Setup → (now : ℕ) → State → Pair → Type 0
Ends setup now state p = is_succeeded p.state ≡ true → p.expires_at ≤ (at setup now state).clock
    → is_over_at p.base p.remote (at setup now state) ≡ true

-- at most one pair of a component is picked or nominated
abbrev pub is_marked : Pair → Bool
is_marked p = p.chosen || p.nominated

abbrev pub AreSingle : List Pair → Type 0
AreSingle [] = Unit {0}
AreSingle (p ∷ ps) =
    (is_marked p ≡ true → list_any (is_settled_in p) ps ≡ false) × AreSingle ps
