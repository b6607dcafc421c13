-- The state of an ICE agent (RFC 8445, sections 5 and 6; RFC 7675, from memory). Moments are
-- nanoseconds of the caller's clock, from its start.
use Rattle.std.specs.Prelude.{ℕ, ◌+◌, ◌*◌, Bool, true, false, ◌&&◌, List, max, min, nat_lt, ◌==◌, if◌then◌else◌, ◌^◌}
use Rattle.stun_endpoints.specs.declared.endpoints.Endpoint.{Endpoint}
use Rattle.stun_endpoints.specs.Endpoints.{is_endpoint}
use Rattle.ice_machine.specs.Roles.{Role, Controlling, Controlled}
pub use Rattle.ice_machine.specs.declared.candidates.Base.{Base}
pub use Rattle.ice_machine.specs.declared.candidates.Remote.{Remote}
pub use Rattle.ice_machine.specs.declared.pairs.PairState.{PairState}
pub use Rattle.ice_machine.specs.declared.pairs.PairState.TheVariants.{Frozen, Waiting, InProgress, Succeeded, Failed, Lost}
pub use Rattle.ice_machine.specs.declared.pairs.Pair.{Pair}
pub use Rattle.ice_machine.specs.declared.messages.Request.{Request}

abbrev pub milliseconds : ℕ → ℕ
milliseconds n = n * 1_000_000

abbrev pub seconds : ℕ → ℕ
seconds n = n * 1_000_000_000

-- Set once, by the caller: the most pairs (6.1.2.5), the most candidates of each side, the most
-- requests that a response is waited for; Ta and RTO (14); the most requests of a check that no
-- response comes to; and how long a controlling agent waits for pairs of greater priority once a pair
-- has succeeded (8.1.1)
pub record Setup : Type 0 where
  pub most_pairs : ℕ
  pub most_candidates : ℕ
  pub most_requests : ℕ
  pub ta : ℕ
  pub rto : ℕ
  pub most_tries : ℕ
  pub patience : ℕ

-- The latest moment of any event; the agent's role and tiebreaker; whether the peer's credentials are
-- known; whether no more candidates of either side follow (RFC 8838, from memory); the candidates of
-- both sides; the pairs; the requests that a response is waited for, the newest first; and the moment
-- before which no request is sent
pub record State : Type 0 where
  pub clock : ℕ
  pub role : Role
  pub tiebreaker : ℕ
  pub ready : Bool
  pub ended : Bool
  pub bases : List Base
  pub remotes : List Remote
  pub pairs : List Pair
  pub requests : List Request
  pub next_request_at : ℕ

-- the least time between two requests (14.2)
abbrev pub pace : Setup → ℕ
pace setup = max (milliseconds 5) setup.ta

-- a base and a remote address together identify a pair (6.1.2.4)
abbrev pub is_at : (base : ℕ) → Endpoint → Pair → Bool
is_at base remote p = (base == p.base) && is_endpoint remote p.remote

-- ---- The states of a pair (6.1.2.6)

abbrev pub is_succeeded : PairState → Bool
is_succeeded Frozen = false
is_succeeded Waiting = false
is_succeeded InProgress = false
is_succeeded Succeeded = true
is_succeeded Failed = false
is_succeeded Lost = false

abbrev pub is_in_progress : PairState → Bool
is_in_progress Frozen = false
is_in_progress Waiting = false
is_in_progress InProgress = true
is_in_progress Succeeded = false
is_in_progress Failed = false
is_in_progress Lost = false

abbrev pub is_waiting : PairState → Bool
is_waiting Frozen = false
is_waiting Waiting = true
is_waiting InProgress = false
is_waiting Succeeded = false
is_waiting Failed = false
is_waiting Lost = false

abbrev pub is_frozen : PairState → Bool
is_frozen Frozen = true
is_frozen Waiting = false
is_frozen InProgress = false
is_frozen Succeeded = false
is_frozen Failed = false
is_frozen Lost = false

abbrev pub is_lost : PairState → Bool
is_lost Frozen = false
is_lost Waiting = false
is_lost InProgress = false
is_lost Succeeded = false
is_lost Failed = false
is_lost Lost = true

-- ---- The priority of a pair (6.1.2.3)

abbrev pub candidates_priority : (of_controlling of_controlled : ℕ) → ℕ
candidates_priority g d = 2 ^ 32 * min g d + 2 * max g d + (if nat_lt d g then 1 else 0)

-- in the agent's role of now, so that a new role needs no computation
abbrev pub pair_priority : Role → Pair → ℕ
pair_priority Controlling p = candidates_priority p.priority p.remote_priority
pair_priority Controlled p = candidates_priority p.remote_priority p.priority
