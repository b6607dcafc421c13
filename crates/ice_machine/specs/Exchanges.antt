-- Checks between two agents, none of which is lost.
use Rattle.std.specs.Prelude.{◌≡◌, ℕ, ◌≤◌, ◌<◌, ◌⊎◌, find, Some}
use Rattle.stun_endpoints.specs.declared.endpoints.Endpoint.{Endpoint}
use Rattle.ice_machine.specs.Roles.{Controlling, Controlled, other_role}
use Rattle.ice_machine.specs.Agents.{Request, Setup, State}
use Rattle.ice_machine.specs.Events.{Check, Answer, checks, responds, answers}
use Rattle.ice_machine.specs.Steps.{Step, at, step, is_request}

-- a request of one agent, as the other one receives it: at a base, from an address that a NAT may have
-- changed
abbrev pub delivered : Request → (base : ℕ) → (from : Endpoint) → Check
delivered r base from = record {
  base = base;
  from = from;
  id = r.id;
  role = r.role;
  tiebreaker = r.tiebreaker;
  nominates = r.nominates;
  priority = r.priority;
}

-- an agent that waits for a response, and what it receives: the other agent's request, and then the
-- response
pub record Side : Type 0 where
  pub setup : Setup
  pub state : State
  pub request : Request
  pub base : ℕ
  pub from : Endpoint
  pub now : ℕ
  pub fresh : ℕ
  pub later : ℕ
  pub anew : ℕ

abbrev pub checked_by : Side → Side → Step
checked_by own peer =
    step own.setup own.state own.now own.fresh (checks (delivered peer.request own.base own.from))

abbrev pub answered_with : Side → State → Answer → State
answered_with own state answer = (step own.setup state own.later own.anew
    (responds own.request.base own.request.to own.request.id answer)).state

-- one agent checks the other one, and receives its response
pub record IsExchange (one other : Side) (answer : Answer) : Type 0 where
  pub shows : one.request.role ≡ one.state.role
  pub answered : (checked_by other one).output ≡ answers other.base other.from one.request.id answer
  pub waits : find (is_request one.request.id) (at one.setup one.later one.state).requests
      ≡ Some one.request

-- both check each other at the same time, so that each responds before it receives the response
pub record IsCrossing (one other : Side) (one_answer other_answer : Answer) : Type 0 where
  pub one_role : one.request.role ≡ one.state.role
  pub other_role : other.request.role ≡ other.state.role
  pub one_number : one.request.tiebreaker ≡ one.state.tiebreaker
  pub other_number : other.request.tiebreaker ≡ other.state.tiebreaker
  pub distinct : one.state.tiebreaker ≡ other.state.tiebreaker → ⊥
  pub one_answered : (checked_by one other).output
      ≡ answers one.base one.from other.request.id one_answer
  pub other_answered : (checked_by other one).output
      ≡ answers other.base other.from one.request.id other_answer
  pub one_waits : find (is_request one.request.id)
      (at one.setup one.later (checked_by one other).state).requests ≡ Some one.request
  pub other_waits : find (is_request other.request.id)
      (at other.setup other.later (checked_by other one).state).requests ≡ Some other.request

-- a check with a lesser tiebreaker, or the same, makes no controlling agent controlled; and one with a
-- greater tiebreaker makes no controlled agent controlling
pub record IsSteady (state after : State) (c : Check) : Type 0 where
  pub greater : c.tiebreaker ≤ state.tiebreaker
      → (after.role ≡ state.role) ⊎ (after.role ≡ Controlling)
  pub lesser : state.tiebreaker < c.tiebreaker
      → (after.role ≡ state.role) ⊎ (after.role ≡ Controlled)
  pub agreed : c.role ≡ other_role state.role → after.role ≡ state.role
