-- What a response changes of the pair of its request (RFC 8445, section 7.2.5).
use Rattle.std.specs.Prelude.{ℕ, ◌+◌, Bool, false, List, find, min}
use Rattle.std.specs.Option.{option_map_or}
use Rattle.stun_endpoints.specs.declared.endpoints.Endpoint.{Endpoint}
use Rattle.ice_machine.specs.declared.messages.Request.{Request}
use Rattle.ice_machine.specs.declared.pairs.Pair.{Pair}
use Rattle.ice_machine.specs.Agents.{seconds}
use Rattle.ice_machine.specs.Steps.{succeeds, fails, retried, is_request, is_symmetric}
use Rattle.ice_agent_state.specs.declared.responding.Change.{Change}
use Rattle.ice_agent_state.specs.declared.responding.Change.TheVariants.{Succeed, Fail, Retry}

abbrev pub changed_by : Change → Pair → Pair
changed_by (Succeed role now request) = succeeds role now request
changed_by Fail = fails
changed_by Retry = retried

-- until when time changes no pair after that, if it changed none until a moment: the peer's consent that a success
-- shows lasts for 30 seconds (RFC 7675, section 5.1)
abbrev pub steady_by : Change → (until : ℕ) → ℕ
steady_by (Succeed role now request) until = min until (now + seconds 30)
steady_by Fail until = until
steady_by Retry until = until

-- a response to a request that is waited for, symmetric with it (7.2.5.2.1)
abbrev pub is_counted : (base : ℕ) → (from : Endpoint) → (id : ℕ) → List Request → Bool
is_counted base from id requests =
    option_map_or (is_symmetric base from) (find (is_request id) requests) false
