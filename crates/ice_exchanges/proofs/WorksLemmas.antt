-- What an agent does not leave undone, in what its calls return.
use Rattle.std.proofs.Common.{◌≡◌, ℕ, ◌≤◌, ◌+◌, Bool, true, false, cond, List, [], ◌∷◌, inl, inr, Option, None, Some, Result, ap, subst, ◌∙◌, arith}
use Rattle.stun_grammar.specs.declared.error.StunWriteError.{StunWriteError}
use Rattle.stun_endpoints.specs.declared.endpoints.Endpoint.{Endpoint}
use Rattle.ice_machine.specs.declared.pairs.Pair.{Pair}
use Rattle.ice_machine.specs.Events.{Output}
use Rattle.ice_machine.specs.Fairness.{HasAsked}
use Rattle.ice_machine.specs.Silence.{is_request_to}
use Rattle.ice_machine.specs.Steps.{at}
use Rattle.ice_machine.specs.Works.{IsBusy as IsBusyMachine}
use Rattle.ice_agent_state.specs.declared.routing.Route.{Route}
use Rattle.ice_agent_state.specs.Agents.{Held, output_at}
use Rattle.ice_agent_state.specs.Outputs.{data_by}
use Rattle.ice_agent_state.specs.Statuses.{route_of}
use Rattle.ice_agent.specs.declared.sending.Sending.{Sending}
use Rattle.ice_agent.specs.Agents.{Agent}
use Rattle.ice_agent.specs.Runs.{Moment, after_all, event_in, fresh_in, timed_all}
use Rattle.ice_agent.specs.Sending.{Polls}
use Rattle.ice_exchanges.specs.Datagrams.{output_of}
use Rattle.ice_exchanges.specs.Silences.{requests_to}
use Rattle.ice_exchanges.specs.Works.{IsBusy}
use Rattle.ice_exchanges.proofs.RunsLemmas.{held_is}

-- the route that data goes by
pub route_is : (p : Pair) (bytes : List ℕ) (result : Option Route) → data_by bytes (Some (route_of p)) ≡ data_by bytes result → result ≡ Some (route_of p)
route_is p bytes None e = absurd cc
route_is p bytes (Some route) e =
    let base : route.base ≡ p.base = cc in
    let to : route.to ≡ p.remote = cc in
    λ i. Some (record { base = base i; to = to i })

-- what a poll writes
pub keeps_busy : (agent : Agent) (now fresh : ℕ) (old new : List ℕ) (result : Result (Option Sending) StunWriteError) (output : Output)
    → IsBusyMachine agent.held.setup (at agent.held.setup now agent.held.state) fresh output → Polls agent output old new result → IsBusy agent now fresh old new result
keeps_busy agent now fresh old new result output (inr idle) polled = inr idle
keeps_busy agent now fresh old new result output (inl first) polled = inl (record {
  pair = first.pair;
  known = first.known;
  sent = subst (λ (o : Output). Polls agent o old new result) first.asked polled;
  first = first.first;
})

-- a request that the machine has sent is counted
count_one : (b : Bool) (n : ℕ) → b ≡ true → 1 ≤ cond b (1 + n) n
count_one true n e = omega arith
count_one false n e = absurd cc

count_more : (b : Bool) (n : ℕ) → 1 ≤ n → 1 ≤ cond b (1 + n) n
count_more true n e = omega arith
count_more false n e = e

pub asked_counts : (base : ℕ) (to : Endpoint) (agent : Agent) (moments : List Moment) → HasAsked agent.held.setup base to agent.held.state (timed_all agent moments) → 1 ≤ requests_to base to agent moments
asked_counts base to agent [] h = absurd h
asked_counts base to agent (m ∷ earlier) (inl e) =
    let before = after_all agent earlier in
    count_one (is_request_to base to (output_of before m)) (requests_to base to agent earlier)
    (ap (λ (h : Held). is_request_to base to (output_at m.now (fresh_in m.fresh m.call) (event_in before m.call) h)) (held_is agent earlier) ∙ e)
asked_counts base to agent (m ∷ earlier) (inr h) =
    count_more (is_request_to base to (output_of (after_all agent earlier) m)) (requests_to base to agent earlier) (asked_counts base to agent earlier h)
