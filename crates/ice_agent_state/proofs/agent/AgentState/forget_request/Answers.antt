use Rattle.std.proofs.Common.{◌≤◌, List, length, sym, subst, arith}
use Rattle.std.specs.Prelude.{not}
use Rattle.std.specs.List.{AllByRecursion}
use Rattle.ice_machine.specs.declared.messages.Request.{Request}
use Rattle.ice_machine.specs.Steps.{is_request}
use Rattle.ice_agent_state.specs.Quiet.{StaysAwaited}
use Rattle.ice_agent_state.proofs.ListsLemmas.{filter_few}
use Rattle.ice_agent_state.proofs.QuietLemmas.{each_filtered}
use Rattle.ice_agent_state.proofs.agent.AgentState.forget_request.Goals as goal

pub invariant_of-self : goal.invariant_of-self
invariant_of-self c =
    let fewer = filter_few (λ (r : Request). not (is_request c.args.id r)) c.self.inside.requests.items in
    let few = c.self.invariant.few in
    record {
      early = c.self.invariant.early;
      bases = c.self.invariant.bases;
      remotes = c.self.invariant.remotes;
      pairs = c.self.invariant.pairs;
      few = subst (λ (rs : List Request). length rs ≤ c.self.inside.settings.most_requests) (sym c.end_waiting.ensures) (omega (arith, fewer, few));
      tries = c.self.invariant.tries;
      distinct = c.self.invariant.distinct;
      tried = c.self.invariant.tried;
      steady = c.self.invariant.steady;
      awaited = subst (AllByRecursion (StaysAwaited c.self.inside.quiet_until)) (sym c.end_waiting.ensures) (each_filtered (StaysAwaited c.self.inside.quiet_until) (λ (r : Request). not (is_request c.args.id r)) c.self.inside.requests.items c.self.invariant.awaited);
    }
