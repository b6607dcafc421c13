use Rattle.std.proofs.Common.{◌≤◌, sym, subst, arith}
use Rattle.std.specs.List.{AllByRecursion}
use Rattle.ice_agent_state.specs.Agents.{Held, setup_of}
use Rattle.ice_agent_state.specs.Waking.{HoldsFrom, some_by, ends_by}
use Rattle.ice_agent_state.specs.Quiet.{StaysAwaited, capped}
use Rattle.ice_agent_state.proofs.QuietLemmas.{steady_all, all_steady_sooner, all_awaited_sooner}
use Rattle.ice_agent_state.proofs.agent.AgentState.look_ahead.Goals as goal

pub invariant_of-self : goal.invariant_of-self
invariant_of-self c =
    let setup = setup_of c.self.inside.settings in
    let pairs = c.self.inside.pairs.items in
    let requests = c.self.inside.requests.items in
    let end = c.first_loss.result in
    let until = c.min-self-inside.result in
    let holds : HoldsFrom (some_by (ends_by setup) pairs) end = subst (λ (z : Held). HoldsFrom (some_by (ends_by z.setup) z.state.pairs) end) (sym c.self.view_is) c.first_loss.ensures in
    let is = c.moment_of-loss.ensures in
    let least = c.min-self-inside.ensures in
    let by_pairs : until ≤ capped end = omega (arith, is, least) in
    let by_requests : until ≤ c.waited_until.result = omega (arith, least) in
    record {
      early = c.self.invariant.early;
      bases = c.self.invariant.bases;
      remotes = c.self.invariant.remotes;
      pairs = c.self.invariant.pairs;
      few = c.self.invariant.few;
      tries = c.self.invariant.tries;
      distinct = c.self.invariant.distinct;
      tried = c.self.invariant.tried;
      steady = all_steady_sooner setup (capped end) until pairs by_pairs (steady_all setup pairs end holds);
      awaited = all_awaited_sooner c.waited_until.result until requests by_requests (subst (AllByRecursion (StaysAwaited c.waited_until.result)) c.deref.ensures.value c.waited_until.ensures);
    }
