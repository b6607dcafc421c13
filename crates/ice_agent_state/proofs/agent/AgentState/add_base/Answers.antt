use Rattle.std.proofs.Common.{max, arith}
use Rattle.ice_agent_state.specs.Agents.{setup_of}
use Rattle.ice_agent_state.specs.Tried.{IsTried}
use Rattle.ice_agent_state.specs.Quiet.{IsSteady}
use Rattle.ice_agent_state.proofs.QuietLemmas.{new_steady}
use Rattle.ice_agent_state.proofs.TriedLemmas.{pair_of_tried, base_each, base_distinct}
use Rattle.ice_agent_state.proofs.agent.AgentState.add_base.Goals as goal

pub invariant_of-self : goal.invariant_of-self
invariant_of-self c =
    let most = max 1 c.self.inside.settings.most_tries in
    let setup = setup_of c.self.inside.settings in
    let until = c.self.inside.quiet_until in
    let bases = c.self.invariant.bases in
    let base_room = c.put_first.ensures.capacity in
    let pairs = c.self.invariant.pairs in
    let pair_room = c.pair_base.ensures.capacity in
    record {
      early = c.self.invariant.early;
      bases = omega (arith, bases, base_room);
      remotes = c.self.invariant.remotes;
      pairs = omega (arith, pairs, pair_room);
      few = c.self.invariant.few;
      tries = c.self.invariant.tries;
      distinct = base_distinct c.self.inside.settings.most_pairs c.args.base c.deref-2.result.now c.self.inside.pairs.items _ c.pair_base.ensures.items c.self.invariant.distinct;
      tried = base_each (IsTried most) (pair_of_tried most) c.self.inside.settings.most_pairs c.args.base c.deref-2.result.now c.self.inside.pairs.items _ c.pair_base.ensures.items c.self.invariant.tried;
      steady = base_each (IsSteady setup until) (new_steady setup until) c.self.inside.settings.most_pairs c.args.base c.deref-2.result.now c.self.inside.pairs.items _ c.pair_base.ensures.items c.self.invariant.steady;
      awaited = c.self.invariant.awaited;
    }
