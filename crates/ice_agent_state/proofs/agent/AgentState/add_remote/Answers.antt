use Rattle.std.proofs.Common.{max, arith}
use Rattle.ice_agent_state.specs.Agents.{setup_of}
use Rattle.ice_agent_state.specs.Tried.{IsTried}
use Rattle.ice_agent_state.specs.Quiet.{IsSteady}
use Rattle.ice_agent_state.proofs.QuietLemmas.{new_steady}
use Rattle.ice_agent_state.proofs.TriedLemmas.{pair_of_tried, remote_each, remote_distinct}
use Rattle.ice_agent_state.proofs.agent.AgentState.add_remote.Goals as goal

pub invariant_of-self : goal.invariant_of-self
invariant_of-self c =
    let most = max 1 c.self.inside.settings.most_tries in
    let setup = setup_of c.self.inside.settings in
    let until = c.self.inside.quiet_until in
    let remotes = c.self.invariant.remotes in
    let remote_room = c.put_first.ensures.capacity in
    let pairs = c.self.invariant.pairs in
    let pair_room = c.pair_remote.ensures.capacity in
    record {
      early = c.self.invariant.early;
      bases = c.self.invariant.bases;
      remotes = omega (arith, remotes, remote_room);
      pairs = omega (arith, pairs, pair_room);
      few = c.self.invariant.few;
      tries = c.self.invariant.tries;
      distinct = remote_distinct c.self.inside.settings.most_pairs c.args.remote c.deref-2.result.now c.self.inside.pairs.items _ c.pair_remote.ensures.items c.self.invariant.distinct;
      tried = remote_each (IsTried most) (pair_of_tried most) c.self.inside.settings.most_pairs c.args.remote c.deref-2.result.now c.self.inside.pairs.items _ c.pair_remote.ensures.items c.self.invariant.tried;
      steady = remote_each (IsSteady setup until) (new_steady setup until) c.self.inside.settings.most_pairs c.args.remote c.deref-2.result.now c.self.inside.pairs.items _ c.pair_remote.ensures.items c.self.invariant.steady;
      awaited = c.self.invariant.awaited;
    }
