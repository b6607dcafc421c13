use Rattle.std.proofs.Common.{◌≡◌, ◌-◌, get_or, subst, arith}
use Rattle.ice_machine.specs.Checks.{score}
use Rattle.ice_agent_state.specs.Agents.{Held}
use Rattle.ice_agent_state.proofs.PairsLemmas.{best_step, best_skip}
use Rattle.ice_agent_state.proofs.agent.AgentState.most_urgent.Goals as goal

pub loop-at-preserved : goal.loop-at-preserved
loop-at-preserved c = record {
  within = let w = c.loop-at.invariant.within in omega (arith, w);
  so_far = best_step (score c.args.self.now.setup c.args.self.now.state) c.args.self.now.state.pairs c.loop-at.at c.index-pair.result.now c.index-pair.result.now c.score-score.result c.loop-at.best c.better-best.result
      c.loop-at-test.true c.loop-at.invariant.within (subst (λ (z : Held). c.index-pair.result.now ≡ get_or z.state.pairs (c.loop-at.at - 1) c.index-pair.result.now) c.self.view_is c.index-pair.ensures) c.score-score.ensures.value c.loop-at.invariant.so_far c.better-best.ensures;
  known = c.score-score.ensures.known;
}

pub loop-at-preserved-then-score-eq0 : goal.loop-at-preserved-then-score-eq0
loop-at-preserved-then-score-eq0 c = record {
  within = let w = c.loop-at.invariant.within in omega (arith, w);
  so_far = best_skip (score c.args.self.now.setup c.args.self.now.state) c.args.self.now.state.pairs c.loop-at.at c.index-pair.result.now c.index-pair.result.now c.score-score.result c.loop-at.best
      c.loop-at-test.true c.loop-at.invariant.within (subst (λ (z : Held). c.index-pair.result.now ≡ get_or z.state.pairs (c.loop-at.at - 1) c.index-pair.result.now) c.self.view_is c.index-pair.ensures) c.score-score.ensures.value c.if-score-eq0.true c.loop-at.invariant.so_far;
  known = c.score-score.ensures.known;
}
