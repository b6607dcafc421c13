use Rattle.std.proofs.Common.{arith}
use Rattle.ice_agent_state.proofs.QuietLemmas.{awaited_step}
use Rattle.ice_agent_state.proofs.settling.waited_until.Goals as goal

pub loop-at-preserved : goal.loop-at-preserved
loop-at-preserved c = record {
  within = let w = c.loop-at.invariant.within in omega (arith, w);
  so_far = awaited_step c.args.requests.now c.loop-at.at c.loop-at.until c.saturating_add.result c.min-until.result _ _ c.loop-at-test.true c.loop-at.invariant.within c.saturating_add.ensures c.min-until.ensures c.loop-at.invariant.so_far;
}
