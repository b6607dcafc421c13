use Rattle.std.proofs.Common.{refl, sym, ◌∙◌, arith}
use Rattle.ice_machine.specs.Pairs.{pair_of, fits}
use Rattle.ice_agent_state.proofs.PairsLemmas.{with_step}
use Rattle.ice_agent_state.proofs.candidates.pair_remote.Goals as goal

pub loop-at-preserved-then-fits : goal.loop-at-preserved-then-fits
loop-at-preserved-then-fits c = record {
  within = let w = c.loop-at.invariant.within in omega (arith, w);
  capacity = c.add_pair.ensures.capacity ∙ c.loop-at.invariant.capacity;
  so_far = c.add_pair.ensures.items
      ∙ with_step c.args.most (λ b. pair_of b c.args.remote) (λ b. fits b c.args.remote) c.args.bases.now c.loop-at.at _ _ _ _ _ c.loop-at-test.true c.loop-at.invariant.within refl (sym c.fits.ensures ∙ c.if-fits.true) c.new_pair.ensures c.loop-at.invariant.so_far;
}
