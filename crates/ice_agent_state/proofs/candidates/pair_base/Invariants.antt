use Rattle.std.proofs.Common.{◌≡◌, ◌≤◌, length, drop, filter, map}
use Rattle.std.specs.Vec.{vec_capacity}
use Rattle.ice_machine.specs.declared.pairs.Pair.{Pair}
use Rattle.ice_machine.specs.Pairs.{pair_of, fits, with_pairs}
use Rattle.ice_agent_state.proofs.candidates.pair_base.Given as goal

abbrev pub invariant-loop-at : goal.invariant-loop-at
invariant-loop-at l = record {
  within : l.at ≤ length l.remotes;
  capacity : vec_capacity l.pairs ≡ vec_capacity l.initial.pairs;
  so_far : l.pairs.items
      ≡ with_pairs l.most (map {B = Pair} (pair_of l.base) (filter (fits l.base) (drop l.at l.remotes))) l.initial.pairs.items;
}

abbrev pub decreases-loop-at : goal.decreases-loop-at
decreases-loop-at l = l.at
