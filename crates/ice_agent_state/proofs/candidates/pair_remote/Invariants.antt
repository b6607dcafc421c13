use Rattle.std.proofs.Common.{◌≡◌, ◌≤◌, length, drop, filter, map}
use Rattle.std.specs.Vec.{vec_capacity}
use Rattle.ice_machine.specs.declared.pairs.Pair.{Pair}
use Rattle.ice_machine.specs.Pairs.{pair_of, fits, with_pairs}
use Rattle.ice_agent_state.proofs.candidates.pair_remote.Given as goal

abbrev pub invariant-loop-at : goal.invariant-loop-at
invariant-loop-at l = record {
  within : l.at ≤ length l.bases;
  capacity : vec_capacity l.pairs ≡ vec_capacity l.initial.pairs;
  so_far : l.pairs.items
      ≡ with_pairs l.most (map {B = Pair} (λ b. pair_of b l.remote) (filter (λ b. fits b l.remote) (drop l.at l.bases))) l.initial.pairs.items;
}

abbrev pub decreases-loop-at : goal.decreases-loop-at
decreases-loop-at l = l.at
