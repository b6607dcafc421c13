use Rattle.std.proofs.Common.{◌≡◌, length, take}
use Rattle.stun_types.proofs.RunsLemmas.{WritesSoFar}
use Rattle.stun_types.proofs.writing.steps.write_steps_into.Given as goal

abbrev pub invariant-loop-i : goal.invariant-loop-i
invariant-loop-i g l = record {
  so_far : WritesSoFar (λ o. (goal.AttributeWrite-dyn g o.now).Attribute.atype o.now.1) (λ o. (goal.AttributeWrite-dyn g o.now).Attribute.value o.now.1)
      (g.B.MessageWrite.state l.fn.write) (g.B.MessageWrite.state l.write) l.fn.mtype l.fn.id (take l.i l.steps) (take l.i l.verdicts);
  count : length l.verdicts ≡ length l.steps;
}
