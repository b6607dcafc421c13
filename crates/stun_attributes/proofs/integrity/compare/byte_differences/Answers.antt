use Rattle.std.proofs.Common.{arith}
use Rattle.stun_attributes.proofs.CompareLemmas.{next_byte, all_compared}
use Rattle.stun_attributes.proofs.integrity.compare.byte_differences.Goals as goal

pub loop-i-preserved : goal.loop-i-preserved
loop-i-preserved c = next_byte c.args.left.now c.args.right.now c.loop-i.difference c.loop-i.i c.loop-i.invariant

pub returns : goal.returns
returns c = all_compared c.args.left.now c.args.right.now c.loop-i.difference c.loop-i.i (omega arith) (omega arith) c.loop-i.invariant
