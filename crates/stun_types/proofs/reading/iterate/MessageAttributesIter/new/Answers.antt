use Rattle.std.proofs.Common.{length, ap, arith}
use Rattle.stun_types.specs.Iterating.{borrowed}
use Rattle.stun_types.proofs.IteratingLemmas.{nothing_shown, length-items}
use Rattle.stun_types.proofs.reading.iterate.MessageAttributesIter.new.Goals as goal

pub returns-in_default-clause-items : goal.returns-in_default-clause-items
returns-in_default-clause-items c = ap borrowed (nothing_shown 0x8028 c.args.bytes.now _ c.in_default.ensures)

pub returns-in_default-clause-bound : goal.returns-in_default-clause-bound
returns-in_default-clause-bound c = omega (arith, length-items 0x8028 (length c.args.bytes.now) c.args.bytes.now)
