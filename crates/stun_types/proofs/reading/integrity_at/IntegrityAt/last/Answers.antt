use Rattle.stun_types.proofs.IntegrityAtLemmas.{either_shown, other_shown}
use Rattle.stun_types.proofs.reading.integrity_at.IntegrityAt.last.Goals as goal

pub returns-in-Some-of : goal.returns-in-Some-of
returns-in-Some-of c = rw c.in_default.is (either_shown c.args.bytes.now _ c.in-Some-of.ensures)

pub returns-in-None : goal.returns-in-None
returns-in-None c = rw c.in_default.is (rw (other_shown c.args.bytes.now c.in-None.ensures) c.of-in-None.ensures)
