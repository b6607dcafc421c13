use Rattle.turn_allocations.proofs.MeteringLemmas.{meters}
use Rattle.turn_allocations.proofs.laws.meters_count.Goals as goal

pub returns : goal.returns
returns c = meters
