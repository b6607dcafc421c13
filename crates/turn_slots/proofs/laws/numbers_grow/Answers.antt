use Rattle.turn_slots.proofs.NumbersLemmas.{numbers_grow}
use Rattle.turn_slots.proofs.laws.numbers_grow.Goals as goal

pub returns : goal.returns
returns c = numbers_grow
