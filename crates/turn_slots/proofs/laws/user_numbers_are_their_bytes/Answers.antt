use Rattle.turn_slots.proofs.UsersLemmas.{user_numbers}
use Rattle.turn_slots.proofs.laws.user_numbers_are_their_bytes.Goals as goal

pub returns : goal.returns
returns c = user_numbers
