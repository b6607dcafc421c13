use Rattle.std.proofs.Common.{refl}
use Rattle.turn_machine.proofs.ReservingLemmas.{claimed, claimed_again, held_bounded, held_distinct, held_few, not_claimed, outputs_are, refused_reserve_nothing, token_is_own, repeated, reserved, state_is}
use Rattle.turn_machine.proofs.laws.reservations.reservations_are_kept.Goals as goal

pub returns-clause-state : goal.returns-clause-state
returns-clause-state c = state_is

pub returns-clause-outputs : goal.returns-clause-outputs
returns-clause-outputs c = outputs_are

pub returns-clause-few : goal.returns-clause-few
returns-clause-few c = held_few

pub returns-clause-bounded : goal.returns-clause-bounded
returns-clause-bounded c = held_bounded

pub returns-clause-distinct : goal.returns-clause-distinct
returns-clause-distinct c = held_distinct

pub returns-clause-reserved : goal.returns-clause-reserved
returns-clause-reserved c = reserved

pub returns-clause-claimed : goal.returns-clause-claimed
returns-clause-claimed c = claimed

pub returns-clause-not_claimed : goal.returns-clause-not_claimed
returns-clause-not_claimed c = not_claimed

pub returns-clause-shown : goal.returns-clause-shown
returns-clause-shown c = token_is_own

pub returns-clause-refused : goal.returns-clause-refused
returns-clause-refused c = refused_reserve_nothing

pub returns-clause-again : goal.returns-clause-again
returns-clause-again c = repeated

pub returns-clause-claimed_again : goal.returns-clause-claimed_again
returns-clause-claimed_again c = claimed_again

pub returns-clause-others : goal.returns-clause-others
returns-clause-others c = λ setup rules h now event. (refl, refl, refl)

pub returns-clause-expired : goal.returns-clause-expired
returns-clause-expired c = λ setup rules h now outer. refl
