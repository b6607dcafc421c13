use Rattle.turn_machine.specs.Reserving.{is_claim, held_at}
use Rattle.turn_machine.specs.Times.{at}
use Rattle.std.specs.Prelude.{find}
use Rattle.turn_allocations.specs.Requests.{has_numbers}
use Rattle.turn_reservations.specs.Requests.{number_of, number_for}
use Rattle.turn_server.proofs.ReservedLemmas.{all_reserved, claim_refused, claim_fulfilled}
use Rattle.turn_server.proofs.laws.reservations_are_for_their_users.Goals as goal

pub returns-clause-reserved : goal.returns-clause-reserved
returns-clause-reserved c = all_reserved

pub returns-clause-refused : goal.returns-clause-refused
returns-clause-refused c = λ setup rules h now site tuple numbers d user claim key algorithm judged none.
    claim_refused setup rules h now site tuple numbers d user claim key algorithm judged
    (c.reservations_are_kept.ensures.not_claimed setup rules h now tuple user claim.id claim.lifetime claim.token (number_for (has_numbers (at now h.state)) numbers (find (is_claim user claim.token) (held_at now h))) none)

pub returns-clause-claimed : goal.returns-clause-claimed
returns-clause-claimed c = λ setup rules h now site tuple numbers d user claim key algorithm r judged open_is found fit.
    claim_fulfilled setup rules h now site tuple numbers d user claim key algorithm judged r open_is found
    (c.reservations_are_kept.ensures.claimed setup rules h now tuple user claim.id claim.lifetime claim.token (number_of r.family numbers) r found fit)
