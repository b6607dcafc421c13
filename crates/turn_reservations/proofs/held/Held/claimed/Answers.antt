use Rattle.std.proofs.Common.{◌≡◌, find, Option, None, Some, sym, ap, ◌∙◌, subst}
use Rattle.std.specs.Option.{option_map}
use Rattle.turn_slots.specs.Users.{user_number}
use Rattle.turn_machine.specs.Reserving.{Reservation, is_claim}
use Rattle.turn_reservations.specs.Held.{Holding, reservation_of}
use Rattle.turn_reservations.proofs.HeldLemmas.{find_mapped}
use Rattle.turn_reservations.proofs.held.Held.claimed.Goals as goal

pub returns-in-Some : goal.returns-in-Some
returns-in-Some c =
    let test = is_claim (user_number c.args.user) c.args.token in
    subst (λ (v : Holding). Some (reservation_of c.in-Some.found.now) ≡ find test v.held) c.self.view_is
    (ap (option_map reservation_of) (c.in-Some.ensures ∙ ap (find (λ r. test (reservation_of r))) c.deref.ensures.value)
    ∙ sym (find_mapped reservation_of test c.self.inside.reserved.items))

pub returns-in-None : goal.returns-in-None
returns-in-None c =
    let test = is_claim (user_number c.args.user) c.args.token in
    let none : Option Reservation = None in
    subst (λ (v : Holding). none ≡ find test v.held) c.self.view_is
    (ap (option_map reservation_of) (c.in-None.ensures ∙ ap (find (λ r. test (reservation_of r))) c.deref.ensures.value)
    ∙ sym (find_mapped reservation_of test c.self.inside.reserved.items))
