use Rattle.std.proofs.Common.{◌≡◌, ℕ, find, Option, None, Some, sym, ap, ◌∙◌, subst}
use Rattle.std.specs.Option.{option_map, option_map_or}
use Rattle.turn_machine.specs.Reserving.{Reservation, is_reserved_by}
use Rattle.turn_slots.specs.Users.{user_number}
use Rattle.turn_reservations.specs.declared.held.Reserved.{Reserved}
use Rattle.turn_reservations.specs.Held.{Holding, reservation_of}
use Rattle.turn_reservations.proofs.HeldLemmas.{find_mapped}
use Rattle.turn_reservations.proofs.held.Held.token_of.Goals as goal

pub returns-in-Some : goal.returns-in-Some
returns-in-Some c =
    let test = is_reserved_by c.args.tuple.now (user_number c.args.user) c.args.id in
    subst (λ (v : Holding). Some c.in-Some.found.now.token ≡ option_map_or (λ r. Some r.token) (find test v.held) None) c.self.view_is
    (ap (λ (o : Option Reserved). option_map_or (λ (r : Reservation). Some r.token) (option_map reservation_of o) None) (c.in-Some.ensures ∙ ap (find (λ r. test (reservation_of r))) c.deref.ensures.value)
    ∙ ap (λ (o : Option Reservation). option_map_or (λ (r : Reservation). Some r.token) o None) (sym (find_mapped reservation_of test c.self.inside.reserved.items)))

pub returns-in-None : goal.returns-in-None
returns-in-None c =
    let test = is_reserved_by c.args.tuple.now (user_number c.args.user) c.args.id in
    let none : Option ℕ = None in
    subst (λ (v : Holding). none ≡ option_map_or (λ r. Some r.token) (find test v.held) None) c.self.view_is
    (ap (λ (o : Option Reserved). option_map_or (λ (r : Reservation). Some r.token) (option_map reservation_of o) None) (c.in-None.ensures ∙ ap (find (λ r. test (reservation_of r))) c.deref.ensures.value)
    ∙ ap (λ (o : Option Reservation). option_map_or (λ (r : Reservation). Some r.token) o None) (sym (find_mapped reservation_of test c.self.inside.reserved.items)))
