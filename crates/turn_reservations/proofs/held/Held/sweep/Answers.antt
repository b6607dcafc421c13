use Rattle.std.proofs.Common.{◌≡◌, ℕ, List, not, map, filter, ◌++◌, sym, ap, ◌∙◌, subst}
use Rattle.turn_machine.specs.Reserving.{Reservation, is_held}
use Rattle.turn_reservations.specs.Held.{Holding, reservation_of}
use Rattle.turn_reservations.proofs.HeldLemmas.{filter_mapped, told, told_mapped}
use Rattle.turn_reservations.proofs.held.Held.sweep.Goals as goal

pub returns : goal.returns
returns c =
    let inside = c.self.inside in
    let now = c.args.now in
    let left = map reservation_of c.leave.new.reserved.items in
    let over = c.report.new.over.items in
    let over_is : over ≡ told now inside.reserved.items =
    c.report.ensures.tokens ∙ (ap (λ (first : List ℕ). first ++ told now c.deref.result.now) c.clear.ensures.items ∙ ap (told now) c.deref.ensures.value) in
    subst (λ (v : Holding). record { places = inside.places; held = left; over = over } ≡ record { places = v.places; held = filter (is_held now) v.held; over = map (λ r. r.token) (filter (λ r. not (is_held now r)) v.held) }) c.self.view_is
    (ap (λ (held : List Reservation). record { places = inside.places; held = held; over = over }) (ap (map reservation_of) c.leave.ensures.items ∙ sym (filter_mapped reservation_of (is_held now) inside.reserved.items))
    ∙ ap (λ (tokens : List ℕ). record { places = inside.places; held = filter (is_held now) (map reservation_of inside.reserved.items); over = tokens }) (over_is ∙ sym (told_mapped now inside.reserved.items)))
