use Rattle.std.proofs.Common.{◌≡◌, List, not, map, filter, sym, ap, ◌∙◌, subst}
use Rattle.turn_machine.specs.Reserving.{Reservation, is_token}
use Rattle.turn_reservations.specs.Held.{Holding, reservation_of}
use Rattle.turn_reservations.proofs.HeldLemmas.{filter_mapped}
use Rattle.turn_reservations.proofs.held.Held.remove.Goals as goal

pub returns : goal.returns
returns c =
    let inside = c.self.inside in
    let left = map reservation_of c.leave_others.new.reserved.items in
    subst (λ (v : Holding). record { places = inside.places; held = left; over = inside.over.items } ≡ record { places = v.places; held = filter (λ r. not (is_token c.args.token r)) v.held; over = v.over }) c.self.view_is
    (ap (λ (held : List Reservation). record { places = inside.places; held = held; over = inside.over.items })
    (ap (map reservation_of) c.leave_others.ensures.items ∙ sym (filter_mapped reservation_of (λ r. not (is_token c.args.token r)) inside.reserved.items)))
