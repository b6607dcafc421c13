use Rattle.std.proofs.Common.{◌≡◌, sym, ap, ◌∙◌, subst}
use Rattle.std.specs.List.{list_any}
use Rattle.turn_machine.specs.Reserving.{is_token}
use Rattle.turn_reservations.specs.Held.{Holding, reservation_of}
use Rattle.turn_reservations.proofs.HeldLemmas.{any_mapped}
use Rattle.turn_reservations.proofs.held.Held.has_token.Goals as goal

pub returns : goal.returns
returns c =
    let test = is_token c.args.token in
    subst (λ (v : Holding). c.has_token.result ≡ list_any test v.held) c.self.view_is
    (c.has_token.ensures
    ∙ (ap (list_any (λ r. test (reservation_of r))) c.deref.ensures.value ∙ sym (any_mapped reservation_of test c.self.inside.reserved.items)))
