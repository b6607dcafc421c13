use Rattle.std.proofs.Common.{◌≡◌, [], List, ℕ, Option, sym, subst, ap, map, ◌∙◌}
use Rattle.std.specs.Prelude.{MatchOption}
use Rattle.turn_machine.specs.Reserving.{Reservation}
use Rattle.turn_reservations.specs.Calls.{IsNextOver}
use Rattle.turn_reservations.specs.Held.{Holding, reservation_of}
use Rattle.turn_reservations.proofs.DueLemmas.{next_over}
use Rattle.turn_reservations.proofs.held.Held.next_over.Goals as goal

pub returns : goal.returns
returns c =
    let same : map reservation_of c.deref.result.now ≡ c.args.self.now.held = ap (map reservation_of) c.deref.ensures.value ∙ ap (λ (h : Holding). h.held) c.self.view_is in
    let first = next_over c.deref.result.now in
    subst (λ (rs : List Reservation). MatchOption c.first_of.result (rs ≡ []) (λ due. IsNextOver due rs)) same
    (subst (λ (o : Option ℕ). MatchOption o (map reservation_of c.deref.result.now ≡ []) (λ due. IsNextOver due (map reservation_of c.deref.result.now))) (sym c.first_of.ensures) first)
