use Rattle.std.proofs.Common.{◌≡◌, [], subst}
use Rattle.std.specs.Prelude.{MatchOption}
use Rattle.turn_allocations.specs.Tables.{Serving, IsNextEnd}
use Rattle.turn_allocations.proofs.SteppingLemmas.{next_answer}
use Rattle.turn_allocations.proofs.allocations.Allocations.next_due.Goals as goal

pub returns : goal.returns
returns g c =
    subst (λ (v : Serving). MatchOption c.next_due.result (v.state.relays ≡ []) (λ due. IsNextEnd due v.state.relays)) c.self.view_is
    (next_answer c.list_follows_slots.ensures c.lists_have_slots.ensures c.self.inside.relays c.next_due.result c.next_due.ensures.some c.next_due.ensures.none)
