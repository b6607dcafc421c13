use Rattle.std.proofs.Common.{subst}
use Rattle.turn_allocations.specs.Metering.{HavePlaces}
use Rattle.turn_allocations.specs.Tables.{Serving}
use Rattle.turn_allocations.proofs.MeteringLemmas.{serving_places}
use Rattle.turn_allocations.proofs.allocations.Allocations.numbers_have_places.Goals as goal

pub returns : goal.returns
returns g c =
    subst (λ (v : Serving). HavePlaces v.limits.relays v.state.relays) c.self.view_is
    (serving_places c.self.inside.relays c.self.inside.limits.relays c.self.invariant.slots c.numbers_have_slots.ensures)
