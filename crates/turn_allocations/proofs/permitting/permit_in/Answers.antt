use Rattle.std.proofs.Common.{refl, sym, subst}
use Rattle.turn_machine.specs.Steps.{permitting}
use Rattle.turn_allocations.specs.Clients.{AreSound}
use Rattle.turn_allocations.proofs.GrantingLemmas.{sound_after}
use Rattle.turn_allocations.proofs.permitting.permit_in.Goals as goal

pub returns-clause-sound : goal.returns-clause-sound
returns-clause-sound g c = λ sound. subst AreSound (sym c.permit.ensures)
    (sound_after c.lists_have_slots.ensures c.args.relays.now c.in-Some.place.slot (permitting c.args.relays.now.clock c.args.peers.now) (λ a. refl) sound)
