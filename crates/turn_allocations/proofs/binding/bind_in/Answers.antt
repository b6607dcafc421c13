use Rattle.std.proofs.Common.{sym, subst}
use Rattle.turn_machine.specs.Steps.{binding}
use Rattle.turn_allocations.specs.Clients.{AreSound}
use Rattle.turn_allocations.proofs.GrantingLemmas.{sound_after, binding_sound}
use Rattle.turn_allocations.proofs.binding.bind_in.Goals as goal

pub returns-clause-sound : goal.returns-clause-sound
returns-clause-sound g c = λ sound. subst AreSound (sym c.bind.ensures)
    (sound_after c.lists_have_slots.ensures c.args.relays.now c.in-Some.place.slot (binding c.args.lifetime c.args.relays.now.clock c.args.number c.args.peer)
    (binding_sound c.args.lifetime c.args.relays.now.clock c.args.number c.args.peer) sound)
