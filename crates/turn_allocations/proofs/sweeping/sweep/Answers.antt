use Rattle.std.proofs.Common.{max, subst, arith}
use Rattle.turn_relays.specs.Relayed.{state_of}
use Rattle.turn_machine.specs.Times.{over_at}
use Rattle.turn_allocations.specs.Ending.{Numbers}
use Rattle.turn_allocations.specs.Serving.{Appends}
use Rattle.turn_allocations.proofs.SweepingLemmas.{sound_later, swept_over, swept_sound, room_begins}
use Rattle.turn_allocations.proofs.sweeping.sweep.Goals as goal

pub end_expired-requires : goal.end_expired-requires
end_expired-requires g c =
    (omega arith, room_begins c.lists_have_slots.ensures c.args.relays.now c.advance.new.self c.args.now c.advance.ensures c.args.ended.now c.clear.new.self c.clear.ensures c.requires.room)

pub returns-clause-ended : goal.returns-clause-ended
returns-clause-ended g c =
    subst (λ (n : Numbers). Appends n c.end_expired.new.ended (over_at c.args.now (state_of c.args.relays.now))) c.clear.ensures
    (subst (Appends c.clear.new.self c.end_expired.new.ended) (swept_over c.args.relays.now c.advance.new.self c.args.now c.advance.ensures) c.end_expired.ensures.ended)

pub returns-clause-sound : goal.returns-clause-sound
returns-clause-sound g c =
    swept_sound c.advance.new.self c.end_expired.new.relays c.end_expired.ensures.left
    (sound_later c.args.relays.now c.advance.new.self (max c.args.relays.now.clock c.args.now) c.advance.ensures (omega arith) c.requires.sound)
