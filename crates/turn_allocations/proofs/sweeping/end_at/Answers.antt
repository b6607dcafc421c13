use Rattle.std.proofs.Common.{◌++◌, [], ◌∷◌, ℕ, sym, ap, ◌∙◌}
use Rattle.turn_allocations.proofs.SweepingLemmas.{from_end, has_place, room_kept, sound_ended}
use Rattle.turn_allocations.proofs.sweeping.end_at.Goals as goal

pub push-requires : goal.push-requires
push-requires g c =
    let it = from_end c.args.relays.now c.end.new.self c.args.slot _ c.end.result c.end.ensures c.in-Some.number c.in-Some.is in
    has_place c.list_follows_slots.ensures c.lists_have_slots.ensures c.args.relays.now c.numbers_are_distinct.ensures c.args.slot it.0 it.1 c.args.ended.now c.requires.room

pub returns-in-Some-clause-room : goal.returns-in-Some-clause-room
returns-in-Some-clause-room g c =
    let it = from_end c.args.relays.now c.end.new.self c.args.slot _ c.end.result c.end.ensures c.in-Some.number c.in-Some.is in
    let pushed = c.push.ensures ∙ ap (λ (n : ℕ). record c.args.ended.now { numbers = c.args.ended.now.numbers ++ n ∷ [] }) (sym it.2) in
    room_kept c.list_follows_slots.ensures c.lists_have_slots.ensures c.args.relays.now c.numbers_are_distinct.ensures c.args.slot it.0 it.1 c.end.new.self it.3 c.args.ended.now c.push.new.self pushed c.requires.room

pub returns-in-Some-clause-sound : goal.returns-in-Some-clause-sound
returns-in-Some-clause-sound g c =
    let it = from_end c.args.relays.now c.end.new.self c.args.slot _ c.end.result c.end.ensures c.in-Some.number c.in-Some.is in
    sound_ended c.list_follows_slots.ensures c.lists_have_slots.ensures c.args.relays.now c.numbers_are_distinct.ensures c.args.slot it.0 it.1 c.end.new.self it.3
