use Rattle.std.proofs.Common.{◌≡◌, false, Some, None, is_some, refl}
use Rattle.std.specs.List.{position}
use Rattle.stun_transactions.specs.Slots.{id_of, is_free, place_of}
use Rattle.stun_transactions.proofs.SlotsLemmas.{room_full, room_there, added_there}
use Rattle.stun_transactions.proofs.slots.add.Goals as goal

pub returns-in_default : goal.returns-in_default
returns-in_default c =
    let used : is_some (place_of c.id.result c.args.slots.now) ≡ false = cc in
    let full : position is_free c.args.slots.now ≡ None = cc in
    (room_full (id_of c.args.transaction) c.id.result c.args.slots.now c.id.ensures used full, refl)

pub returns : goal.returns
returns c =
    let used : is_some (place_of c.id.result c.args.slots.now) ≡ false = cc in
    let free : position is_free c.args.slots.now ≡ Some c.in-Some.place = cc in (
      room_there (id_of c.args.transaction) c.id.result c.args.slots.now c.in-Some.place c.id.ensures used free,
      added_there c.args.transaction c.args.slots.now (position is_free c.args.slots.now) c.in-Some.place free,
    )
