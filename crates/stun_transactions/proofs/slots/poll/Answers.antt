use Rattle.std.proofs.Common.{sym}
use Rattle.std.proofs.lemmas.List.Quantifiers.{position-Some}
use Rattle.stun_transactions.specs.Slots.{has_turn}
use Rattle.stun_transactions.proofs.slots.poll.Goals as goal

pub poll_slot-requires : goal.poll_slot-requires
poll_slot-requires c =
    (position-Some (has_turn c.args.now) c.args.slots.now c.in-Some.place c.index-slots-place.result (sym c.in-Some.ensures)).1
