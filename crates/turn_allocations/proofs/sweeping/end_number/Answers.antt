use Rattle.turn_machine.specs.Relays.{is_at}
use Rattle.turn_allocations.proofs.SweepingLemmas.{ending_begins, ending_ends}
use Rattle.turn_allocations.proofs.sweeping.end_number.Goals as goal

pub returns-in_default-clause-done : goal.returns-in_default-clause-done
returns-in_default-clause-done g c =
    ending_ends c.list_follows_slots.ensures c.lists_have_slots.ensures (is_at c.args.number) c.args.relays.now c.args.ended.now c.args.relays.now c.args.ended.now
    (ending_begins (is_at c.args.number) c.args.relays.now c.args.ended.now c.requires.room) c.in_default.ensures.none
