use Rattle.turn_machine.specs.Relays.{is_at}
use Rattle.turn_relays.specs.Relayed.{state_of}
use Rattle.turn_allocations.proofs.RelayingLemmas.{find_missing}
use Rattle.turn_allocations.proofs.relaying.at_number.Goals as goal

pub returns-in_err-slot : goal.returns-in_err-slot
returns-in_err-slot g c =
    let t = c.args.relays.now in
    let test = is_at c.args.number in
    rw c.from_residual.ensures
    (find_missing test (state_of t).relays (c.list_follows_slots.ensures.missing t.slots test c.in_err-slot.ensures.none))
