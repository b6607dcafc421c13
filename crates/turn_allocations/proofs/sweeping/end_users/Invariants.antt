use Rattle.std.proofs.Common.{length}
use Rattle.turn_slots.specs.Users.{user_number}
use Rattle.turn_machine.specs.Relays.{is_users}
use Rattle.turn_relays.specs.Following.{listed}
use Rattle.turn_allocations.specs.Clients.{AreSound}
use Rattle.turn_allocations.proofs.SweepingLemmas.{Ending}
use Rattle.turn_allocations.proofs.sweeping.end_users.Given as goal

-- those of the user end one by one
abbrev pub invariant-users : goal.invariant-users
invariant-users g l =
    Ending (is_users (user_number l.user)) l.fn.relays l.relays l.fn.ended l.ended
    × (AreSound l.fn.relays → AreSound l.relays)

abbrev pub decreases-users : goal.decreases-users
decreases-users g l = length (listed l.relays.slots)
