use Rattle.std.proofs.Common.{not, length}
use Rattle.turn_machine.specs.Relays.{is_live}
use Rattle.turn_relays.specs.Following.{listed}
use Rattle.turn_allocations.proofs.SweepingLemmas.{Ending}
use Rattle.turn_allocations.proofs.sweeping.end_expired.Given as goal

-- those that have expired end one by one
abbrev pub invariant-expired : goal.invariant-expired
invariant-expired g l = Ending (λ a. not (is_live l.fn.relays.clock a)) l.fn.relays l.relays l.fn.ended l.ended

abbrev pub decreases-expired : goal.decreases-expired
decreases-expired g l = length (listed l.relays.slots)
