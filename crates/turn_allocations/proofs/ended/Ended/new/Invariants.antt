use Rattle.std.proofs.Common.{◌≡◌, length}
use Rattle.turn_allocations.proofs.ended.Ended.new.Given as goal

abbrev pub invariant-loop : goal.invariant-loop
invariant-loop l = length l.numbers.items ≡ l.counter
