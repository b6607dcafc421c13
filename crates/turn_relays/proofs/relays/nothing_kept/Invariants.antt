use Rattle.std.proofs.Common.{◌≡◌, None, replicate}
use Rattle.turn_relays.proofs.relays.nothing_kept.Given as goal

abbrev pub invariant-loop : goal.invariant-loop
invariant-loop g l = l.kept.items ≡ replicate l.counter None
