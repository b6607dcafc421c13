use Rattle.std.proofs.Common.{◌≡◌}
use Rattle.turn_server.proofs.unknown.unknown_types_of.Given as goal

-- those so far are found
abbrev pub invariant-loop-atype : goal.invariant-loop-atype
invariant-loop-atype l = l.types.items ≡ l.yielded
