use Rattle.std.proofs.Common.{◌≡◌, ◌*◌, ◌++◌, take, drop}
use Rattle.stun_values.specs.TypeLists.{types_encoding}
use Rattle.stun_attributes.proofs.unknown_attributes.write_types.Given as goal

abbrev pub invariant-loop-i : goal.invariant-loop-i
invariant-loop-i l = l.dest ≡ types_encoding (take l.i l.types) ++ drop (2 * l.i) l.initial.dest
