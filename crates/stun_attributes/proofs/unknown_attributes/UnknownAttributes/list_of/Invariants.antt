use Rattle.std.proofs.Common.{◌≡◌, ◌*◌, length, take}
use Rattle.stun_values.specs.TypeLists.{types_encoding}
use Rattle.stun_attributes.proofs.unknown_attributes.UnknownAttributes.list_of.Given as goal

abbrev pub invariant-loop-i : goal.invariant-loop-i
invariant-loop-i l = (types_encoding l.list.items ≡ take (2 * l.i) l.value) × (length l.list.items ≡ l.i)
