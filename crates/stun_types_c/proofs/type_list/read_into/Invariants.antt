use Rattle.std.proofs.Common.{◌≡◌}
use Rattle.stun_text.specs.Slices.{laid_over}
use Rattle.stun_values.specs.TypeLists.{types_within}
use Rattle.stun_types_c.proofs.type_list.read_into.Given as goal

-- the types so far are laid over
abbrev pub invariant-loop-i : goal.invariant-loop-i
invariant-loop-i l = l.types ≡ laid_over (types_within l.i l.value) l.initial.types
