use Rattle.std.proofs.Common.{◌≡◌, ◌≤◌, ◌*◌, ◌++◌, drop, length}
use Rattle.stun_values.specs.TypeLists.{types_encoding}
use Rattle.ice_checks.proofs.unknown.write_unknown.Given as goal

-- those so far are written
abbrev pub invariant-loop-atype : goal.invariant-loop-atype
invariant-loop-atype l =
    (l.count ≡ length l.yielded) × (l.count ≤ 32767)
    × (l.dest ≡ types_encoding l.yielded ++ drop (2 * l.count) l.initial.dest)
