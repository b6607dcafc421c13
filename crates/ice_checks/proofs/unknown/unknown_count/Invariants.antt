use Rattle.std.proofs.Common.{◌≡◌, ◌≤◌, length}
use Rattle.ice_checks.proofs.unknown.unknown_count.Given as goal

-- those so far are counted
abbrev pub invariant-loop-atype : goal.invariant-loop-atype
invariant-loop-atype l = (l.count ≡ length l.yielded) × (l.count ≤ 32767)
