use Rattle.std.proofs.Common.{◌≤◌, length, drop}
use Rattle.stun_types_c.specs.ManyTransactions.{SoonestOf}
use Rattle.stun_types_c.proofs.many_transactions.soonest.Given as goal

-- the soonest moment of the transactions from this place on
abbrev pub invariant-walk : goal.invariant-walk
invariant-walk l = (l.left ≤ length l.kept) × SoonestOf (drop l.left l.kept) l.reported

abbrev pub decreases-walk : goal.decreases-walk
decreases-walk l = l.left
