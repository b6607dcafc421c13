use Rattle.std.proofs.Common.{◌≡◌, ◌+◌, ◌≤◌, ◌++◌, take, vec_len, vec_capacity}
use Rattle.turn_reservations.proofs.HeldLemmas.{told}
use Rattle.turn_reservations.proofs.held.report.Given as goal

-- the tokens of those that have expired among the first
abbrev pub invariant-loop-one : goal.invariant-loop-one
invariant-loop-one l = record {
  tokens : l.over.items ≡ l.fn.over.items ++ told l.now (take l.one-index l.reserved);
  few : vec_len l.over ≤ vec_len l.fn.over + l.one-index;
  capacity : vec_capacity l.over ≡ vec_capacity l.fn.over;
}
