use Rattle.std.proofs.Common.{◌-◌, ◌≤◌, length}
use Rattle.stun_types.proofs.ScanningLemmas.{Scanned}
use Rattle.stun_types.proofs.reading.parse.check_endings.Given as goal

abbrev pub invariant-walk : goal.invariant-walk
invariant-walk l = record {
  header : 20 ≤ l.offset;
  within : l.offset ≤ length l.bytes;
  scanned : Scanned l.seen l.offsets l.last l.bytes l.offset;
}

abbrev pub decreases-walk : goal.decreases-walk
decreases-walk l = length l.bytes - l.offset
