use Rattle.std.proofs.Common.{◌-◌, ◌≤◌, length}
use Rattle.stun_types.specs.Endings.{IsOrdinaryTo}
use Rattle.stun_types.proofs.reading.parse.check_message.Given as goal

abbrev pub invariant-walk : goal.invariant-walk
invariant-walk l = record {
  within : l.offset ≤ length l.bytes;
  ordinary : IsOrdinaryTo l.bytes l.offset;
}

abbrev pub decreases-walk : goal.decreases-walk
decreases-walk l = length l.bytes - l.offset
