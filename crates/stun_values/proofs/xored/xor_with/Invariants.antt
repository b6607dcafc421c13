use Rattle.std.proofs.Common.{◌≡◌, ◌++◌, take, drop}
use Rattle.stun_values.specs.Addresses.{xor_bytes}
use Rattle.stun_values.proofs.xored.xor_with.Given as goal

abbrev pub invariant-loop-i : goal.invariant-loop-i
invariant-loop-i l = l.bytes ≡ xor_bytes (take l.i l.initial.bytes) l.mask ++ drop l.i l.initial.bytes
