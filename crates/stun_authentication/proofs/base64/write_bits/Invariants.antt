use Rattle.std.proofs.Common.{◌≡◌, ◌≤◌, ◌++◌, length, drop}
use Rattle.stun_authentication.specs.Base64.{in_base64}
use Rattle.stun_authentication.proofs.base64.write_bits.Given as goal

-- the characters that are left to write, and those that are written
abbrev pub invariant-loop-i : goal.invariant-loop-i
invariant-loop-i l = record {
  within : l.i ≤ length l.dest;
  text : in_base64 l.i l.left ++ drop l.i l.dest ≡ in_base64 (length l.dest) l.bits;
}
