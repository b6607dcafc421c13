use Rattle.std.proofs.Common.{◌≡◌, ◌-◌, ◌≤◌, length, drop}
use Rattle.stun_grammar.specs.Chains.{chain}
use Rattle.stun_authentication.specs.Lists.{first_among}
use Rattle.stun_authentication.proofs.algorithms.first_listed.Given as goal

abbrev pub invariant-walk : goal.invariant-walk
invariant-walk l = record {
  within : l.offset ≤ length l.value;
  same : first_among l.wanted (chain l.value) ≡ first_among l.wanted (chain (drop l.offset l.value));
}

abbrev pub decreases-walk : goal.decreases-walk
decreases-walk l = length l.value - l.offset
