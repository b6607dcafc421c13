use Rattle.std.proofs.Common.{◌≡◌, ◌-◌, ◌≤◌, length, drop}
use Rattle.stun_grammar.specs.Attributes.{types}
use Rattle.stun_grammar.specs.Chains.{chain}
use Rattle.stun_grammar.specs.Adding.{first_of, numbers}
use Rattle.stun_types.specs.Listing.{counted}
use Rattle.stun_types.proofs.writing.listed.find_listed.Given as goal

abbrev pub invariant-walk : goal.invariant-walk
invariant-walk l = record {
  within : l.offset ≤ length l.attributes;
  found : first_of (numbers l.asked) (counted l.ends (types (chain l.attributes))) ≡ first_of (numbers l.asked) (counted l.ends (types (chain (drop l.offset l.attributes))));
}

abbrev pub decreases-walk : goal.decreases-walk
decreases-walk l = length l.attributes - l.offset
