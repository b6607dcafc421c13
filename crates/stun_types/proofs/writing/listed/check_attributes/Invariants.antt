use Rattle.std.proofs.Common.{◌≡◌, ◌+◌, ◌-◌, ◌≤◌, ◌||◌, length, drop}
use Rattle.std.specs.List.{list_any}
use Rattle.stun_grammar.specs.AttributeTypes.{is_ending}
use Rattle.stun_grammar.specs.Attributes.{encodings, types}
use Rattle.stun_grammar.specs.Chains.{chain, rest}
use Rattle.stun_types.proofs.writing.listed.check_attributes.Given as goal

abbrev pub invariant-walk : goal.invariant-walk
invariant-walk l = record {
  within : l.offset ≤ length l.message;
  end_is : 20 + length (encodings (chain (drop 20 l.message))) ≡ l.offset + length (encodings (chain (drop l.offset l.message)));
  rest_is : rest (drop 20 l.message) ≡ rest (drop l.offset l.message);
  ends : list_any is_ending (types (chain (drop 20 l.message))) ≡ (l.ends || list_any is_ending (types (chain (drop l.offset l.message))));
}

abbrev pub decreases-walk : goal.decreases-walk
decreases-walk l = length l.message - l.offset
