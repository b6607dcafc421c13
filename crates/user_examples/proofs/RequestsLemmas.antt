-- A message with one SOFTWARE.
use Rattle.std.proofs.Common.{◌≡◌, ℕ, ◌^◌, ◌<◌, ◌≤◌, List, [], ◌∷◌, length, refl, arith}
use Rattle.std.proofs.lemmas.List.{length-append}
use Rattle.stun_grammar.specs.Attributes.{canonical, encoding}
use Rattle.stun_grammar.specs.Chains.{placed}
use Rattle.stun_grammar.specs.Writing.{IsWritable}
use Rattle.stun_grammar.proofs.WritingLemmas.{canonical_is, length-canonical, length-message}
use Rattle.stun_grammar.proofs.ShownOrderLemmas.{in_order-one}
use Rattle.stun_values.specs.TextValues.{text_max}

pub one_attribute : (id : ℕ) (value : List ℕ) → id < 2 ^ 96 → length value ≤ text_max → IsWritable 0x0001 id (canonical 0x8022 value ∷ [])
unfolding placed
one_attribute id value i short = record {
  type_fits = omega arith;
  id_fits = i;
  each = (canonical_is 0x8022 value (omega arith) (omega arith), tt);
  length_fits = omega (arith, length-message 0x0001 id (canonical 0x8022 value ∷ []), length-canonical 0x8022 value (omega arith) (omega arith), length-append (encoding (canonical 0x8022 value)) []);
  ordered = in_order-one 0x8022;
  fingerprint = refl;
}

-- the attribute is placed after the header
pub one_placed : (value : List ℕ) → placed 20 (canonical 0x8022 value ∷ []) ≡ record { offset = 20; type = 0x8022; value = value } ∷ []
unfolding placed
one_placed value = refl
