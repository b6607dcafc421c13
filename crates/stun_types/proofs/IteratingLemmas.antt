-- One step of the iterator over the attributes that are shown.
use Rattle.std.proofs.Common.{◌≡◌, ℕ, ◌+◌, ◌≤◌, true, false, cond, List, [], ◌∷◌, length, drop, Some, None, refl, sym, ap, ◌∙◌, arith}
use Rattle.std.proofs.lemmas.Bool.{cond-true, cond-false}
use Rattle.std.proofs.lemmas.List.{drop-drop, drop_all, length-drop}
use Rattle.stun_grammar.specs.declared.error.StunParseError.{StunParseError}
use Rattle.stun_grammar.specs.Attributes.{Attribute, encoding, types}
use Rattle.stun_grammar.specs.Chains.{Shown, first_attribute, chain, placed}
use Rattle.stun_grammar.specs.ShownOrder.{in_order}
use Rattle.stun_grammar.specs.Prefixes.{longest_prefix}
use Rattle.stun_grammar.specs.Showing.{frame_fault, shown}
use Rattle.stun_grammar.proofs.AttributesLemmas.{length-encoding}
use Rattle.stun_grammar.proofs.ChainsLemmas.{chain-none, chain-some, first_attribute-nil, length-chain}
use Rattle.stun_grammar.proofs.PrefixesLemmas.{longest-nil, longest-cons, longest_same, length-longest_prefix}
use Rattle.stun_grammar.proofs.ShownOrderLemmas.{in_order_more, in_order_first, in_order-ordinary}
use Rattle.stun_attributes.specs.declared.wire.raw.RawAttribute.{RawAttribute}
use Rattle.stun_attributes.specs.Raw.{Finds, raw_type}
use Rattle.stun_types.specs.Iterating.{shown_behind, borrowed, ShowsFirst}

prefix_behind : (last : ℕ) (a : Attribute) (attributes : List Attribute)
    → longest_prefix (λ q. in_order (last ∷ types q)) (a ∷ attributes) ≡ cond (in_order (last ∷ (a.type ∷ []))) (a ∷ longest_prefix (λ q. in_order (last ∷ (a.type ∷ types q))) attributes) []
prefix_behind last a attributes = longest-cons (λ q. in_order (last ∷ types q)) a attributes (λ q e. in_order_first last a.type (types q) e)

pub behind_none : (last offset : ℕ) (d : List ℕ) → first_attribute (drop offset d) ≡ None → shown_behind last offset d ≡ []
unfolding shown_behind placed
behind_none last offset d e = rw (chain-none (drop offset d) e, longest-nil (λ (q : List Attribute). in_order (last ∷ types q))) refl

pub behind_stop : (last offset : ℕ) (d : List ℕ) (a : Attribute) → first_attribute (drop offset d) ≡ Some a → in_order (last ∷ (a.type ∷ [])) ≡ false → shown_behind last offset d ≡ []
unfolding shown_behind placed
behind_stop last offset d a e stops =
    let whole : longest_prefix (λ q. in_order (last ∷ types q)) (chain (drop offset d)) ≡ [] =
    ap (longest_prefix (λ q. in_order (last ∷ types q))) (chain-some (drop offset d) a e) ∙ prefix_behind last a (chain (drop (length (encoding a)) (drop offset d))) ∙ cond-false (in_order (last ∷ (a.type ∷ []))) _ _ stops in
    ap (placed offset) whole

pub behind_more : (last offset : ℕ) (d : List ℕ) (a : Attribute) (behind : ℕ) → first_attribute (drop offset d) ≡ Some a → in_order (last ∷ (a.type ∷ [])) ≡ true → behind ≡ offset + length (encoding a)
    → shown_behind last offset d ≡ record { offset = offset; type = a.type; value = a.value } ∷ shown_behind a.type behind d
unfolding shown_behind placed
behind_more last offset d a behind e goes behind-is =
    let left = chain (drop (length (encoding a)) (drop offset d)) in
    let whole : longest_prefix (λ q. in_order (last ∷ types q)) (chain (drop offset d)) ≡ a ∷ longest_prefix (λ q. in_order (a.type ∷ types q)) left =
    ap (longest_prefix (λ q. in_order (last ∷ types q))) (chain-some (drop offset d) a e) ∙ prefix_behind last a left ∙ cond-true (in_order (last ∷ (a.type ∷ []))) _ _ goes
    ∙ ap (λ (xs : List Attribute). a ∷ xs) (longest_same (λ q. in_order (last ∷ (a.type ∷ types q))) (λ q. in_order (a.type ∷ types q)) left (λ q. in_order_more last a.type (types q) goes)) in
    let same : drop (length (encoding a)) (drop offset d) ≡ drop behind d = drop-drop (length (encoding a)) offset d ∙ ap (λ (k : ℕ). drop k d) (sym behind-is) in
    ap (placed offset) whole ∙ rw (← behind-is, same) refl

-- the same, of an attribute that was read
pub read_stop : (last : ℕ) (x : RawAttribute) (behind offset : ℕ) (d : List ℕ) → Finds x behind offset d → in_order (last ∷ (raw_type x ∷ [])) ≡ false → shown_behind last offset d ≡ []
read_stop last x behind offset d found stops =
    behind_stop last offset d found.attribute found.first_is (ap (λ (k : ℕ). in_order (last ∷ (k ∷ []))) (sym found.raw_is.raw_is.type_is) ∙ stops)

pub read_first : (last : ℕ) (x : RawAttribute) (behind offset : ℕ) (d : List ℕ) → behind ≤ length d → Finds x behind offset d → in_order (last ∷ (raw_type x ∷ [])) ≡ true → ShowsFirst x behind last offset d
read_first last x behind offset d within found goes = record {
  fits = omega (arith, found.behind_is, length-encoding found.attribute, ap length found.raw_is.raw_is.value_is);
  within = within;
  borrowed = found.raw_is.borrowed;
  shows =
      rw (found.raw_is.raw_is.type_is, found.raw_is.raw_is.value_is)
      (behind_more last offset d found.attribute behind found.first_is (ap (λ (k : ℕ). in_order (last ∷ (k ∷ []))) (sym found.raw_is.raw_is.type_is) ∙ goes) found.behind_is);
}

-- ---- From the start

pub from_start : (d : List ℕ) → frame_fault d ≡ None → shown_behind 0 20 d ≡ shown d
unfolding shown_behind shown
from_start d e =
    let plain : (q : List Attribute) → in_order (0 ∷ types q) ≡ in_order (types q) = λ q. in_order-ordinary 0 (types q) refl in
    ap (placed 20) (longest_same (λ q. in_order (0 ∷ types q)) (λ q. in_order (types q)) (chain (drop 20 d)) plain) ∙ rw e refl

pub unframed : (d : List ℕ) (reported : StunParseError) → frame_fault d ≡ Some reported → shown d ≡ []
unfolding shown
unframed d reported e = rw e refl

pub nothing_shown : (last : ℕ) (d : List ℕ) (reported : StunParseError) → frame_fault d ≡ Some reported → shown_behind last (length d) d ≡ shown d
unfolding shown
nothing_shown last d reported e =
    let none : first_attribute (drop (length d) d) ≡ None = ap first_attribute (drop_all (length d) d (omega arith)) ∙ first_attribute-nil in
    behind_none last (length d) d none ∙ rw e refl

-- ---- No more attributes are shown than there are bytes

length-placed : (offset : ℕ) (attributes : List Attribute) → length (placed offset attributes) ≡ length attributes
unfolding placed
length-placed offset [] = refl
length-placed offset (a ∷ attributes) = omega (arith, length-placed (offset + length (encoding a)) attributes)

length-borrowed : (attributes : List Shown) → length (borrowed attributes) ≡ length attributes
length-borrowed [] = refl
length-borrowed (a ∷ attributes) = omega (arith, length-borrowed attributes)

pub length-items : (last offset : ℕ) (d : List ℕ) → length (borrowed (shown_behind last offset d)) ≤ length d
unfolding shown_behind
length-items last offset d =
    let all = chain (drop offset d) in
    let prefix = longest_prefix (λ q. in_order (last ∷ types q)) all in
    omega (arith, length-borrowed (placed offset prefix), length-placed offset prefix, length-longest_prefix (λ q. in_order (last ∷ types q)) all, length-chain (drop offset d), length-drop offset d)
