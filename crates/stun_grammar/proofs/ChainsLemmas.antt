-- The chain of attributes exists, is the only one, and does not depend on what follows its prefix.
use Rattle.std.proofs.Common.{◌≡◌, ℕ, zero, suc, ◌+◌, ◌-◌, ◌≤◌, List, [], ◌∷◌, ◌++◌, length, take, drop, Option, Some, None, refl, sym, ap, subst, ◌∙◌, append_assoc, arith, ◌⊎◌, inl, inr, ◌<◌, false, eqb}
use Rattle.std.specs.List.{AllByRecursion}
use Rattle.std.proofs.lemmas.List.{length-take, drop_at, drop-drop, length-append, length-drop, append-nil}
use Rattle.stun_grammar.specs.Numbers.{number, padded_length, IsBytes}
use Rattle.stun_grammar.specs.Attributes.{Attribute, IsAttribute, encoding, encodings}
use Rattle.stun_grammar.specs.Chains.{IsChain, stated_length, first_attribute, chain_within, chain, rest, fault}
use Rattle.stun_grammar.proofs.NumbersLemmas.{IsBytes-drop, IsBytes-behind}
use Rattle.stun_grammar.proofs.AttributesLemmas.{length-encoding, first_attribute_short, first_attribute_some, first_attribute-encoding, first_attribute_takes, first_attribute_cut, first_attribute_is}
use Rattle.std.proofs.lemmas.Bool.{le-ltb, lt-ltb, eq-eqb, ne_eqb}
use Rattle.stun_grammar.specs.declared.error.StunParseError.{StunParseError}
use Rattle.stun_grammar.specs.declared.error.StunParseError.TheVariants.{Truncated}

-- an option has a value or none
pub none_or_some : {A : Type 0} (o : Option A) → (o ≡ None) ⊎ ((a : A) × (o ≡ Some a))
none_or_some None = inl refl
none_or_some (Some a) = inr (a, refl)

-- how long the encoding of the first attribute is
pub length-first_attribute : (b : List ℕ) (a : Attribute) → first_attribute b ≡ Some a → (length (encoding a) ≡ 4 + padded_length (stated_length b)) × (length (encoding a) ≤ length b)
length-first_attribute b a e =
    let found = first_attribute_some b a e in
    let n = stated_length b in
    let m : ℕ = padded_length n - n in
    let long : 4 + padded_length n ≤ length b = found.0 in
    let made : Attribute = record { type = number (take 2 b); value = take n (drop 4 b); padding = take m (drop (4 + n) b) } in
    let at_made : length (encoding made) ≡ 4 + padded_length n = omega (arith, length-encoding made, length-take n (drop 4 b), length-drop 4 b, length-take m (drop (4 + n) b), length-drop (4 + n) b) in
    let is : length (encoding a) ≡ 4 + padded_length n = subst (λ (x : Attribute). length (encoding x) ≡ 4 + padded_length n) (sym found.1) at_made in
    (is, omega arith)

within-none : (n : ℕ) (b : List ℕ) → first_attribute b ≡ None → chain_within n b ≡ []
unfolding chain_within
within-none zero b e = refl
within-none (suc n) b e = rw e refl

within-some : (n : ℕ) (b : List ℕ) (a : Attribute) → first_attribute b ≡ Some a → chain_within (suc n) b ≡ a ∷ chain_within n (drop (length (encoding a)) b)
unfolding chain_within
within-some n b a e = rw e refl

-- more steps than bytes add no attribute
enough_steps : (n : ℕ) (b : List ℕ) → length b ≤ n → chain_within (suc n) b ≡ chain_within n b
enough_steps zero b le =
    elim (none_or_some (first_attribute b)) [
      | inl e ↦ within-none 1 b e ∙ sym (within-none 0 b e)
      | inr (a, e) ↦ absurd (omega (arith, length-first_attribute b a e))
    ]
enough_steps (suc n) b le =
    elim (none_or_some (first_attribute b)) [
      | inl e ↦ within-none (suc (suc n)) b e ∙ sym (within-none (suc n) b e)
      | inr (a, e) ↦
          let shorter : length (drop (length (encoding a)) b) ≤ n = omega (arith, length-first_attribute b a e, length-drop (length (encoding a)) b) in
          within-some (suc n) b a e ∙ ap (λ (xs : List Attribute). a ∷ xs) (enough_steps n (drop (length (encoding a)) b) shorter) ∙ sym (within-some n b a e)
    ]

enough_more : (k : ℕ) (b : List ℕ) → chain_within (k + length b) b ≡ chain_within (length b) b
enough_more zero b = ap (λ (n : ℕ). chain_within n b) (omega arith)
enough_more (suc k) b =
    let next : suc k + length b ≡ suc (k + length b) = omega arith in
    ap (λ (n : ℕ). chain_within n b) next ∙ enough_steps (k + length b) b (omega arith) ∙ enough_more k b

enough : (n : ℕ) (b : List ℕ) → length b ≤ n → chain_within n b ≡ chain b
unfolding chain
enough n b le =
    let n-is : n ≡ (n - length b) + length b = omega arith in
    ap (λ (k : ℕ). chain_within k b) n-is ∙ enough_more (n - length b) b

-- ---- The two steps of a chain

pub chain-none : (b : List ℕ) → first_attribute b ≡ None → chain b ≡ []
unfolding chain
chain-none b e = within-none (length b) b e

pub chain-some : (b : List ℕ) (a : Attribute) → first_attribute b ≡ Some a → chain b ≡ a ∷ chain (drop (length (encoding a)) b)
chain-some b a e =
    let d = drop (length (encoding a)) b in
    let le : length d ≤ length b = omega (arith, length-drop (length (encoding a)) b) in
    sym (enough (suc (length b)) b (omega arith)) ∙ within-some (length b) b a e ∙ ap (λ (xs : List Attribute). a ∷ xs) (enough (length b) d le)

pub rest-none : (b : List ℕ) → first_attribute b ≡ None → rest b ≡ b
unfolding rest
rest-none b e = rw (chain-none b e) refl

pub rest-some : (b : List ℕ) (a : Attribute) → first_attribute b ≡ Some a → rest b ≡ rest (drop (length (encoding a)) b)
unfolding rest
rest-some b a e =
    let d = drop (length (encoding a)) b in
    rw (chain-some b a e, length-append (encoding a) (encodings (chain d))) (sym (drop-drop (length (encodings (chain d))) (length (encoding a)) b))

-- no bytes, no attribute
pub first_attribute-nil : first_attribute [] ≡ None
first_attribute-nil = first_attribute_short [] (omega arith)

pub chain-nil : chain [] ≡ []
chain-nil = chain-none [] first_attribute-nil

-- ---- What a chain begins with does not depend on what follows

pub record Joined (attributes : List Attribute) (more : List ℕ) : Type 0 where
  pub chain_is : chain (encodings attributes ++ more) ≡ attributes ++ chain more
  pub rest_is : rest (encodings attributes ++ more) ≡ rest more

pub chain-append : (attributes : List Attribute) (more : List ℕ) → AllByRecursion IsAttribute attributes → Joined attributes more
chain-append [] more all = record { chain_is = refl; rest_is = refl }
chain-append (a ∷ behind) more all =
    let others = chain-append behind more all.1 in
    let b = encodings (a ∷ behind) ++ more in
    let regrouped : b ≡ encoding a ++ (encodings behind ++ more) = append_assoc (encoding a) (encodings behind) more in
    let e : first_attribute b ≡ Some a = ap first_attribute regrouped ∙ first_attribute-encoding a (encodings behind ++ more) all.0 in
    let left : drop (length (encoding a)) b ≡ encodings behind ++ more = ap (drop (length (encoding a))) regrouped ∙ drop_at (encoding a) (encodings behind ++ more) (length (encoding a)) refl in
    record {
      chain_is = chain-some b a e ∙ ap (λ (x : List ℕ). a ∷ chain x) left ∙ ap (λ (xs : List Attribute). a ∷ xs) others.chain_is;
      rest_is = rest-some b a e ∙ ap rest left ∙ others.rest_is;
    }

-- ---- There is a chain, and no other

at_end : (b : List ℕ) → first_attribute b ≡ None → IsChain b (chain b) (rest b)
at_end b e =
    let here : IsChain b [] b = record {
      whole = refl;
      each = tt;
      ends = λ a more ok is. absurd (cc (e, ap first_attribute is, first_attribute-encoding a more ok));
    } in
    let P : List Attribute → Type 0 = λ xs. IsChain b xs (rest b) in
    subst P (sym (chain-none b e)) (subst (λ (r : List ℕ). IsChain b [] r) (sym (rest-none b e)) here)

one_more : (b : List ℕ) (a : Attribute) → IsBytes b → first_attribute b ≡ Some a → IsChain (drop (length (encoding a)) b) (chain (drop (length (encoding a)) b)) (rest (drop (length (encoding a)) b)) → IsChain b (chain b) (rest b)
one_more b a bytes e behind =
    let d = drop (length (encoding a)) b in
    let taken = first_attribute_takes b a bytes e in
    let here : IsChain b (a ∷ chain d) (rest d) = record {
      whole = taken.1 ∙ ap (λ (x : List ℕ). encoding a ++ x) behind.whole ∙ sym (append_assoc (encoding a) (encodings (chain d)) (rest d));
      each = (taken.0, behind.each);
      ends = behind.ends;
    } in
    subst (λ (xs : List Attribute). IsChain b xs (rest b)) (sym (chain-some b a e)) (subst (λ (r : List ℕ). IsChain b (a ∷ chain d) r) (sym (rest-some b a e)) here)

chain_is_within : (n : ℕ) (b : List ℕ) → length b ≤ n → IsBytes b → IsChain b (chain b) (rest b)
chain_is_within zero b le bytes =
    elim (none_or_some (first_attribute b)) [
      | inl e ↦ at_end b e
      | inr (a, e) ↦ absurd (omega (arith, length-first_attribute b a e))
    ]
chain_is_within (suc n) b le bytes =
    elim (none_or_some (first_attribute b)) [
      | inl e ↦ at_end b e
      | inr (a, e) ↦
          let shorter : length (drop (length (encoding a)) b) ≤ n = omega (arith, length-first_attribute b a e, length-drop (length (encoding a)) b) in
          one_more b a bytes e (chain_is_within n (drop (length (encoding a)) b) shorter (IsBytes-drop (length (encoding a)) b bytes))
    ]

pub chain_exists : (b : List ℕ) → IsBytes b → IsChain b (chain b) (rest b)
chain_exists b bytes = chain_is_within (length b) b (omega arith) bytes

pub chain_unique : (b : List ℕ) (attributes : List Attribute) (r : List ℕ) → IsBytes b → IsChain b attributes r → (attributes ≡ chain b) × (r ≡ rest b)
chain_unique b attributes r bytes is =
    let joined = chain-append attributes r is.each in
    let none : first_attribute r ≡ None = elim (none_or_some (first_attribute r)) [
      | inl e ↦ e
      | inr (a, e) ↦ let taken = first_attribute_takes r a (IsBytes-behind (encodings attributes) r (subst IsBytes is.whole bytes)) e in absurd (is.ends a (drop (length (encoding a)) r) taken.0 taken.1)
    ] in (
      sym (ap chain is.whole ∙ joined.chain_is ∙ ap (λ (xs : List Attribute). attributes ++ xs) (chain-none r none) ∙ append-nil attributes),
      sym (ap rest is.whole ∙ joined.rest_is ∙ rest-none r none),
    )

-- encodings of attributes, followed by nothing, are read as those attributes
pub chain-encodings : (attributes : List Attribute) → AllByRecursion IsAttribute attributes → (chain (encodings attributes) ≡ attributes) × (rest (encodings attributes) ≡ [])
chain-encodings attributes all =
    let joined = chain-append attributes [] all in
    let nothing : encodings attributes ++ [] ≡ encodings attributes = append-nil (encodings attributes) in (
      ap chain (sym nothing) ∙ joined.chain_is ∙ ap (λ (xs : List Attribute). attributes ++ xs) chain-nil ∙ append-nil attributes,
      ap rest (sym nothing) ∙ joined.rest_is ∙ rest-none [] first_attribute-nil,
    )

within_short : (n : ℕ) (b : List ℕ) → length (chain_within n b) ≤ n
unfolding chain_within
within_short zero b = omega arith
within_short (suc n) b = elim (none_or_some (first_attribute b)) [
  | inl e ↦ rw (within-none (suc n) b e) (omega arith)
  | inr (a, e) ↦ let behind = within_short n (drop (length (encoding a)) b) in rw (within-some n b a e) (omega (arith, behind))
]

-- there are no more attributes than bytes
pub length-chain : (b : List ℕ) → length (chain b) ≤ length b
unfolding chain
length-chain b = within_short (length b) b

-- ---- The fault if no attribute begins

-- no attribute begins at an offset, and this is the fault there
pub record Refused (offset : ℕ) (d : List ℕ) (reported : Option StunParseError) : Type 0 where
  pub first_attribute_is : first_attribute (drop offset d) ≡ None
  pub fault_is : fault offset (drop offset d) ≡ reported

pub at_the_end : (offset : ℕ) (d : List ℕ) → offset ≡ length d → Refused offset d None
unfolding fault
at_the_end offset d e =
    let r = drop offset d in
    let none : length r ≡ 0 = omega (arith, length-drop offset d) in
    record { first_attribute_is = first_attribute_short r (omega arith); fault_is = rw (eq-eqb _ _ none) refl }

pub no_header : (offset : ℕ) (d : List ℕ) → offset < length d → length d < offset + 4 → Refused offset d (Some (Truncated (offset + 8) (length d + 4)))
unfolding fault
no_header offset d some few =
    let r = drop offset d in
    let end : offset + length r ≡ length d = omega (arith, length-drop offset d) in
    let there : eqb (length r) 0 ≡ false = ne_eqb _ _ (λ e. absurd (omega arith)) in
    record { first_attribute_is = first_attribute_short r (omega arith); fault_is = rw (there, lt-ltb (length r) 4 (omega arith), end) refl }

pub no_value : (offset : ℕ) (d : List ℕ) (n : ℕ) → offset + 4 ≤ length d → n ≡ stated_length (drop offset d) → length d < offset + 4 + n → Refused offset d (Some (Truncated (offset + 4 + n) (length d)))
unfolding fault
no_value offset d n header n-is few =
    let r = drop offset d in
    let end : offset + length r ≡ length d = omega (arith, length-drop offset d) in
    let there : eqb (length r) 0 ≡ false = ne_eqb _ _ (λ e. absurd (omega arith)) in
    let cut : length r < 4 + padded_length (stated_length r) = omega arith in
    record { first_attribute_is = first_attribute_cut r (omega arith) cut; fault_is = rw (there, le-ltb (length r) 4 (omega arith), ← n-is, lt-ltb (length r) (4 + n) (omega arith), end) refl }

pub no_padding : (offset : ℕ) (d : List ℕ) (n : ℕ) → offset + 4 + n ≤ length d → n ≡ stated_length (drop offset d) → length d < offset + 4 + padded_length n → Refused offset d (Some (Truncated (offset + 4 + padded_length n) (length d)))
unfolding fault
no_padding offset d n value n-is few =
    let r = drop offset d in
    let end : offset + length r ≡ length d = omega (arith, length-drop offset d) in
    let there : eqb (length r) 0 ≡ false = ne_eqb _ _ (λ e. absurd (omega arith)) in
    let cut : length r < 4 + padded_length (stated_length r) = omega arith in
    record { first_attribute_is = first_attribute_cut r (omega arith) cut; fault_is = rw (there, le-ltb (length r) 4 (omega arith), ← n-is, le-ltb (length r) (4 + n) (omega arith), lt-ltb (length r) (4 + padded_length n) (omega arith), end) refl }

-- an attribute at an offset, whose bytes are all there
pub record Stands (offset : ℕ) (d : List ℕ) (n : ℕ) : Type 0 where
  pub attribute : Attribute
  pub first_attribute_is : first_attribute (drop offset d) ≡ Some attribute
  pub type_is : number (take 2 (drop offset d)) ≡ attribute.type
  pub value_is : take n (drop 4 (drop offset d)) ≡ attribute.value
  pub behind_is : offset + 4 + padded_length n ≡ offset + length (encoding attribute)

pub whole_attribute : (offset : ℕ) (d : List ℕ) (n : ℕ) → offset + 4 + padded_length n ≤ length d → n ≡ stated_length (drop offset d) → Stands offset d n
whole_attribute offset d n enough n-is =
    let r = drop offset d in
    let e = first_attribute_is r n (sym n-is) (omega (arith, length-drop offset d)) in
    record {
      attribute = _;
      first_attribute_is = e;
      type_is = refl;
      value_is = refl;
      behind_is = omega (arith, (length-first_attribute r _ e).0, n-is);
    }
