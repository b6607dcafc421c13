-- The attribute of an encoding, and the encoding of the attribute that bytes begin with.
use Rattle.std.proofs.Common.{◌≡◌, ℕ, ◌+◌, ◌-◌, ◌<◌, ◌≤◌, false, ltb, List, ◌++◌, length, take, drop, Some, None, refl, sym, ap, subst, ◌∙◌, append_assoc, arith, inl, inr, []}
use Rattle.std.proofs.lemmas.Bool.{cases_lt, le-ltb, lt-ltb}
use Rattle.std.proofs.lemmas.List.{take_at, drop_at, take-append-drop, drop-drop, length-append, length-take, length-drop, append-nil}
use Rattle.stun_grammar.specs.Numbers.{be16, number, padded_length, IsBytes}
use Rattle.stun_grammar.specs.Attributes.{Attribute, IsAttribute, encoding}
use Rattle.stun_grammar.specs.Chains.{stated_length, first_attribute}
use Rattle.stun_grammar.proofs.NumbersLemmas.{IsBytes-get, IsBytes-drop, IsBytes-take, number-two, number-be16, be16-number}

pub length-encoding : (a : Attribute) → length (encoding a) ≡ 4 + (length a.value + length a.padding)
unfolding encoding
length-encoding a = omega (arith, length-append a.value a.padding)

pub length-encoding-is : (a : Attribute) → IsAttribute a → length (encoding a) ≡ 4 + padded_length (length a.value)
length-encoding-is a ok = omega (arith, length-encoding a, ok.padding)

-- the first attribute, if all its bytes are there
pub first_attribute_is : (b : List ℕ) (n : ℕ) → stated_length b ≡ n → 4 + padded_length n ≤ length b
    → first_attribute b ≡ Some (record { type = number (take 2 b); value = take n (drop 4 b); padding = take (padded_length n - n) (drop (4 + n) b) })
unfolding first_attribute
first_attribute_is b n e long =
    let short : ltb (length b) 4 ≡ false = le-ltb _ _ (omega arith) in
    let enough : ltb (length b) (4 + padded_length n) ≡ false = le-ltb _ _ (omega arith) in
    let value : 4 + n - 4 ≡ n = omega arith in
    let padding : 4 + padded_length n - (4 + n) ≡ padded_length n - n = omega arith in
    rw (short, e, enough, value, padding) refl

-- too few bytes have no first attribute
pub first_attribute_short : (b : List ℕ) → length b < 4 → first_attribute b ≡ None
unfolding first_attribute
first_attribute_short b lt = rw (lt-ltb _ _ lt) refl

pub first_attribute_cut : (b : List ℕ) → 4 ≤ length b → length b < 4 + padded_length (stated_length b) → first_attribute b ≡ None
unfolding first_attribute
first_attribute_cut b le lt = let short : ltb (length b) 4 ≡ false = le-ltb _ _ (omega arith) in rw (short, lt-ltb _ _ lt) refl

-- the first attribute of an attribute's encoding is that attribute, whatever follows
pub first_attribute-encoding : (a : Attribute) (more : List ℕ) → IsAttribute a → first_attribute (encoding a ++ more) ≡ Some a
unfolding encoding
first_attribute-encoding a more ok =
    let b = encoding a ++ more in
    let n = length a.value in
    let stated : stated_length b ≡ n = number-be16 n ok.value in
    let body : drop 4 b ≡ (a.value ++ a.padding) ++ more = refl in
    let long : 4 + padded_length n ≤ length b = omega (arith, length-append (encoding a) more, length-encoding-is a ok) in
    let value : take n (drop 4 b) ≡ a.value = rw append_assoc (take_at a.value (a.padding ++ more) n refl) in
    let behind : drop (4 + n) b ≡ a.padding ++ more = sym (drop-drop n 4 b) ∙ rw append_assoc (drop_at a.value (a.padding ++ more) n refl) in
    let padding : take (padded_length n - n) (drop (4 + n) b) ≡ a.padding = rw behind (take_at a.padding more (padded_length n - n) (omega (arith, ok.padding))) in
    let type : number (take 2 b) ≡ a.type = number-be16 a.type ok.type in
    first_attribute_is b n stated long ∙ rw (type, value, padding) refl

-- bytes that have a first attribute have all its bytes
pub first_attribute_some : (b : List ℕ) (a : Attribute) → first_attribute b ≡ Some a
    → (4 + padded_length (stated_length b) ≤ length b) × (a ≡ record { type = number (take 2 b); value = take (stated_length b) (drop 4 b); padding = take (padded_length (stated_length b) - stated_length b) (drop (4 + stated_length b) b) })
first_attribute_some b a e =
    elim (cases_lt (length b) 4) [
      | inl lt ↦ absurd (cc (first_attribute_short b lt))
      | inr le ↦ elim (cases_lt (length b) (4 + padded_length (stated_length b))) [
        | inl lt ↦ absurd (cc (first_attribute_cut b le lt))
        | inr long ↦ (long, cc (first_attribute_is b (stated_length b) refl long))
      ]
    ]

-- a list is four of its parts and what follows them
four_parts : (b : List ℕ) (n m : ℕ) → b ≡ (take 2 b ++ (take 2 (drop 2 b) ++ (take n (drop 4 b) ++ take m (drop (4 + n) b)))) ++ drop (4 + n + m) b
four_parts b n m =
    let last : take m (drop (4 + n) b) ++ drop (4 + n + m) b ≡ drop (4 + n) b = rw (← drop-drop m (4 + n) b) (take-append-drop m (drop (4 + n) b)) in
    let third : take n (drop 4 b) ++ drop (4 + n) b ≡ drop 4 b = rw (← drop-drop n 4 b) (take-append-drop n (drop 4 b)) in
    let second : take 2 (drop 2 b) ++ drop 4 b ≡ drop 2 b = rw (← drop-drop 2 2 b) (take-append-drop 2 (drop 2 b)) in
    sym (simp append_assoc (rw (last, third, second) (take-append-drop 2 b)))

-- a first attribute is an attribute, and the bytes begin with its encoding
pub first_attribute_takes : (b : List ℕ) (a : Attribute) → IsBytes b → first_attribute b ≡ Some a → IsAttribute a × (b ≡ encoding a ++ drop (length (encoding a)) b)
unfolding encoding
first_attribute_takes b a bytes e =
    let found = first_attribute_some b a e in
    let n = stated_length b in
    let long : 4 + padded_length n ≤ length b = found.0 in
    let m : ℕ = padded_length n - n in
    let value = take n (drop 4 b) in
    let padding = take m (drop (4 + n) b) in
    let type = number (take 2 b) in
    let made : Attribute = record { type = type; value = value; padding = padding } in
    let value-length : length value ≡ n = omega (arith, length-take n (drop 4 b), length-drop 4 b) in
    let padding-length : length padding ≡ m = omega (arith, length-take m (drop (4 + n) b), length-drop (4 + n) b) in
    let first-bytes : IsBytes (take 2 b) = IsBytes-take 2 b bytes in
    let second-bytes : IsBytes (take 2 (drop 2 b)) = IsBytes-take 2 (drop 2 b) (IsBytes-drop 2 b bytes) in
    let ok : IsAttribute made = record {
      type = omega (arith, number-two (take 2 b) (omega (arith, length-take 2 b)), IsBytes-get (take 2 b) first-bytes 0, IsBytes-get (take 2 b) first-bytes 1);
      value = omega (arith, value-length, number-two (take 2 (drop 2 b)) (omega (arith, length-take 2 (drop 2 b), length-drop 2 b)), IsBytes-get (take 2 (drop 2 b)) second-bytes 0, IsBytes-get (take 2 (drop 2 b)) second-bytes 1);
      padding = omega arith;
    } in
    let type-encoding : be16 type ≡ take 2 b = be16-number (take 2 b) type (omega (arith, length-take 2 b)) first-bytes refl in
    let length-encoding-of : be16 (length value) ≡ take 2 (drop 2 b) = be16-number (take 2 (drop 2 b)) (length value) (omega (arith, length-take 2 (drop 2 b), length-drop 2 b)) second-bytes (sym value-length) in
    let whole : length (encoding made) ≡ 4 + n + m = omega (arith, length-encoding made) in
    let encoding-is : encoding made ≡ take 2 b ++ (take 2 (drop 2 b) ++ (value ++ padding)) =
    ap (λ (x : List ℕ). x ++ (be16 (length value) ++ (value ++ padding))) type-encoding ∙ ap (λ (x : List ℕ). take 2 b ++ (x ++ (value ++ padding))) length-encoding-of in
    let spelled : b ≡ encoding made ++ drop (4 + n + m) b = subst (λ (x : List ℕ). b ≡ x ++ drop (4 + n + m) b) (sym encoding-is) (four_parts b n m) in
    let parts : b ≡ encoding made ++ drop (length (encoding made)) b = subst (λ (k : ℕ). b ≡ encoding made ++ drop k b) (sym whole) spelled in
    let P : Attribute → Type 0 = λ x. IsAttribute x × (b ≡ encoding x ++ drop (length (encoding x)) b) in
    subst P (sym found.1) (ok, parts)

-- ---- No encoding of an attribute begins that of another

pub no_encoding_begins : (a b : Attribute) (more : List ℕ) → IsAttribute a → IsAttribute b → encoding b ≡ encoding a ++ more → a ≡ b
no_encoding_begins a b more first second e =
    let as_first : first_attribute (encoding b) ≡ Some a = ap first_attribute e ∙ first_attribute-encoding a more first in
    let as_itself : first_attribute (encoding b) ≡ Some b = ap first_attribute (sym (append-nil (encoding b))) ∙ first_attribute-encoding b [] second in
    some_is a b (sym as_first ∙ as_itself)
  where
    some_is : (p q : Attribute) → Some p ≡ Some q → p ≡ q
    some_is p q same = cc
