-- The two orders of ending attributes, type by type.
use Rattle.std.proofs.Common.{◌≡◌, ℕ, Bool, true, false, eqb, ◌&&◌, ◌||◌, List, [], ◌∷◌, ◌++◌, refl, sym, ap, subst, ◌∙◌, inl, inr}
use Rattle.std.proofs.lemmas.Bool.{cases_eq, cond-false, ne_eqb, or_from, and_parts, and_from}
use Rattle.stun_grammar.specs.AttributeTypes.{is_ending}
use Rattle.stun_grammar.specs.ShownOrder.{endings, without, is_empty, in_order}

-- whether a type is an ending one, and which
pub data Which (type : ℕ) : Type 0 where
  integrity : type ≡ 0x0008 → Which type
  sha256 : type ≡ 0x001C → Which type
  fingerprint : type ≡ 0x8028 → Which type
  ordinary : (type ≡ 0x0008 → ⊥) → (type ≡ 0x001C → ⊥) → (type ≡ 0x8028 → ⊥) → Which type

pub which : (type : ℕ) → Which type
which type = elim (cases_eq type 0x0008) [
  | inl e ↦ integrity e
  | inr a ↦ elim (cases_eq type 0x001C) [
    | inl e ↦ sha256 e
    | inr b ↦ elim (cases_eq type 0x8028) [
      | inl e ↦ fingerprint e
      | inr c ↦ ordinary a b c
    ]
  ]
]

pub is_ending-ordinary : (type : ℕ) → (type ≡ 0x0008 → ⊥) → (type ≡ 0x001C → ⊥) → (type ≡ 0x8028 → ⊥) → is_ending type ≡ false
is_ending-ordinary type a b c = or_from _ _ (ne_eqb type 0x0008 a) (or_from _ _ (ne_eqb type 0x001C b) (ne_eqb type 0x8028 c))

endings-ordinary : (type : ℕ) (types : List ℕ) → is_ending type ≡ false → endings (type ∷ types) ≡ endings types
unfolding endings
endings-ordinary type types e = cond-false (is_ending type) _ _ e

-- an ordinary type at the start makes no difference
pub in_order-ordinary : (type : ℕ) (types : List ℕ) → is_ending type ≡ false → in_order (type ∷ types) ≡ in_order types
unfolding in_order
in_order-ordinary type types e = rw (endings-ordinary type types e) refl

without-other : (type x : ℕ) (xs : List ℕ) → (x ≡ type → ⊥) → without type (x ∷ xs) ≡ x ∷ xs
unfolding without
without-other type x xs differs = rw (ne_eqb x type differs) refl

-- what may follow each type
pub in_order-integrity : (xs : List ℕ) → in_order (0x0008 ∷ xs) ≡ is_empty (without 0x8028 (without 0x001C xs))
unfolding in_order endings without
in_order-integrity xs = refl

pub in_order-sha256 : (xs : List ℕ) → in_order (0x001C ∷ xs) ≡ is_empty (without 0x8028 xs)
unfolding in_order endings without
in_order-sha256 xs = refl

pub in_order-fingerprint : (xs : List ℕ) → in_order (0x8028 ∷ xs) ≡ is_empty xs
unfolding in_order endings without
in_order-fingerprint xs = refl

pub in_order-nil : in_order [] ≡ true
unfolding in_order endings without
in_order-nil = refl

pub in_order-one : (type : ℕ) → in_order (type ∷ []) ≡ true
unfolding without
in_order-one type = elim (which type) [
  | integrity e ↦ rw e (in_order-integrity [])
  | sha256 e ↦ rw e (in_order-sha256 [])
  | fingerprint e ↦ rw e (in_order-fingerprint [])
  | ordinary a b c ↦ in_order-ordinary type [] (is_ending-ordinary type a b c) ∙ in_order-nil
]

-- a list is in order exactly if its first two types are, and those from the second on
abbrev pub Stepwise : ℕ → ℕ → List ℕ → Type 0
Stepwise l k ts = in_order (l ∷ (k ∷ ts)) ≡ (in_order (l ∷ (k ∷ [])) && in_order (k ∷ ts))

integrity_then_integrity : (ts : List ℕ) → Stepwise 0x0008 0x0008 ts
unfolding in_order endings without
integrity_then_integrity ts = refl

integrity_then_sha256 : (ts : List ℕ) → Stepwise 0x0008 0x001C ts
unfolding in_order endings without
integrity_then_sha256 ts = refl

integrity_then_fingerprint : (ts : List ℕ) → Stepwise 0x0008 0x8028 ts
unfolding in_order endings without
integrity_then_fingerprint ts = refl

sha256_then_integrity : (ts : List ℕ) → Stepwise 0x001C 0x0008 ts
unfolding in_order endings without
sha256_then_integrity ts = refl

sha256_then_sha256 : (ts : List ℕ) → Stepwise 0x001C 0x001C ts
unfolding in_order endings without
sha256_then_sha256 ts = refl

sha256_then_fingerprint : (ts : List ℕ) → Stepwise 0x001C 0x8028 ts
unfolding in_order endings without
sha256_then_fingerprint ts = refl

fingerprint_then_integrity : (ts : List ℕ) → Stepwise 0x8028 0x0008 ts
unfolding in_order endings without
fingerprint_then_integrity ts = refl

fingerprint_then_sha256 : (ts : List ℕ) → Stepwise 0x8028 0x001C ts
unfolding in_order endings without
fingerprint_then_sha256 ts = refl

fingerprint_then_fingerprint : (ts : List ℕ) → Stepwise 0x8028 0x8028 ts
unfolding in_order endings without
fingerprint_then_fingerprint ts = refl

integrity_then_ordinary : (k : ℕ) (ts : List ℕ) → (k ≡ 0x001C → ⊥) → (k ≡ 0x8028 → ⊥) → in_order (0x0008 ∷ (k ∷ ts)) ≡ false
integrity_then_ordinary k ts b c = in_order-integrity (k ∷ ts) ∙ ap (λ (xs : List ℕ). is_empty (without 0x8028 xs)) (without-other 0x001C k ts b) ∙ ap is_empty (without-other 0x8028 k ts c)

stepwise-integrity : (k : ℕ) (ts : List ℕ) → Stepwise 0x0008 k ts
stepwise-integrity k ts = elim (which k) [
  | integrity e ↦ subst (λ (x : ℕ). Stepwise 0x0008 x ts) (sym e) (integrity_then_integrity ts)
  | sha256 e ↦ subst (λ (x : ℕ). Stepwise 0x0008 x ts) (sym e) (integrity_then_sha256 ts)
  | fingerprint e ↦ subst (λ (x : ℕ). Stepwise 0x0008 x ts) (sym e) (integrity_then_fingerprint ts)
  | ordinary a b c ↦ integrity_then_ordinary k ts b c ∙ sym (ap (λ (t : Bool). t && in_order (k ∷ ts)) (integrity_then_ordinary k [] b c))
]

sha256_then_ordinary : (k : ℕ) (ts : List ℕ) → (k ≡ 0x001C → ⊥) → (k ≡ 0x8028 → ⊥) → in_order (0x001C ∷ (k ∷ ts)) ≡ false
sha256_then_ordinary k ts b c = in_order-sha256 (k ∷ ts) ∙ ap is_empty (without-other 0x8028 k ts c)

stepwise-sha256 : (k : ℕ) (ts : List ℕ) → Stepwise 0x001C k ts
stepwise-sha256 k ts = elim (which k) [
  | integrity e ↦ subst (λ (x : ℕ). Stepwise 0x001C x ts) (sym e) (sha256_then_integrity ts)
  | sha256 e ↦ subst (λ (x : ℕ). Stepwise 0x001C x ts) (sym e) (sha256_then_sha256 ts)
  | fingerprint e ↦ subst (λ (x : ℕ). Stepwise 0x001C x ts) (sym e) (sha256_then_fingerprint ts)
  | ordinary a b c ↦ sha256_then_ordinary k ts b c ∙ sym (ap (λ (t : Bool). t && in_order (k ∷ ts)) (sha256_then_ordinary k [] b c))
]

fingerprint_then_ordinary : (k : ℕ) (ts : List ℕ) → (k ≡ 0x001C → ⊥) → (k ≡ 0x8028 → ⊥) → in_order (0x8028 ∷ (k ∷ ts)) ≡ false
fingerprint_then_ordinary k ts b c = in_order-fingerprint (k ∷ ts)

stepwise-fingerprint : (k : ℕ) (ts : List ℕ) → Stepwise 0x8028 k ts
stepwise-fingerprint k ts = elim (which k) [
  | integrity e ↦ subst (λ (x : ℕ). Stepwise 0x8028 x ts) (sym e) (fingerprint_then_integrity ts)
  | sha256 e ↦ subst (λ (x : ℕ). Stepwise 0x8028 x ts) (sym e) (fingerprint_then_sha256 ts)
  | fingerprint e ↦ subst (λ (x : ℕ). Stepwise 0x8028 x ts) (sym e) (fingerprint_then_fingerprint ts)
  | ordinary a b c ↦ fingerprint_then_ordinary k ts b c ∙ sym (ap (λ (t : Bool). t && in_order (k ∷ ts)) (fingerprint_then_ordinary k [] b c))
]

pub in_order-cons : (l k : ℕ) (ts : List ℕ) → Stepwise l k ts
in_order-cons l k ts = elim (which l) [
  | integrity e ↦ subst (λ (x : ℕ). Stepwise x k ts) (sym e) (stepwise-integrity k ts)
  | sha256 e ↦ subst (λ (x : ℕ). Stepwise x k ts) (sym e) (stepwise-sha256 k ts)
  | fingerprint e ↦ subst (λ (x : ℕ). Stepwise x k ts) (sym e) (stepwise-fingerprint k ts)
  | ordinary a b c ↦
      let plain = is_ending-ordinary l a b c in
      in_order-ordinary l (k ∷ ts) plain ∙ sym (ap (λ (t : Bool). t && in_order (k ∷ ts)) (in_order-ordinary l (k ∷ []) plain ∙ in_order-one k))
]

-- if the first two types are in order, a list is in order exactly if it is from the second on
pub in_order_more : (l k : ℕ) (ts : List ℕ) → in_order (l ∷ (k ∷ [])) ≡ true → in_order (l ∷ (k ∷ ts)) ≡ in_order (k ∷ ts)
in_order_more l k ts e = in_order-cons l k ts ∙ ap (λ (t : Bool). t && in_order (k ∷ ts)) e

pub in_order_first : (l k : ℕ) (ts : List ℕ) → in_order (l ∷ (k ∷ ts)) ≡ true → in_order (l ∷ (k ∷ [])) ≡ true
in_order_first l k ts e = (and_parts (in_order (l ∷ (k ∷ []))) (in_order (k ∷ ts)) (sym (in_order-cons l k ts) ∙ e)).0

-- each prefix of a list in order is in order
pub in_order_closed : (a b : List ℕ) → in_order (a ++ b) ≡ true → in_order a ≡ true
in_order_closed [] b e = in_order-nil
in_order_closed (k ∷ []) b e = in_order-one k
in_order_closed (l ∷ (k ∷ a)) b e =
    let parts = and_parts (in_order (l ∷ (k ∷ []))) (in_order (k ∷ (a ++ b))) (sym (in_order-cons l k (a ++ b)) ∙ e) in
    in_order-cons l k a ∙ and_from (in_order (l ∷ (k ∷ []))) (in_order (k ∷ a)) parts.0 (in_order_closed (k ∷ a) b parts.1)

-- ---- What may follow a type, as a test of two types

integrity_integrity-pair : in_order (0x0008 ∷ (0x0008 ∷ [])) ≡ (eqb 0x0008 0x8028 || eqb 0x0008 0x001C)
unfolding in_order endings without
integrity_integrity-pair = refl

integrity_sha256-pair : in_order (0x0008 ∷ (0x001C ∷ [])) ≡ (eqb 0x001C 0x8028 || eqb 0x001C 0x001C)
unfolding in_order endings without
integrity_sha256-pair = refl

integrity_fingerprint-pair : in_order (0x0008 ∷ (0x8028 ∷ [])) ≡ (eqb 0x8028 0x8028 || eqb 0x8028 0x001C)
unfolding in_order endings without
integrity_fingerprint-pair = refl

pub pair-integrity : (k : ℕ) → in_order (0x0008 ∷ (k ∷ [])) ≡ (eqb k 0x8028 || eqb k 0x001C)
pair-integrity k = elim (which k) [
  | integrity e ↦ subst (λ (x : ℕ). in_order (0x0008 ∷ (x ∷ [])) ≡ (eqb x 0x8028 || eqb x 0x001C)) (sym e) integrity_integrity-pair
  | sha256 e ↦ subst (λ (x : ℕ). in_order (0x0008 ∷ (x ∷ [])) ≡ (eqb x 0x8028 || eqb x 0x001C)) (sym e) integrity_sha256-pair
  | fingerprint e ↦ subst (λ (x : ℕ). in_order (0x0008 ∷ (x ∷ [])) ≡ (eqb x 0x8028 || eqb x 0x001C)) (sym e) integrity_fingerprint-pair
  | ordinary a b c ↦ integrity_then_ordinary k [] b c ∙ sym (or_from _ _ (ne_eqb k 0x8028 c) (ne_eqb k 0x001C b))
]

sha256_integrity-pair : in_order (0x001C ∷ (0x0008 ∷ [])) ≡ eqb 0x0008 0x8028
unfolding in_order endings without
sha256_integrity-pair = refl

sha256_sha256-pair : in_order (0x001C ∷ (0x001C ∷ [])) ≡ eqb 0x001C 0x8028
unfolding in_order endings without
sha256_sha256-pair = refl

sha256_fingerprint-pair : in_order (0x001C ∷ (0x8028 ∷ [])) ≡ eqb 0x8028 0x8028
unfolding in_order endings without
sha256_fingerprint-pair = refl

pub pair-sha256 : (k : ℕ) → in_order (0x001C ∷ (k ∷ [])) ≡ eqb k 0x8028
pair-sha256 k = elim (which k) [
  | integrity e ↦ subst (λ (x : ℕ). in_order (0x001C ∷ (x ∷ [])) ≡ eqb x 0x8028) (sym e) sha256_integrity-pair
  | sha256 e ↦ subst (λ (x : ℕ). in_order (0x001C ∷ (x ∷ [])) ≡ eqb x 0x8028) (sym e) sha256_sha256-pair
  | fingerprint e ↦ subst (λ (x : ℕ). in_order (0x001C ∷ (x ∷ [])) ≡ eqb x 0x8028) (sym e) sha256_fingerprint-pair
  | ordinary a b c ↦ sha256_then_ordinary k [] b c ∙ sym (ne_eqb k 0x8028 c)
]

fingerprint_integrity-pair : in_order (0x8028 ∷ (0x0008 ∷ [])) ≡ false
unfolding in_order endings without
fingerprint_integrity-pair = refl

fingerprint_sha256-pair : in_order (0x8028 ∷ (0x001C ∷ [])) ≡ false
unfolding in_order endings without
fingerprint_sha256-pair = refl

fingerprint_fingerprint-pair : in_order (0x8028 ∷ (0x8028 ∷ [])) ≡ false
unfolding in_order endings without
fingerprint_fingerprint-pair = refl

pub pair-fingerprint : (k : ℕ) → in_order (0x8028 ∷ (k ∷ [])) ≡ false
pair-fingerprint k = elim (which k) [
  | integrity e ↦ subst (λ (x : ℕ). in_order (0x8028 ∷ (x ∷ [])) ≡ false) (sym e) fingerprint_integrity-pair
  | sha256 e ↦ subst (λ (x : ℕ). in_order (0x8028 ∷ (x ∷ [])) ≡ false) (sym e) fingerprint_sha256-pair
  | fingerprint e ↦ subst (λ (x : ℕ). in_order (0x8028 ∷ (x ∷ [])) ≡ false) (sym e) fingerprint_fingerprint-pair
  | ordinary a b c ↦ fingerprint_then_ordinary k [] b c ∙ refl
]

pub pair-ordinary : (l k : ℕ) → (l ≡ 0x0008 → ⊥) → (l ≡ 0x001C → ⊥) → (l ≡ 0x8028 → ⊥) → in_order (l ∷ (k ∷ [])) ≡ true
pair-ordinary l k a b c = in_order-ordinary l (k ∷ []) (is_ending-ordinary l a b c) ∙ in_order-one k
