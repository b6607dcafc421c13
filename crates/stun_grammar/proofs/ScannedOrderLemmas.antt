-- Different ending types in any order: what one more type changes.
use Rattle.std.proofs.Common.{◌≡◌, ℕ, Bool, true, false, cond, eqb, ◌&&◌, ◌||◌, not, List, [], ◌∷◌, ◌++◌, refl, sym, ap, subst, ◌∙◌, inl, inr}
use Rattle.std.specs.List.{list_all, list_any}
use Rattle.std.proofs.lemmas.Bool.{cases_Bool, cases_eq, cond-true, cond-false, eq-eqb, ne_eqb, or_parts, and_parts, and_from, not-true}
use Rattle.std.proofs.lemmas.List.Folds.{list_all-append, list_any-append}
use Rattle.stun_grammar.specs.AttributeTypes.{is_ending}
use Rattle.stun_grammar.specs.ShownOrder.{endings, is_empty}
use Rattle.stun_grammar.specs.ScannedOrder.{in_any_order, distinct, has}
use Rattle.stun_grammar.proofs.ShownOrderLemmas.{which, integrity, sha256, fingerprint, ordinary, is_ending-ordinary}

eqb-sym : (a b : ℕ) → eqb a b ≡ eqb b a
eqb-sym a b = elim (cases_eq a b) [
  | inl e ↦ eq-eqb a b e ∙ sym (eq-eqb b a (sym e))
  | inr n ↦ ne_eqb a b n ∙ sym (ne_eqb b a (λ e. n (sym e)))
]

endings-cons-true : (k : ℕ) (ks : List ℕ) → is_ending k ≡ true → endings (k ∷ ks) ≡ k ∷ ks
unfolding endings
endings-cons-true k ks e = cond-true (is_ending k) _ _ e

endings-cons-false : (k : ℕ) (ks : List ℕ) → is_ending k ≡ false → endings (k ∷ ks) ≡ endings ks
unfolding endings
endings-cons-false k ks e = cond-false (is_ending k) _ _ e

pub endings-append : (a b : List ℕ) → endings (a ++ b) ≡ cond (is_empty (endings a)) (endings b) (endings a ++ b)
unfolding endings
endings-append [] b = refl
endings-append (k ∷ a) b =
    elim (cases_Bool (is_ending k)) [
      | inl e ↦ rw e refl
      | inr e ↦ rw e (endings-append a b)
    ]

-- ---- No number twice

distinct-prefix : (a b : List ℕ) → distinct (a ++ b) ≡ true → distinct a ≡ true
unfolding distinct
distinct-prefix [] b e = refl
distinct-prefix (x ∷ a) b e =
    let parts = and_parts (not (list_any (λ y. eqb y x) (a ++ b))) (distinct (a ++ b)) e in
    let none : list_any (λ y. eqb y x) (a ++ b) ≡ false = not-true _ parts.0 in
    let split = or_parts (list_any (λ y. eqb y x) a) (list_any (λ y. eqb y x) b) (sym (list_any-append (λ y. eqb y x) a b) ∙ none) in
    and_from (not (list_any (λ y. eqb y x) a)) (distinct a) (ap not split.0) (distinct-prefix a b parts.1)

shuffle : (p q r s : Bool) → (not (p || (q || false)) && (r && not s)) ≡ ((not p && r) && not (q || s))
shuffle true q r s = refl
shuffle false true true s = refl
shuffle false true false s = refl
shuffle false false true s = refl
shuffle false false false s = refl

distinct-push : (xs : List ℕ) (k : ℕ) → distinct (xs ++ k ∷ []) ≡ (distinct xs && not (has k xs))
unfolding distinct
distinct-push [] k = refl
distinct-push (x ∷ xs) k =
    ap (λ (t : Bool). not t && distinct (xs ++ k ∷ [])) (list_any-append (λ y. eqb y x) xs (k ∷ []))
    ∙ ap (λ (t : Bool). not (list_any (λ y. eqb y x) xs || (eqb k x || false)) && t) (distinct-push xs k)
    ∙ ap (λ (t : Bool). not (list_any (λ y. eqb y x) xs || (t || false)) && (distinct xs && not (has k xs))) (eqb-sym k x)
    ∙ shuffle (list_any (λ y. eqb y x) xs) (eqb x k) (distinct xs) (has k xs)

-- ---- The types before the first ending type are ordinary

eqb-ordinary : (x k : ℕ) → is_ending x ≡ false → is_ending k ≡ true → eqb x k ≡ false
eqb-ordinary x k e f = ne_eqb x k (λ same. absurd (cc (e, f, ap is_ending same)))

endings-nil : endings [] ≡ []
unfolding endings
endings-nil = refl

pub has-endings : (k : ℕ) (ts : List ℕ) → is_ending k ≡ true → has k ts ≡ has k (endings ts)
has-endings k [] e = ap (has k) (sym endings-nil)
has-endings k (x ∷ ts) e =
    elim (cases_Bool (is_ending x)) [
      | inl f ↦ ap (has k) (sym (endings-cons-true x ts f))
      | inr f ↦ ap (λ (t : Bool). t || has k ts) (eqb-ordinary x k f e) ∙ has-endings k ts e ∙ ap (has k) (sym (endings-cons-false x ts f))
    ]

abbrev EmptyAt : ℕ → List ℕ → Type 0
EmptyAt x ts = is_empty (endings (x ∷ ts)) ≡ not (has 0x0008 (x ∷ ts) || (has 0x001C (x ∷ ts) || has 0x8028 (x ∷ ts)))

at_integrity : (ts : List ℕ) → EmptyAt 0x0008 ts
unfolding endings
at_integrity ts = refl

second_true : (p q : Bool) → false ≡ not (p || (true || q))
second_true true q = refl
second_true false q = refl

third_true : (p q r : Bool) → false ≡ not (p || (q || (true || r)))
third_true true q r = refl
third_true false true r = refl
third_true false false r = refl

at_sha256 : (ts : List ℕ) → EmptyAt 0x001C ts
unfolding endings
at_sha256 ts = second_true (has 0x0008 ts) (has 0x8028 ts)

at_fingerprint : (ts : List ℕ) → EmptyAt 0x8028 ts
unfolding endings
at_fingerprint ts = third_true (has 0x0008 ts) (has 0x001C ts) (has 0x8028 ts)

-- a list has no ending type exactly if none of the three is in it
pub ends_empty : (ts : List ℕ) → is_empty (endings ts) ≡ not (has 0x0008 ts || (has 0x001C ts || has 0x8028 ts))
ends_empty [] = ap is_empty endings-nil
ends_empty (x ∷ ts) = elim (which x) [
  | integrity e ↦ subst (λ (y : ℕ). EmptyAt y ts) (sym e) (at_integrity ts)
  | sha256 e ↦ subst (λ (y : ℕ). EmptyAt y ts) (sym e) (at_sha256 ts)
  | fingerprint e ↦ subst (λ (y : ℕ). EmptyAt y ts) (sym e) (at_fingerprint ts)
  | ordinary a b c ↦ rw (endings-cons-false x ts (is_ending-ordinary x a b c), ne_eqb x 0x0008 a, ne_eqb x 0x001C b, ne_eqb x 0x8028 c) (ends_empty ts)
]

-- ---- One more type

is_empty-true : (xs : List ℕ) → is_empty xs ≡ true → xs ≡ []
is_empty-true [] e = refl
is_empty-true (x ∷ xs) e = absurd cc

any_order-is : (ts : List ℕ) → in_any_order ts ≡ (list_all is_ending (endings ts) && distinct (endings ts))
unfolding in_any_order
any_order-is ts = refl

one_only : (k : ℕ) → (list_all is_ending (endings (k ∷ [])) && distinct (endings (k ∷ []))) ≡ true
unfolding endings distinct
one_only k = elim (cases_Bool (is_ending k)) [
  | inl e ↦ rw (e, e) refl
  | inr e ↦ rw e refl
]

join_and : (a b c d : Bool) → a ≡ true → c ≡ true → ((a && (b && true)) && (c && not d)) ≡ cond b (not d) false
join_and true true true true e f = refl
join_and true true true false e f = refl
join_and true false true d e f = refl
join_and false b c d e f = absurd cc
join_and true b false d e f = absurd cc

first_type : (ts : List ℕ) (k : ℕ) → is_empty (endings ts) ≡ true → cond (is_ending k) (not (has k ts)) (is_empty (endings ts)) ≡ true
first_type ts k none = elim (cases_Bool (is_ending k)) [
  | inl e ↦ cond-true (is_ending k) _ _ e ∙ ap not (has-endings k ts e ∙ ap (has k) (is_empty-true (endings ts) none))
  | inr e ↦ cond-false (is_ending k) _ _ e ∙ none
]

later_type : (ts : List ℕ) (k : ℕ) → is_empty (endings ts) ≡ false → cond (is_ending k) (not (has k ts)) (is_empty (endings ts)) ≡ cond (is_ending k) (not (has k (endings ts))) false
later_type ts k some = elim (cases_Bool (is_ending k)) [
  | inl e ↦ cond-true (is_ending k) _ _ e ∙ ap not (has-endings k ts e) ∙ sym (cond-true (is_ending k) _ _ e)
  | inr e ↦ cond-false (is_ending k) _ _ e ∙ some ∙ sym (cond-false (is_ending k) _ _ e)
]

pub any_order-push : (ts : List ℕ) (k : ℕ) → in_any_order ts ≡ true → in_any_order (ts ++ k ∷ []) ≡ cond (is_ending k) (not (has k ts)) (is_empty (endings ts))
any_order-push ts k fits =
    let both = and_parts (list_all is_ending (endings ts)) (distinct (endings ts)) (sym (any_order-is ts) ∙ fits) in
    elim (cases_Bool (is_empty (endings ts))) [
      | inl none ↦
          let all : endings (ts ++ k ∷ []) ≡ endings (k ∷ []) = endings-append ts (k ∷ []) ∙ cond-true (is_empty (endings ts)) _ _ none in
          any_order-is (ts ++ k ∷ []) ∙ ap (λ (xs : List ℕ). list_all is_ending xs && distinct xs) all ∙ one_only k ∙ sym (first_type ts k none)
      | inr some ↦
          let all : endings (ts ++ k ∷ []) ≡ endings ts ++ k ∷ [] = endings-append ts (k ∷ []) ∙ cond-false (is_empty (endings ts)) _ _ some in
          any_order-is (ts ++ k ∷ []) ∙ ap (λ (xs : List ℕ). list_all is_ending xs && distinct xs) all
          ∙ ap (λ (t : Bool). t && distinct (endings ts ++ k ∷ [])) (list_all-append is_ending (endings ts) (k ∷ []))
          ∙ ap (λ (t : Bool). (list_all is_ending (endings ts) && (is_ending k && true)) && t) (distinct-push (endings ts) k)
          ∙ join_and (list_all is_ending (endings ts)) (is_ending k) (distinct (endings ts)) (has k (endings ts)) both.0 both.1
          ∙ sym (later_type ts k some)
    ]

pub any_order-nil : in_any_order [] ≡ true
unfolding in_any_order endings distinct
any_order-nil = refl

pub any_order-closed : (a b : List ℕ) → in_any_order (a ++ b) ≡ true → in_any_order a ≡ true
any_order-closed a b e =
    elim (cases_Bool (is_empty (endings a))) [
      | inl none ↦ any_order-is a ∙ ap (λ (xs : List ℕ). list_all is_ending xs && distinct xs) (is_empty-true (endings a) none ∙ sym endings-nil) ∙ sym (any_order-is []) ∙ any_order-nil
      | inr some ↦
          let all : endings (a ++ b) ≡ endings a ++ b = endings-append a b ∙ cond-false (is_empty (endings a)) _ _ some in
          let both = and_parts (list_all is_ending (endings a ++ b)) (distinct (endings a ++ b)) (ap (λ (xs : List ℕ). list_all is_ending xs && distinct xs) (sym all) ∙ sym (any_order-is (a ++ b)) ∙ e) in
          let prefix = and_parts (list_all is_ending (endings a)) (list_all is_ending b) (sym (list_all-append is_ending (endings a) b) ∙ both.0) in
          any_order-is a ∙ and_from (list_all is_ending (endings a)) (distinct (endings a)) prefix.0 (distinct-prefix (endings a) b both.1)
    ]
