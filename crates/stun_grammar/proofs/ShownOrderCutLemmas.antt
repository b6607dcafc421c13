-- The test of the order that is shown holds exactly of the types in that order.
use Rattle.std.proofs.Common.{◌≡◌, ℕ, Bool, true, false, eqb, List, [], ◌∷◌, ◌++◌, refl, sym, ap, ◌∙◌, inl, inr}
use Rattle.std.specs.List.{AllByRecursion, list_all}
use Rattle.std.proofs.lemmas.Bool.{cases_Bool, cond-true, cond-false, eqb-true, and_parts, and_from}
use Rattle.std.proofs.lemmas.List.{append-nil}
use Rattle.stun_grammar.specs.AttributeTypes.{MESSAGE_INTEGRITY, MESSAGE_INTEGRITY_SHA256, FINGERPRINT, is_ending}
use Rattle.stun_grammar.specs.ShownOrder.{endings, without, is_empty, in_order, optional, IsInOrder}
use Rattle.stun_grammar.specs.ScannedOrder.{in_any_order, distinct, IsInAnyOrder}
use Rattle.stun_grammar.proofs.ShownOrderLemmas.{in_order-ordinary}

record OrdinaryPrefix (types : List ℕ) : Type 0 where
  ordinary : List ℕ
  none_ends : AllByRecursion (λ type. is_ending type ≡ false) ordinary
  whole : types ≡ ordinary ++ endings types

ordinary_prefix : (types : List ℕ) → OrdinaryPrefix types
unfolding endings
ordinary_prefix [] = record { ordinary = []; none_ends = tt; whole = refl }
ordinary_prefix (k ∷ types) = elim (cases_Bool (is_ending k)) [
  | inl e ↦ record { ordinary = []; none_ends = tt; whole = sym (cond-true (is_ending k) (k ∷ types) (endings types) e) }
  | inr e ↦
      let behind = ordinary_prefix types in
      record {
        ordinary = k ∷ behind.ordinary;
        none_ends = (e, behind.none_ends);
        whole = ap (λ (xs : List ℕ). k ∷ xs) behind.whole ∙ ap (λ (xs : List ℕ). k ∷ (behind.ordinary ++ xs)) (sym (cond-false (is_ending k) (k ∷ types) (endings types) e));
      }
]

pub maybe : (type : ℕ) (xs : List ℕ) → (b : Bool) × (xs ≡ optional b type ++ without type xs)
unfolding without
maybe type [] = (false, refl)
maybe type (x ∷ xs) = elim (cases_Bool (eqb x type)) [
  | inl e ↦ (true, rw e (ap (λ (y : ℕ). y ∷ xs) (eqb-true x type e)))
  | inr e ↦ (false, rw e refl)
]

pub empty : (xs : List ℕ) → is_empty xs ≡ true → xs ≡ []
empty [] e = refl
empty (x ∷ xs) e = absurd cc

pub ordered-is : (types : List ℕ) → in_order types ≡ true → IsInOrder types
unfolding in_order
ordered-is types e =
    let prefix = ordinary_prefix types in
    let a = maybe MESSAGE_INTEGRITY (endings types) in
    let b = maybe MESSAGE_INTEGRITY_SHA256 (without MESSAGE_INTEGRITY (endings types)) in
    let c = maybe FINGERPRINT (without MESSAGE_INTEGRITY_SHA256 (without MESSAGE_INTEGRITY (endings types))) in
    let end = empty (without FINGERPRINT (without MESSAGE_INTEGRITY_SHA256 (without MESSAGE_INTEGRITY (endings types)))) e in
    record {
      ordinary = prefix.ordinary;
      integrity = a.0;
      sha256 = b.0;
      fingerprint = c.0;
      none_ends = prefix.none_ends;
      whole = prefix.whole ∙ ap (λ (x : List ℕ). prefix.ordinary ++ x)
          (a.1 ∙ ap (λ (x : List ℕ). optional a.0 MESSAGE_INTEGRITY ++ x)
          (b.1 ∙ ap (λ (x : List ℕ). optional b.0 MESSAGE_INTEGRITY_SHA256 ++ x)
          (c.1 ∙ ap (λ (x : List ℕ). optional c.0 FINGERPRINT ++ x) end ∙ append-nil (optional c.0 FINGERPRINT))));
    }

skip_ordinary : (ordinary ts : List ℕ) → AllByRecursion (λ type. is_ending type ≡ false) ordinary → in_order (ordinary ++ ts) ≡ in_order ts
skip_ordinary [] ts all = refl
skip_ordinary (k ∷ ordinary) ts all = in_order-ordinary k (ordinary ++ ts) all.0 ∙ skip_ordinary ordinary ts all.1

endings_pass : (a b c : Bool) → in_order (optional a MESSAGE_INTEGRITY ++ (optional b MESSAGE_INTEGRITY_SHA256 ++ optional c FINGERPRINT)) ≡ true
unfolding in_order endings without
endings_pass true true true = refl
endings_pass true true false = refl
endings_pass true false true = refl
endings_pass true false false = refl
endings_pass false true true = refl
endings_pass false true false = refl
endings_pass false false true = refl
endings_pass false false false = refl

pub in_order-from : (types : List ℕ) → IsInOrder types → in_order types ≡ true
in_order-from types is = ap in_order is.whole ∙ skip_ordinary is.ordinary _ is.none_ends ∙ endings_pass is.integrity is.sha256 is.fingerprint

-- ---- A list in order has different ending types

any_ordinary : (ordinary ts : List ℕ) → AllByRecursion (λ type. is_ending type ≡ false) ordinary → endings (ordinary ++ ts) ≡ endings ts
unfolding endings
any_ordinary [] ts all = refl
any_ordinary (k ∷ ordinary) ts all = cond-false (is_ending k) _ _ all.0 ∙ any_ordinary ordinary ts all.1

differ : (a b c : Bool) → in_any_order (optional a MESSAGE_INTEGRITY ++ (optional b MESSAGE_INTEGRITY_SHA256 ++ optional c FINGERPRINT)) ≡ true
unfolding in_any_order endings distinct
differ true true true = refl
differ true true false = refl
differ true false true = refl
differ true false false = refl
differ false true true = refl
differ false true false = refl
differ false false true = refl
differ false false false = refl

ends_only : (xs ys : List ℕ) → endings xs ≡ endings ys → in_any_order xs ≡ in_any_order ys
unfolding in_any_order
ends_only xs ys e = rw e refl

pub in_any_order-from : (types : List ℕ) → in_order types ≡ true → in_any_order types ≡ true
in_any_order-from types e =
    let is = ordered-is types e in
    ap in_any_order is.whole ∙ ends_only _ _ (any_ordinary is.ordinary _ is.none_ends) ∙ differ is.integrity is.sha256 is.fingerprint

-- ---- The orders that are scanned

all_end : (xs : List ℕ) → list_all is_ending xs ≡ true → AllByRecursion (λ type. is_ending type ≡ true) xs
all_end [] e = tt
all_end (x ∷ xs) e = let parts = and_parts (is_ending x) (list_all is_ending xs) e in (parts.0, all_end xs parts.1)

pub any_ordered-is : (types : List ℕ) → in_any_order types ≡ true → IsInAnyOrder types
unfolding in_any_order
any_ordered-is types e =
    let prefix = ordinary_prefix types in
    let parts = and_parts (list_all is_ending (endings types)) (distinct (endings types)) e in
    record {
      ordinary = prefix.ordinary;
      endings = endings types;
      none_ends = prefix.none_ends;
      all_end = all_end (endings types) parts.0;
      differ = parts.1;
      whole = prefix.whole;
    }

ends_at_once : (xs : List ℕ) → AllByRecursion (λ type. is_ending type ≡ true) xs → endings xs ≡ xs
unfolding endings
ends_at_once [] all = refl
ends_at_once (x ∷ xs) all = cond-true (is_ending x) _ _ all.0

each_ends : (xs : List ℕ) → AllByRecursion (λ type. is_ending type ≡ true) xs → list_all is_ending xs ≡ true
each_ends [] all = refl
each_ends (x ∷ xs) all = and_from (is_ending x) (list_all is_ending xs) all.0 (each_ends xs all.1)

pub in_any_order-cut : (types : List ℕ) → IsInAnyOrder types → in_any_order types ≡ true
unfolding in_any_order
in_any_order-cut types is =
    let ends : endings types ≡ is.endings = ap endings is.whole ∙ any_ordinary is.ordinary is.endings is.none_ends ∙ ends_at_once is.endings is.all_end in
    rw ends (and_from (list_all is_ending is.endings) (distinct is.endings) (each_ends is.endings is.all_end) is.differ)
