-- Which algorithm a validation answers by, and what it serves.
use Rattle.std.proofs.Common.{◌≡◌, ℕ, Bool, true, false, cond, eqb, ◌||◌, List, [], ◌∷◌, Option, Some, None, Ok, refl, sym, subst, ◌∙◌}
use Rattle.std.specs.Prelude.{◌&&◌, find, reverse, if◌then◌else◌}
use Rattle.std.specs.Option.{option_map_or}
use Rattle.std.proofs.lemmas.Bool.{eqb-true}
use Rattle.stun_grammar.specs.Chains.{Shown}
use Rattle.stun_grammar.specs.declared.integrity_algorithm.IntegrityAlgorithm.{IntegrityAlgorithm}
use Rattle.stun_grammar.specs.declared.integrity_algorithm.IntegrityAlgorithm.TheVariants.{Sha1, Sha256}
use Rattle.stun_grammar.specs.Showing.{shown}
use Rattle.stun_grammar.specs.Verdicts.{is_checked_type, verdict}
use Rattle.stun_grammar.proofs.AuthenticLemmas.{wanted_algorithm}
use Rattle.stun_grammar.proofs.VerdictsLemmas.{accepted}
use Rattle.stun_keys.specs.Keys.{serves}
use Rattle.stun_authentication.specs.Policies.{common}

found_passes : {X : Type 0} (p : X → Bool) (xs : List X) (x : X) → find p xs ≡ Some x → p x ≡ true
found_passes p [] x e = absurd cc
found_passes p (y ∷ ys) x e = by_test (p y) refl (found_passes p ys x) e
  where
    by_test : (b : Bool) → p y ≡ b → (find p ys ≡ Some x → p x ≡ true) → cond b (Some y) (find p ys) ≡ Some x → p x ≡ true
    by_test true is rest found = let same : y ≡ x = cc in subst (λ z. p z ≡ true) same is
    by_test false is rest found = rest found

serves_itself : (a : IntegrityAlgorithm) → serves (Some a) a ≡ true
serves_itself Sha1 = refl
serves_itself Sha256 = refl

-- a validation answers by one of the algorithms that are looked at
pub answers_served : (m : Option IntegrityAlgorithm) (key : IntegrityAlgorithm → List ℕ) (d : List ℕ) (a : IntegrityAlgorithm) → verdict (is_checked_type m) key d ≡ Ok a → serves m a ≡ true
answers_served None key d a e = refl
answers_served (Some b) key d a e =
    let acc = accepted (is_checked_type (Some b)) key d a e in
    let passes = found_passes (λ (x : Shown). is_checked_type (Some b) x.type) (reverse (shown d)) acc.x acc.last_is in
    let same : a ≡ b = acc.algorithm_is ∙ wanted_algorithm b acc.x.type passes in
    subst (λ (x : IntegrityAlgorithm). serves (Some b) x ≡ true) (sym same) (serves_itself b)

same_served : (b a : IntegrityAlgorithm) → serves (Some b) a ≡ true → b ≡ a
same_served Sha1 Sha1 e = refl
same_served Sha1 Sha256 e = absurd cc
same_served Sha256 Sha1 e = absurd cc
same_served Sha256 Sha256 e = refl

-- what two choices have in common serves each
pub common_serves : (one other served : Option IntegrityAlgorithm) (a : IntegrityAlgorithm) → common one other ≡ Some served → serves served a ≡ true → (serves one a ≡ true) × (serves other a ≡ true)
common_serves None other served a e is = (refl, let same : other ≡ served = cc in subst (λ (m : Option IntegrityAlgorithm). serves m a ≡ true) (sym same) is)
common_serves (Some b) other served a e is = by_test (serves other b) refl e
  where
    by_test : (works : Bool) → serves other b ≡ works → (if works then Some (Some b) else None) ≡ Some served → (serves (Some b) a ≡ true) × (serves other a ≡ true)
    by_test true is_so found =
        let same : Some b ≡ served = cc in
        let own : serves (Some b) a ≡ true = subst (λ (m : Option IntegrityAlgorithm). serves m a ≡ true) (sym same) is in
        (own, subst (λ (x : IntegrityAlgorithm). serves other x ≡ true) (same_served b a own) is_so)
    by_test false is_so found = absurd cc

-- ---- Which types count

both_same : (x : Bool) → x ≡ (x && x)
both_same true = refl
both_same false = refl

first_of_two : (x y : Bool) → x ≡ ((x || y) && x)
first_of_two true y = refl
first_of_two false true = refl
first_of_two false false = refl

second_of_two : (x y : Bool) → y ≡ ((x || y) && y)
second_of_two true true = refl
second_of_two true false = refl
second_of_two false true = refl
second_of_two false false = refl

first_in_two : (x y : Bool) → x ≡ (x && (x || y))
first_in_two true y = refl
first_in_two false y = refl

second_in_two : (x y : Bool) → y ≡ (y && (x || y))
second_in_two true true = refl
second_in_two true false = refl
second_in_two false true = refl
second_in_two false false = refl

-- no type is that of both
never_both : (t : ℕ) → false ≡ (eqb t 0x0008 && eqb t 0x001C)
never_both t = by_first (eqb t 0x0008) refl
  where
    by_first : (b : Bool) → eqb t 0x0008 ≡ b → false ≡ (b && eqb t 0x001C)
    by_first true is = let same : t ≡ 0x0008 = eqb-true t 0x0008 is in subst (λ (n : ℕ). false ≡ eqb n 0x001C) (sym same) refl
    by_first false is = refl

never_either : (t : ℕ) → false ≡ (eqb t 0x001C && eqb t 0x0008)
never_either t = by_first (eqb t 0x001C) refl
  where
    by_first : (b : Bool) → eqb t 0x001C ≡ b → false ≡ (b && eqb t 0x0008)
    by_first true is = let same : t ≡ 0x001C = eqb-true t 0x001C is in subst (λ (n : ℕ). false ≡ eqb n 0x0008) (sym same) refl
    by_first false is = refl

-- the types that two choices have in common are those of each
pub common_types : (one other : Option IntegrityAlgorithm) (t : ℕ) → option_map_or (λ (served : Option IntegrityAlgorithm). is_checked_type served t) (common one other) false ≡ (is_checked_type one t && is_checked_type other t)
common_types None None t = both_same (eqb t 0x0008 || eqb t 0x001C)
common_types None (Some Sha1) t = first_of_two (eqb t 0x0008) (eqb t 0x001C)
common_types None (Some Sha256) t = second_of_two (eqb t 0x0008) (eqb t 0x001C)
common_types (Some Sha1) None t = first_in_two (eqb t 0x0008) (eqb t 0x001C)
common_types (Some Sha256) None t = second_in_two (eqb t 0x0008) (eqb t 0x001C)
common_types (Some Sha1) (Some Sha1) t = both_same (eqb t 0x0008)
common_types (Some Sha256) (Some Sha256) t = both_same (eqb t 0x001C)
common_types (Some Sha1) (Some Sha256) t = never_both t
common_types (Some Sha256) (Some Sha1) t = never_either t
