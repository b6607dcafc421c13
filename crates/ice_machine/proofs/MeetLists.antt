-- Lists of which one element has a property, and each other has another.
use Rattle.std.proofs.Common.{◌≡◌, ℕ, ◌<◌, ◌≤◌, inl, inr, ◌⊎◌, Bool, true, false, ◌||◌, List, [], ◌∷◌, Option, None, Some, refl, sym, subst, map, arith}
use Rattle.std.specs.List.{AllByRecursion, list_any}
use Rattle.std.specs.Prelude.{nat_lt}
use Rattle.std.proofs.lemmas.Bool.{cond_both, cond-true, cond-false, lt-ltb, le-ltb, ltb-true, ltb-false, or_left, or_right}
use Rattle.ice_machine.specs.Agents.{Pair}
use Rattle.ice_machine.specs.Pairs.{best, better}
use Rattle.ice_machine.specs.Steps.{changed_first}
use Rattle.ice_machine.specs.Meetings.{OneAmong}
use Rattle.ice_machine.proofs.ListsLemmas.{each_map, each_mapped, each_changed}
use Rattle.ice_machine.proofs.RightLemmas.{IsGood, best_good}

pub one_map : (P R Q S : Pair → Type 0) (f : Pair → Pair) → ((x : Pair) → P x → R (f x)) → ((x : Pair) → Q x → S (f x)) → (ps : List Pair) → OneAmong P Q ps → OneAmong R S (map {B = Pair} f ps)
one_map P R Q S f on off [] one = absurd one
one_map P R Q S f on off (p ∷ ps) (inl here) = inl (on p here.0, each_mapped Q S f off ps here.1)
one_map P R Q S f on off (p ∷ ps) (inr there) = inr (off p there.0, one_map P R Q S f on off ps there.1)

pub one_weaken : (P R Q : Pair → Type 0) → ((x : Pair) → P x → R x) → (ps : List Pair) → OneAmong P Q ps → OneAmong R Q ps
one_weaken P R Q on [] one = absurd one
one_weaken P R Q on (p ∷ ps) (inl here) = inl (on p here.0, here.1)
one_weaken P R Q on (p ∷ ps) (inr there) = inr (there.0, one_weaken P R Q on ps there.1)

-- the one is changed
pub one_changed : (P R Q : Pair → Type 0) (test : Pair → Bool) (f : Pair → Pair) → ((x : Pair) → P x → test x ≡ true) → ((x : Pair) → Q x → test x ≡ false) → ((x : Pair) → P x → R (f x)) → (ps : List Pair)
    → OneAmong P Q ps → OneAmong R Q (changed_first test f ps)
one_changed P R Q test f is isnt on [] one = absurd one
one_changed P R Q test f is isnt on (p ∷ ps) (inl here) =
    subst (OneAmong R Q) (sym (cond-true (test p) (f p ∷ ps) (p ∷ changed_first test f ps) (is p here.0))) (inl (on p here.0, here.1))
one_changed P R Q test f is isnt on (p ∷ ps) (inr there) =
    subst (OneAmong R Q) (sym (cond-false (test p) (f p ∷ ps) (p ∷ changed_first test f ps) (isnt p there.0))) (inr (there.0, one_changed P R Q test f is isnt on ps there.1))

-- another one is
pub one_elsewhere : (P Q : Pair → Type 0) (test : Pair → Bool) (f : Pair → Pair) → ((x : Pair) → P x → test x ≡ false) → ((x : Pair) → Q x → Q (f x)) → (ps : List Pair) → OneAmong P Q ps → OneAmong P Q (changed_first test f ps)
one_elsewhere P Q test f isnt off [] one = absurd one
one_elsewhere P Q test f isnt off (p ∷ ps) (inl here) =
    subst (OneAmong P Q) (sym (cond-false (test p) (f p ∷ ps) (p ∷ changed_first test f ps) (isnt p here.0))) (inl (here.0, each_changed Q Q test f (λ x q. q) ps (λ x _ q. off x q) here.1))
one_elsewhere P Q test f isnt off (p ∷ ps) (inr there) = cond_both (test p) (f p ∷ ps) (p ∷ changed_first test f ps) (OneAmong P Q)
    (λ _. inr (off p there.0, there.1)) (λ _. inr (there.0, one_elsewhere P Q test f isnt off ps there.1))

-- the one, found by a test
abbrev pub FoundBy : (P : Pair → Type 0) → Option Pair → Type 0
FoundBy P None = ⊥
FoundBy P (Some p) = P p

pub one_is_there : (P Q : Pair → Type 0) (test : Pair → Bool) → ((x : Pair) → P x → test x ≡ true) → (ps : List Pair) → OneAmong P Q ps → list_any test ps ≡ true
one_is_there P Q test is [] one = absurd one
one_is_there P Q test is (p ∷ ps) (inl here) = or_left (test p) (list_any test ps) (is p here.0)
one_is_there P Q test is (p ∷ ps) (inr there) = or_right (test p) (list_any test ps) (one_is_there P Q test is ps there.1)

or_both : (a b : Bool) → a ≡ false → b ≡ false → (a || b) ≡ false
or_both true b one other = one
or_both false b one other = other

each_none : (Q : Pair → Type 0) (test : Pair → Bool) → ((x : Pair) → Q x → test x ≡ false) → (ps : List Pair) → AllByRecursion Q ps → list_any test ps ≡ false
each_none Q test isnt [] each = refl
each_none Q test isnt (p ∷ ps) each = or_both (test p) (list_any test ps) (isnt p each.0) (each_none Q test isnt ps each.1)

pub one_none : (P Q : Pair → Type 0) (test : Pair → Bool) → ((x : Pair) → P x → test x ≡ false) → ((x : Pair) → Q x → test x ≡ false) → (ps : List Pair) → OneAmong P Q ps → list_any test ps ≡ false
one_none P Q test is isnt [] one = absurd one
one_none P Q test is isnt (p ∷ ps) (inl here) = or_both (test p) (list_any test ps) (is p here.0) (each_none Q test isnt ps here.1)
one_none P Q test is isnt (p ∷ ps) (inr there) = or_both (test p) (list_any test ps) (isnt p there.0) (one_none P Q test is isnt ps there.1)

-- ---- The best one

better_first : (P Q : Pair → Type 0) (score : Pair → ℕ) (p : Pair) (o : Option Pair) → P p → 0 < score p → ((y : Pair) → Q y → score y < score p) → IsGood Q score o → FoundBy P (better score p o)
better_first P Q score p None is some less good = subst (FoundBy P) (sym (cond-true (nat_lt 0 (score p)) (Some p) None (lt-ltb 0 (score p) some))) is
better_first P Q score p (Some q) is some less good =
    subst (FoundBy P) (sym (cond-false (nat_lt (score p) (score q)) (Some q) (Some p) (le-ltb (score p) (score q) (let l = less q good.0 in omega (arith, l))))) is

better_later : (P : Pair → Type 0) (score : Pair → ℕ) (p : Pair) (o : Option Pair) → ((x : Pair) → P x → score p < score x) → FoundBy P o → FoundBy P (better score p o)
better_later P score p None less is = absurd is
better_later P score p (Some q) less is = subst (FoundBy P) (sym (cond-true (nat_lt (score p) (score q)) (Some q) (Some p) (lt-ltb (score p) (score q) (less q is)))) is

-- the one is the best, if its score is above all others
pub one_best : (P Q : Pair → Type 0) (score : Pair → ℕ) → ((x : Pair) → P x → 0 < score x) → ((x y : Pair) → P x → Q y → score y < score x) → (ps : List Pair) → OneAmong P Q ps → FoundBy P (best score ps)
one_best P Q score some less [] one = absurd one
one_best P Q score some less (p ∷ ps) (inl here) = better_first P Q score p (best score ps) here.0 (some p here.0) (λ y q. less p y here.0 q) (best_good Q score ps here.1)
one_best P Q score some less (p ∷ ps) (inr there) = better_later P score p (best score ps) (λ x is. less x p is there.0) (one_best P Q score some less ps there.1)

each_either : (P Q : Pair → Type 0) (ps : List Pair) → OneAmong P Q ps → AllByRecursion (λ x. P x ⊎ Q x) ps
each_either P Q [] one = absurd one
each_either P Q (p ∷ ps) (inl here) = (inl here.0, each_map Q (λ x. P x ⊎ Q x) (λ x q. inr q) ps here.1)
each_either P Q (p ∷ ps) (inr there) = (inr there.0, each_either P Q ps there.1)

-- the best is the one or another, if there is any
pub either_best : (P Q : Pair → Type 0) (score : Pair → ℕ) (ps : List Pair) → OneAmong P Q ps → IsGood (λ x. P x ⊎ Q x) score (best score ps)
either_best P Q score ps one = best_good (λ x. P x ⊎ Q x) score ps (each_either P Q ps one)

abbrev pub IsSome : Option Pair → Type 0
IsSome None = ⊥
IsSome (Some p) = Unit {0}

better_some : (score : Pair → ℕ) (p : Pair) (o : Option Pair) → IsSome o → IsSome (better score p o)
better_some score p None is = absurd is
better_some score p (Some q) is = cond_both (nat_lt (score p) (score q)) (Some q) (Some p) IsSome (λ _. tt) (λ _. tt)

better_one : (score : Pair → ℕ) (p : Pair) (o : Option Pair) → 0 < score p → IsSome (better score p o)
better_one score p None some = subst IsSome (sym (cond-true (nat_lt 0 (score p)) (Some p) None (lt-ltb 0 (score p) some))) tt
better_one score p (Some q) some = cond_both (nat_lt (score p) (score q)) (Some q) (Some p) IsSome (λ _. tt) (λ _. tt)

-- and there is one, if the one's score isn't 0
pub some_best : (P Q : Pair → Type 0) (score : Pair → ℕ) → ((x : Pair) → P x → 0 < score x) → (ps : List Pair) → OneAmong P Q ps → IsSome (best score ps)
some_best P Q score some [] one = absurd one
some_best P Q score some (p ∷ ps) (inl here) = better_one score p (best score ps) (some p here.0)
some_best P Q score some (p ∷ ps) (inr there) = better_some score p (best score ps) (some_best P Q score some ps there.1)

-- which one it is
pub one_exact : (P Q : Pair → Type 0) (ps : List Pair) → OneAmong P Q ps → (y : Pair) × P y × OneAmong (λ z. z ≡ y) Q ps
one_exact P Q [] one = absurd one
one_exact P Q (p ∷ ps) (inl here) = (p, here.0, inl (refl, here.1))
one_exact P Q (p ∷ ps) (inr there) = let rest = one_exact P Q ps there.1 in (rest.0, rest.1, inr (there.0, rest.2))

-- any one is changed, so that both properties stay
pub one_touched : (P Q : Pair → Type 0) (test : Pair → Bool) (f : Pair → Pair) → ((x : Pair) → P x → P (f x)) → ((x : Pair) → Q x → Q (f x)) → (ps : List Pair) → OneAmong P Q ps → OneAmong P Q (changed_first test f ps)
one_touched P Q test f on off [] one = absurd one
one_touched P Q test f on off (p ∷ ps) (inl here) = cond_both (test p) (f p ∷ ps) (p ∷ changed_first test f ps) (OneAmong P Q)
    (λ _. inl (on p here.0, here.1)) (λ _. inl (here.0, each_changed Q Q test f (λ x q. q) ps (λ x _ q. off x q) here.1))
one_touched P Q test f on off (p ∷ ps) (inr there) = cond_both (test p) (f p ∷ ps) (p ∷ changed_first test f ps) (OneAmong P Q)
    (λ _. inr (off p there.0, there.1)) (λ _. inr (there.0, one_touched P Q test f on off ps there.1))

-- the best has at least the score of the one
abbrev pub IsTop : ℕ → (Pair → ℕ) → Option Pair → Type 0
IsTop n score None = n ≡ 0
IsTop n score (Some p) = n ≤ score p

better_top : (score : Pair → ℕ) (p : Pair) (o : Option Pair) → IsTop (score p) score (better score p o)
better_top score p None = cond_both (nat_lt 0 (score p)) (Some p) None (IsTop (score p) score) (λ _. omega arith) (λ isnt. let le = ltb-false 0 (score p) isnt in omega (arith, le))
better_top score p (Some q) = cond_both (nat_lt (score p) (score q)) (Some q) (Some p) (IsTop (score p) score) (λ lt. let l = ltb-true (score p) (score q) lt in omega (arith, l)) (λ _. omega arith)

better_over : (n : ℕ) (score : Pair → ℕ) (p : Pair) (o : Option Pair) → IsTop n score o → IsTop n score (better score p o)
better_over n score p None top = cond_both (nat_lt 0 (score p)) (Some p) None (IsTop n score) (λ _. omega (arith, top)) (λ _. top)
better_over n score p (Some q) top = cond_both (nat_lt (score p) (score q)) (Some q) (Some p) (IsTop n score) (λ _. top) (λ ge. let l = ltb-false (score p) (score q) ge in omega (arith, l, top))

pub top_best : (Q : Pair → Type 0) (score : Pair → ℕ) (y : Pair) (ps : List Pair) → OneAmong (λ z. z ≡ y) Q ps → IsTop (score y) score (best score ps)
top_best Q score y [] one = absurd one
top_best Q score y (p ∷ ps) (inl here) = subst (λ (z : Pair). IsTop (score z) score (better score p (best score ps))) here.0 (better_top score p (best score ps))
top_best Q score y (p ∷ ps) (inr there) = better_over (score y) score p (best score ps) (top_best Q score y ps there.1)
