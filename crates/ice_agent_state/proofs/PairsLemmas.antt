-- Loops over pairs, from the end.
use Rattle.std.proofs.Common.{◌≡◌, ℕ, zero, suc, ◌-◌, ◌<◌, ◌≤◌, Bool, true, false, cond, List, [], ◌∷◌, length, find, set, inl, inr, drop, filter, map, get_or, Option, None, Some, refl, sym, ap, ◌∙◌, subst, eqb-true, arith}
use Rattle.std.specs.Prelude.{nat_lt, ◌==◌, option_map}
use Rattle.std.specs.List.{AllByRecursion, list_any}
use Rattle.std.proofs.lemmas.Bool.{cond-true, cond-false, lt-ltb, and_parts, or_left, or_right, cases_Bool}
use Rattle.std.proofs.lemmas.Bool.Decides.{nat_tests}
use Rattle.stun_endpoints.specs.Endpoints.{is_endpoint}
use Rattle.stun_endpoints.proofs.AddressesLemmas.{endpoint_same}
use Rattle.stun_endpoints.specs.declared.endpoints.Endpoint.{Endpoint}
use Rattle.ice_machine.specs.declared.pairs.Pair.{Pair}
use Rattle.ice_machine.specs.declared.pairs.PairState.TheVariants.{Frozen}
use Rattle.ice_machine.specs.Agents.{is_at}
use Rattle.ice_machine.specs.Bounds.{AreDistinct}
use Rattle.ice_machine.specs.Steps.{changed_first}
use Rattle.ice_machine.proofs.RightLemmas.{IsGood, best_good}
use Rattle.ice_machine.proofs.SilenceLemmas.{IsFirst, all_first}
use Rattle.ice_machine.specs.Pairs.{better, best, with_pair, with_pairs}
use Rattle.ice_agent_state.specs.Best.{better_scored, scored}
use Rattle.ice_agent_state.proofs.ListsLemmas.{drop_splits, drop_passes}

-- what an index out of a list's range gives
abbrev pub no_pair : Pair
no_pair = record {
  base = 0;
  remote = record { ip = record { family = 0; number = 0 }; port = 0 };
  component = 0;
  priority = 0;
  remote_priority = 0;
  foundation = 0;
  remote_foundation = 0;
  reflexive_priority = 0;
  state = Frozen;
  triggered = false;
  heard = false;
  chosen = false;
  nominated = false;
  expires_at = 0;
  succeeded_at = 0;
  due = 0;
  tries = 0;
}

scored_if : (S : Pair → ℕ) (b : Bool) (p : Pair) → cond b (Some (p, S p)) None ≡ option_map (scored S) (cond b (Some p) None)
scored_if S true p = refl
scored_if S false p = refl

scored_of : (S : Pair → ℕ) (b : Bool) (p q : Pair) → cond b (Some (q, S q)) (Some (p, S p)) ≡ option_map (scored S) (cond b (Some q) (Some p))
scored_of S true p q = refl
scored_of S false p q = refl

better_step : (S : Pair → ℕ) (p : Pair) (o : Option Pair) → better_scored (S p) p (option_map (scored S) o) ≡ option_map (scored S) (better S p o)
better_step S p None = scored_if S (nat_lt 0 (S p)) p
better_step S p (Some q) = scored_of S (nat_lt (S p) (S q)) p q

-- the best from one place on
pub best_step : (S : Pair → ℕ) (ps : List Pair) (at : ℕ) (d p : Pair) (n : ℕ) (o r : Option (Pair × ℕ)) → 0 < at → at ≤ length ps → p ≡ get_or ps (at - 1) d → n ≡ S p
    → o ≡ option_map (scored S) (best S (drop at ps)) → r ≡ better_scored n p o → r ≡ option_map (scored S) (best S (drop (at - 1) ps))
best_step S ps at d p n o r some within here is so_far next =
    next
    ∙ ap (λ (m : ℕ). better_scored m p o) is
    ∙ ap (λ (z : Option (Pair × ℕ)). better_scored (S p) p z) so_far
    ∙ better_step S p (best S (drop at ps))
    ∙ ap (λ (z : Pair). option_map (scored S) (better S z (best S (drop at ps)))) here
    ∙ ap (λ (zs : List Pair). option_map (scored S) (best S zs)) (sym (drop_splits ps at d some within))

skipped : (S : Pair → ℕ) (p : Pair) (o : Option Pair) → S p ≡ 0 → IsGood (λ _. Unit {0}) S o → better S p o ≡ o
skipped S p None none good = grind (arith, nat_tests)
skipped S p (Some q) none good = cond-true (nat_lt (S p) (S q)) (Some q) (Some p) (lt-ltb (S p) (S q) (let some = good.1 in omega (arith, none, some)))

each_any : (ps : List Pair) → AllByRecursion (λ _. Unit {0}) ps
each_any [] = tt
each_any (p ∷ ps) = (tt, each_any ps)

-- the same, if the pair at the next place has no score
pub best_skip : (S : Pair → ℕ) (ps : List Pair) (at : ℕ) (d p : Pair) (n : ℕ) (o : Option (Pair × ℕ)) → 0 < at → at ≤ length ps → p ≡ get_or ps (at - 1) d → n ≡ S p → n ≡ 0
    → o ≡ option_map (scored S) (best S (drop at ps)) → o ≡ option_map (scored S) (best S (drop (at - 1) ps))
best_skip S ps at d p n o some within here is none so_far =
    so_far
    ∙ ap (option_map (scored S)) (sym (ap (best S) (drop_splits ps at d some within) ∙ skipped S (get_or ps (at - 1) d) (best S (drop at ps)) (sym (is ∙ ap S here) ∙ none) (best_good (λ _. Unit {0}) S (drop at ps) (each_any (drop at ps)))))

-- ---- Places

each_here : (P : Pair → Type 0) (ps : List Pair) (i : ℕ) (d : Pair) → i < length ps → AllByRecursion P ps → P (get_or ps i d)
each_here P [] i d lt each = absurd (omega (arith, lt))
each_here P (p ∷ ps) zero d lt each = each.0
each_here P (p ∷ ps) (suc i) d lt each = each_here P ps i d (omega (arith, lt)) each.1

-- the only pair of its base and remote address
pub found_at : (base : ℕ) (e : Endpoint) (ps : List Pair) (i : ℕ) (d : Pair) → AreDistinct ps → i < length ps → is_at base e (get_or ps i d) ≡ true → find (is_at base e) ps ≡ Some (get_or ps i d)
found_at base e ps i d distinct lt is =
    let both = and_parts (base == (get_or ps i d).base) (is_endpoint e (get_or ps i d).remote) is in
    ap (λ (n : ℕ). find (is_at n e) ps) (eqb-true base (get_or ps i d).base both.0)
    ∙ ap (λ (x : Endpoint). find (is_at (get_or ps i d).base x) ps) (endpoint_same e (get_or ps i d).remote both.1)
    ∙ each_here (IsFirst ps) ps i d lt (all_first ps distinct)

pub any_here : (test : Pair → Bool) (ps : List Pair) (i : ℕ) (d : Pair) → i < length ps → test (get_or ps i d) ≡ true → list_any test ps ≡ true
any_here test [] i d lt is = absurd (omega (arith, lt))
any_here test (p ∷ ps) zero d lt is = or_left (test p) (list_any test ps) is
any_here test (p ∷ ps) (suc i) d lt is = or_right (test p) (list_any test ps) (any_here test ps i d (omega (arith, lt)) is)

never : (P : Type 0) (b : Bool) → b ≡ true → b ≡ false → P
never P true is isnt = absurd cc
never P false is isnt = absurd cc

-- a pair of one place doesn't pass, if a later one does
not_here : (base : ℕ) (e : Endpoint) (p : Pair) (ps : List Pair) → list_any (is_at p.base p.remote) ps ≡ false → (i : ℕ) (d : Pair) → i < length ps → is_at base e (get_or ps i d) ≡ true → is_at base e p ≡ false
not_here base e p ps none i d lt is = elim (cases_Bool (is_at base e p)) as (λ x. is_at base e p ≡ false) [
  | inl same ↦ let both = and_parts (base == p.base) (is_endpoint e p.remote) same in
      let some = any_here (is_at base e) ps i d lt is in
      never (is_at base e p ≡ false) (list_any (is_at p.base p.remote) ps) (subst (λ (n : ℕ). list_any (is_at n p.remote) ps ≡ true) (eqb-true base p.base both.0) (subst (λ (x : Endpoint). list_any (is_at base x) ps ≡ true) (endpoint_same e p.remote both.1) some)) none
  | inr other ↦ other
]

-- the only pair of its base and remote address is changed
pub changed_at : (base : ℕ) (e : Endpoint) (change : Pair → Pair) (ps : List Pair) (i : ℕ) (d : Pair) → AreDistinct ps → i < length ps → is_at base e (get_or ps i d) ≡ true → set ps i (change (get_or ps i d)) ≡ changed_first (is_at base e) change ps
changed_at base e change [] i d distinct lt is = absurd (omega (arith, lt))
changed_at base e change (p ∷ ps) zero d distinct lt is = sym (cond-true (is_at base e p) (change p ∷ ps) (p ∷ changed_first (is_at base e) change ps) is)
changed_at base e change (p ∷ ps) (suc i) d distinct lt is =
    let less : i < length ps = omega (arith, lt) in
    ap (λ (qs : List Pair). p ∷ qs) (changed_at base e change ps i d distinct.1 less is)
    ∙ sym (cond-false (is_at base e p) (change p ∷ ps) (p ∷ changed_first (is_at base e) change ps) (not_here base e p ps distinct.0 i d less is))

none_if : (b : Bool) (p : Pair) (o : Option Pair) → cond b (Some p) o ≡ None → (b ≡ false) × (o ≡ None)
none_if true p o is = absurd cc
none_if false p o is = (refl, is)

pub none_changed : (test : Pair → Bool) (change : Pair → Pair) (ps : List Pair) → find test ps ≡ None → ps ≡ changed_first test change ps
none_changed test change [] none = refl
none_changed test change (p ∷ ps) none =
    let both = none_if (test p) p (find test ps) none in
    ap (λ (qs : List Pair). p ∷ qs) (none_changed test change ps both.1) ∙ sym (cond-false (test p) (change p ∷ ps) (p ∷ changed_first test change ps) both.0)

-- one more pair of those from one place on
pub with_step : {X : Type 0} (most : ℕ) (new : X → Pair) (test : X → Bool) (xs : List X) (at : ℕ) (d x : X) (p : Pair) (ps qs : List Pair) → 0 < at → at ≤ length xs → x ≡ get_or xs (at - 1) d → test x ≡ true → p ≡ new x
    → ps ≡ with_pairs most (map {B = Pair} new (filter test (drop at xs))) qs → with_pair most p ps ≡ with_pairs most (map {B = Pair} new (filter test (drop (at - 1) xs))) qs
with_step {X = X} most new test xs at d x p ps qs some within here passes is so_far =
    ap (λ (z : Pair). with_pair most z ps) (is ∙ ap new here)
    ∙ ap (λ (zs : List Pair). with_pair most (new (get_or xs (at - 1) d)) zs) so_far
    ∙ ap (λ (zs : List X). with_pairs most (map {B = Pair} new zs) qs) (sym (drop_passes test xs at d some within (subst (λ (z : X). test z ≡ true) here passes)))
