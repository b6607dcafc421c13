-- A request goes out on the most urgent pair.
use Rattle.std.proofs.Common.{◌≡◌, ℕ, ◌+◌, ◌-◌, ◌*◌, ◌^◌, ◌<◌, ◌≤◌, inl, inr, true, List, [], ◌∷◌, Option, None, Some, refl, sym, ap, subst, ◌∙◌, arith, eqb-true}
use Rattle.std.specs.List.{AllByRecursion}
use Rattle.std.specs.Option.{option_map_or}
use Rattle.std.specs.Prelude.{◌==◌, nat_lt, nat_le, if◌then◌else◌, min}
use Rattle.std.proofs.lemmas.Bool.{cond_both, cond-true, cond-false, cases_Bool, and_parts, leb-true, ltb-true, ltb-false, lt-ltb}
use Rattle.ice_machine.specs.Agents.{Pair, Setup, State, is_succeeded, pair_priority}
use Rattle.ice_machine.specs.Events.{polls}
use Rattle.ice_machine.specs.Pairs.{best, better}
use Rattle.ice_machine.specs.Checks.{urgency, score, most_urgent, precedence}
use Rattle.ice_machine.specs.Steps.{Step, does_nothing, at, asks_on, is_open, step}
use Rattle.ice_machine.specs.Works.{IsIdle, IsAmong, Precedes, IsBusy}
use Rattle.ice_machine.proofs.ListsLemmas.{each_map}
use Rattle.ice_machine.proofs.RightLemmas.{IsGood, best_good}
use Rattle.ice_machine.proofs.SilenceLemmas.{some_urgency}
use Rattle.ice_machine.proofs.MeetPairs.{small_by, precedence_small}
use Rattle.ice_machine.proofs.FairLemmas.{due_longer, three_due}

abbrev pub NoScore : (Pair → ℕ) → List Pair → Option Pair → Type 0
NoScore score ps None = AllByRecursion (λ p. score p ≡ 0) ps
NoScore score ps (Some p) = AllByRecursion (λ q. score q ≤ score p) ps

better_none : (f : Pair → ℕ) (p : Pair) (ps : List Pair) (o : Option Pair) → NoScore f ps o → NoScore f (p ∷ ps) (better f p o)
better_none f p ps None none = cond_both (nat_lt 0 (f p)) _ _ (NoScore f (p ∷ ps)) (λ _. (omega arith, each_map (λ q. f q ≡ 0) (λ q. f q ≤ f p) (λ q is. omega (arith, is)) ps none)) (λ isnt. (let le = ltb-false 0 (f p) isnt in omega (arith, le), none))
better_none f p ps (Some q) none = cond_both (nat_lt (f p) (f q)) _ _ (NoScore f (p ∷ ps)) (λ is. let lt = ltb-true (f p) (f q) is in (omega (arith, lt), none))
    (λ isnt. let le = ltb-false (f p) (f q) isnt in (omega arith, each_map (λ z. f z ≤ f q) (λ z. f z ≤ f p) (λ z is. omega (arith, is, le)) ps none))

pub best_none : (f : Pair → ℕ) (ps : List Pair) → NoScore f ps (best f ps)
best_none f [] = tt
best_none f (p ∷ ps) = better_none f p ps (best f ps) (best_none f ps)

all_among : (ps : List Pair) → AllByRecursion (λ q. IsAmong q ps) ps
all_among [] = tt
all_among (p ∷ ps) = (inl refl, each_map (λ q. IsAmong q ps) (λ q. IsAmong q (p ∷ ps)) (λ q is. inr is) ps (all_among ps))

-- the greater score comes before
score_is : (setup : Setup) (state : State) (p : Pair) → 0 < urgency setup state p → score setup state p ≡ 2 ^ 64 * urgency setup state p + precedence state (urgency setup state p) p
score_is setup state p some = ap (λ (n : ℕ). 2 ^ 64 * urgency setup state p + n) (cond-true (nat_lt 0 (urgency setup state p)) (precedence state (urgency setup state p) p) 0 (lt-ltb 0 (urgency setup state p) some))

by_priority : (state : State) (u : ℕ) (p : Pair) → (u ≡ 3 → ⊥) → precedence state u p ≡ min (2 ^ 64 - 1) (pair_priority state.role p)
by_priority state u p isnt = elim (cases_Bool (u == 3)) as (λ x. precedence state u p ≡ min (2 ^ 64 - 1) (pair_priority state.role p)) [
  | inl is ↦ absurd (isnt (eqb-true u 3 is))
  | inr other ↦ ap (λ (n : ℕ). min (2 ^ 64 - 1) n) (cond-false (u == 3) (state.clock - p.due) (pair_priority state.role p) other)
]

pub precedes_by : (setup : Setup) (state : State) (p q : Pair) → 0 < urgency setup state p → score setup state q ≤ score setup state p → Precedes setup state p q
precedes_by setup state p q some le = record {
  urgent = urgent_by (urgency setup state p) (urgency setup state q) (if nat_lt 0 (urgency setup state p) then precedence state (urgency setup state p) p else 0) (if nat_lt 0 (urgency setup state q) then precedence state (urgency setup state q) q else 0)
      (small_by (nat_lt 0 (urgency setup state p)) (precedence state (urgency setup state p) p) (precedence_small state (urgency setup state p) p)) le;
  longer = λ one other small. due_longer setup state q p small (leb-true q.due state.clock (and_parts (is_succeeded q.state) (nat_le q.due state.clock) (three_due setup state q other)).1) other one le;
  priority = λ isnt same small. greater_by (urgency setup state p) (urgency setup state q) (pair_priority state.role p) (pair_priority state.role q) (score setup state p) (score setup state q) same small
      (score_is setup state p some ∙ ap (λ (n : ℕ). 2 ^ 64 * urgency setup state p + n) (by_priority state (urgency setup state p) p isnt))
      (score_is setup state q (subst (λ (n : ℕ). 0 < n) (sym same) some) ∙ ap (λ (n : ℕ). 2 ^ 64 * urgency setup state q + n) (by_priority state (urgency setup state q) q (λ is. isnt (sym same ∙ is)))) le;
}
  where
    urgent_by : (u v n m : ℕ) → n < 2 ^ 64 → 2 ^ 64 * v + m ≤ 2 ^ 64 * u + n → v ≤ u
    urgent_by u v n m small le = omega (arith, small, le)

    greater_by : (u v n m a b : ℕ) → v ≡ u → m < 2 ^ 64 → a ≡ 2 ^ 64 * u + min (2 ^ 64 - 1) n → b ≡ 2 ^ 64 * v + min (2 ^ 64 - 1) m → b ≤ a → m ≤ n
    greater_by u v n m a b same small at_a at_b le = omega (arith, same, small, at_a, at_b, le)

no_urgency : (u n : ℕ) → 2 ^ 64 * u + n ≡ 0 → u ≡ 0
no_urgency u n is = omega (arith, is)

all_idle : (setup : Setup) (state : State) (ps : List Pair) → AllByRecursion (λ p. score setup state p ≡ 0) ps → AllByRecursion (IsIdle setup state) ps
all_idle setup state [] each = tt
all_idle setup state (p ∷ ps) each = (no_urgency (urgency setup state p) (if nat_lt 0 (urgency setup state p) then precedence state (urgency setup state p) p else 0) each.0, all_idle setup state ps each.1)

busy_by : (setup : Setup) (fresh : ℕ) (state : State) (o : Option Pair) → IsGood (λ q. IsAmong q state.pairs) (score setup state) o → NoScore (score setup state) state.pairs o → IsBusy setup state fresh (option_map_or (asks_on setup fresh state) o (does_nothing state)).output
busy_by setup fresh state None good none = inr (all_idle setup state state.pairs none)
busy_by setup fresh state (Some p) good top = inl (record {
  pair = p;
  known = good.0;
  asked = refl;
  first = each_map (λ q. score setup state q ≤ score setup state p) (Precedes setup state p) (λ q le. precedes_by setup state p q (some_urgency (urgency setup state p) (precedence state (urgency setup state p) p) good.1) le) state.pairs top;
})

pub keeps_busy : (setup : Setup) (state : State) (now fresh : ℕ) → is_open (at setup now state) ≡ true → IsBusy setup (at setup now state) fresh (step setup state now fresh polls).output
keeps_busy setup state now fresh free =
    let s : State = at setup now state in
    subst (λ (t : Step). IsBusy setup s fresh t.output) (sym (cond-true (is_open s) (option_map_or (asks_on setup fresh s) (most_urgent setup s) (does_nothing s)) (does_nothing s) free))
    (busy_by setup fresh s (most_urgent setup s) (best_good (λ q. IsAmong q s.pairs) (score setup s) s.pairs (all_among s.pairs)) (best_none (score setup s) s.pairs))
