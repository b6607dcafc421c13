-- From when on tests hold, and what a poll does by then.
use Rattle.std.proofs.Common.{◌≡◌, ℕ, ◌+◌, ◌*◌, ◌^◌, ◌<◌, ◌≤◌, inl, inr, ◌||◌, ◌&&◌, Bool, true, false, not, cond, List, [], ◌∷◌, map, filter, max, min, Option, None, Some, refl, sym, subst, ap, ◌∙◌, arith}
use Rattle.std.specs.Prelude.{nat_lt, nat_le, is_some, if◌then◌else◌}
use Rattle.std.specs.List.{list_any}
use Rattle.std.specs.Option.{option_map_or}
use Rattle.std.proofs.lemmas.Bool.{cond-false, cases_Bool, le-leb, ltb-true, ltb-false, lt-ltb}
use Rattle.std.proofs.lemmas.Bool.Decides.{nat_tests}
use Rattle.ice_machine.specs.declared.pairs.Pair.{Pair}
use Rattle.ice_machine.specs.declared.pairs.PairState.TheVariants.{Failed, Lost}
use Rattle.ice_machine.specs.Agents.{Setup, State, is_succeeded}
use Rattle.ice_machine.specs.Roles.{is_controlling}
use Rattle.ice_machine.specs.Events.{polls}
use Rattle.ice_machine.specs.Pairs.{better, best}
use Rattle.ice_machine.specs.Checks.{is_settled_in, is_hoped_for, urgency, precedence, score, most_urgent}
use Rattle.ice_machine.specs.Steps.{Step, settled, is_unanswered, is_over, is_awaited, at, step, does_nothing, asks_on, is_open, polled}
use Rattle.ice_machine.specs.Bounds.{is_asking}
use Rattle.ice_agent_state.specs.Agents.{Held}
use Rattle.ice_agent_state.specs.Waking.{ends_by, some_by, IsEventful, IsQuiet, IsNextWake, HoldsFrom, is_choice_by, is_long_valid_by, sooner, asks_by, in_width, wake_of}

le_min : (m n k : ℕ) → (nat_le m k || nat_le n k) ≡ nat_le (min m n) k
le_min m n k = grind (arith, nat_tests)

or_false : (b : Bool) → (b || false) ≡ b
or_false true = refl
or_false false = refl

or_true : (b : Bool) → (b || true) ≡ true
or_true true = refl
or_true false = refl

pub or_parts : (a b : Bool) → (a || b) ≡ false → (a ≡ false) × (b ≡ false)
or_parts true b is = absurd cc
or_parts false b is = (refl, is)

-- ---- Tests that hold from a moment on

pub either : (f g : ℕ → Bool) (a b : Option ℕ) → HoldsFrom f a → HoldsFrom g b → HoldsFrom (λ now. f now || g now) (sooner a b)
either f g None None one other = λ now small. rw (one now small, other now small) refl
either f g None (Some n) one other = λ now small. rw (one now small, other now small) refl
either f g (Some m) None one other = λ now small. rw (one now small, other now small) (or_false (nat_le m now))
either f g (Some m) (Some n) one other = λ now small. rw (one now small, other now small) (le_min m n now)

chosen_when : (setup : Setup) (state : State) (p : Pair) (now : ℕ) → is_controlling state.role ≡ true → is_succeeded p.state ≡ true → list_any (is_settled_in p) state.pairs ≡ false → list_any (is_hoped_for state p) state.pairs ≡ true
    → is_choice_by setup state p now ≡ some_by (is_long_valid_by setup state p) state.pairs now
chosen_when setup state p now controls valid none waits =
    let long : Bool = some_by (is_long_valid_by setup state p) state.pairs now in
    let hopes : Bool = list_any (is_hoped_for state p) state.pairs in
    let rest : Bool = not (list_any (is_settled_in p) state.pairs) && (not hopes || long) in
    ap (λ (b : Bool). b && (is_succeeded p.state && rest)) controls ∙ ap (λ (b : Bool). b && rest) valid
    ∙ ap (λ (b : Bool). not b && (not hopes || long)) none ∙ ap (λ (b : Bool). not b || long) waits

-- a pair that waits for a better one is picked once a pair of its component has been valid for long
pub chosen_by : (setup : Setup) (state : State) (p : Pair) (o : Option ℕ) → is_controlling state.role ≡ true → is_succeeded p.state ≡ true → list_any (is_settled_in p) state.pairs ≡ false → list_any (is_hoped_for state p) state.pairs ≡ true
    → HoldsFrom (some_by (is_long_valid_by setup state p) state.pairs) o → HoldsFrom (is_choice_by setup state p) o
chosen_by setup state p None controls valid none waits holds = λ now small. chosen_when setup state p now controls valid none waits ∙ holds now small
chosen_by setup state p (Some start) controls valid none waits holds = λ now small. chosen_when setup state p now controls valid none waits ∙ holds now small

-- ---- A poll

same_pair : (setup : Setup) (now : ℕ) (p : Pair) → ends_by setup p now ≡ false → settled setup now p ≡ p
same_pair setup now p isnt =
    let parts = or_parts (is_unanswered setup now p) (is_over now p) isnt in
    cond-false (is_unanswered setup now p) (record p { state = Failed }) (cond (is_over now p) (record p { state = Lost; triggered = false; chosen = false }) p) parts.0
    ∙ cond-false (is_over now p) (record p { state = Lost; triggered = false; chosen = false }) p parts.1

pub same_pairs : (setup : Setup) (now : ℕ) (ps : List Pair) → some_by (ends_by setup) ps now ≡ false → map {B = Pair} (settled setup now) ps ≡ ps
same_pairs setup now [] isnt = refl
same_pairs setup now (p ∷ ps) isnt =
    let parts = or_parts (ends_by setup p now) (some_by (ends_by setup) ps now) isnt in
    ap (λ (q : Pair). q ∷ map {B = Pair} (settled setup now) ps) (same_pair setup now p parts.0)
    ∙ ap (λ (qs : List Pair). p ∷ qs) (same_pairs setup now ps parts.1)

abbrev waited : State → (now : ℕ) → State
waited state now = record state { clock = now; requests = filter (is_awaited now) state.requests }

at_is : (setup : Setup) (now : ℕ) (state : State) → state.clock ≤ now → some_by (ends_by setup) state.pairs now ≡ false → at setup now state ≡ waited state now
at_is setup now state later isnt =
    let clock_is : max state.clock now ≡ now = omega (arith, later) in
    ap (λ (n : ℕ). record state { clock = n; pairs = map {B = Pair} (settled setup n) state.pairs; requests = filter (is_awaited n) state.requests }) clock_is
    ∙ ap (λ (ps : List Pair). record (waited state now) { pairs = ps }) (same_pairs setup now state.pairs isnt)

some_if : (b : Bool) (p : Pair) → is_some (cond b (Some p) None) ≡ (b || false)
some_if true p = refl
some_if false p = refl

some_of : (b : Bool) (p q : Pair) → is_some (cond b (Some q) (Some p)) ≡ true
some_of true p q = refl
some_of false p q = refl

better_some : (f : Pair → ℕ) (p : Pair) (o : Option Pair) → is_some (better f p o) ≡ (nat_lt 0 (f p) || is_some o)
better_some f p None = some_if (nat_lt 0 (f p)) p
better_some f p (Some q) = some_of (nat_lt (f p) (f q)) p q ∙ sym (or_true (nat_lt 0 (f p)))

score_some : (u n : ℕ) → nat_lt 0 (2 ^ 64 * u + (if nat_lt 0 u then n else 0)) ≡ nat_lt 0 u
score_some u n = elim (cases_Bool (nat_lt 0 u)) as (λ x. nat_lt 0 (2 ^ 64 * u + (if nat_lt 0 u then n else 0)) ≡ nat_lt 0 u) [
  | inl is ↦ lt-ltb 0 (2 ^ 64 * u + (if nat_lt 0 u then n else 0)) (let some = ltb-true 0 u is in omega (arith, some)) ∙ sym is
  | inr isnt ↦ let none : u ≡ 0 = (let le = ltb-false 0 u isnt in omega (arith, le)) in subst (λ (v : ℕ). nat_lt 0 (2 ^ 64 * v + (if nat_lt 0 v then n else 0)) ≡ nat_lt 0 v) (sym none) refl
]

best_some : (setup : Setup) (state : State) (ps : List Pair) → is_some (best (score setup state) ps) ≡ list_any (λ p. nat_lt 0 (urgency setup state p)) ps
best_some setup state [] = refl
best_some setup state (p ∷ ps) =
    better_some (score setup state) p (best (score setup state) ps)
    ∙ ap (λ (b : Bool). b || is_some (best (score setup state) ps)) (score_some (urgency setup state p) (precedence state (urgency setup state p) p))
    ∙ ap (λ (b : Bool). nat_lt 0 (urgency setup state p) || b) (best_some setup state ps)

quiet_by : (b : Bool) (o : Option Pair) (f : Pair → Step) (d : Step) → (b && is_some o) ≡ false → cond b (option_map_or f o d) d ≡ d
quiet_by true None f d isnt = refl
quiet_by true (Some p) f d isnt = absurd cc
quiet_by false o f d isnt = refl

asks_when : (setup : Setup) (fresh : ℕ) (state : State) (b : Bool) (o : Option Pair) → (b && is_some o) ≡ true → is_asking (cond b (option_map_or (asks_on setup fresh state) o (does_nothing state)) (does_nothing state)).output ≡ true
asks_when setup fresh state true None is = absurd cc
asks_when setup fresh state true (Some p) is = refl
asks_when setup fresh state false o is = absurd cc

-- whether a request is sent, by the pairs
asked_when : (setup : Setup) (state : State) (now : ℕ) → (is_open (waited state now) && is_some (most_urgent setup (waited state now))) ≡ asks_by setup state now
asked_when setup state now = ap (λ (b : Bool). is_open (waited state now) && b) (best_some setup (waited state now) state.pairs)

quiet_when : (held : Held) (now : ℕ) → held.state.clock ≤ now → some_by (ends_by held.setup) held.state.pairs now ≡ false → asks_by held.setup held.state now ≡ false → IsQuiet held now
quiet_when held now later none silent = record {
  sends = λ fresh. ap (λ (s : Step). s.output) (nothing_done fresh);
  keeps = λ fresh. ap (λ (s : Step). record held { state = s.state }) (nothing_done fresh);
}
  where
    nothing_done : (fresh : ℕ) → step held.setup held.state now fresh polls ≡ does_nothing (waited held.state now)
    nothing_done fresh = ap (λ (s : State). polled held.setup fresh s) (at_is held.setup now held.state later none)
        ∙ quiet_by (is_open (waited held.state now)) (most_urgent held.setup (waited held.state now)) (asks_on held.setup fresh (waited held.state now)) (does_nothing (waited held.state now)) (asked_when held.setup held.state now ∙ silent)

eventful_when : (held : Held) (now : ℕ) → held.state.clock ≤ now → (some_by (ends_by held.setup) held.state.pairs now || asks_by held.setup held.state now) ≡ true → IsEventful held now
eventful_when held now later is = elim (cases_Bool (some_by (ends_by held.setup) held.state.pairs now)) as (λ x. IsEventful held now) [
  | inl ends ↦ λ fresh. inr ends
  | inr none ↦ λ fresh. inl (subst (λ (s : State). is_asking (polled held.setup fresh s).output ≡ true) (sym (at_is held.setup now held.state later none))
      (asks_when held.setup fresh (waited held.state now) (is_open (waited held.state now)) (most_urgent held.setup (waited held.state now)) (asked_when held.setup held.state now ∙ other (some_by (ends_by held.setup) held.state.pairs now) (asks_by held.setup held.state now) none is)))
]
  where
    other : (a b : Bool) → a ≡ false → (a || b) ≡ true → b ≡ true
    other true b isnt is = absurd cc
    other false b isnt is = is

-- ---- The next wake

abbrev happens_by : Held → (now : ℕ) → Bool
happens_by held now = some_by (ends_by held.setup) held.state.pairs now || asks_by held.setup held.state now

pub early : (m now : ℕ) → now < m → nat_le m now ≡ false
early m now before = grind (arith, nat_tests)

quiet_before : (held : Held) (now : ℕ) → held.state.clock ≤ now → happens_by held now ≡ false → IsQuiet held now
quiet_before held now later isnt =
    let parts = or_parts (some_by (ends_by held.setup) held.state.pairs now) (asks_by held.setup held.state now) isnt in
    quiet_when held now later parts.0 parts.1

wakes_in : (held : Held) (m : ℕ) (b : Bool) → nat_lt (max m held.state.clock) (2 ^ 64) ≡ b → held.state.clock < 2 ^ 64 → HoldsFrom (happens_by held) (Some m) → IsNextWake held (in_width b (max m held.state.clock))
wakes_in held m true is small holds =
    let width = ltb-true (max m held.state.clock) (2 ^ 64) is in record {
      later = omega arith;
      quiet = λ now later before. quiet_before held now later (holds now (omega (arith, width, before)) ∙ early m now (omega (arith, later, before)));
      eventful = λ now start below. eventful_when held now (omega (arith, start)) (holds now below ∙ le-leb m now (omega (arith, start)));
    }
wakes_in held m false is small holds = λ now later below.
    let width = ltb-false (max m held.state.clock) (2 ^ 64) is in
    quiet_before held now later (holds now below ∙ early m now (omega (arith, width, below, small)))

wakes_at : (held : Held) (o : Option ℕ) → held.state.clock < 2 ^ 64 → HoldsFrom (happens_by held) o → IsNextWake held (wake_of held.state.clock o)
wakes_at held None small holds = λ now later below. quiet_before held now later (holds now below)
wakes_at held (Some m) small holds = wakes_in held m (nat_lt (max m held.state.clock) (2 ^ 64)) refl small holds

pub next_wake_is : (held : Held) (loss request : Option ℕ) → held.state.clock < 2 ^ 64 → HoldsFrom (some_by (ends_by held.setup) held.state.pairs) loss → HoldsFrom (asks_by held.setup held.state) request
    → IsNextWake held (wake_of held.state.clock (sooner loss request))
next_wake_is held loss request small one other =
    wakes_at held (sooner loss request) small (either (some_by (ends_by held.setup) held.state.pairs) (asks_by held.setup held.state) loss request one other)
