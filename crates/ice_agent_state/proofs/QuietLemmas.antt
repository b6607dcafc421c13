-- What keeps it that time changes nothing until a moment.
use Rattle.std.proofs.Common.{◌≡◌, ℕ, ◌+◌, ◌-◌, ◌<◌, ◌≤◌, ◌||◌, ◌&&◌, Bool, true, false, List, [], ◌∷◌, length, get_or, drop, map, filter, take, zero, suc, max, min, Option, None, Some, refl, sym, subst, ap, ◌∙◌, arith}
use Rattle.std.specs.Prelude.{not}
use Rattle.std.specs.List.{AllByRecursion}
use Rattle.std.proofs.lemmas.Bool.{cond_both, cond-true, lt-ltb}
use Rattle.ice_machine.specs.declared.candidates.Base.{Base}
use Rattle.ice_machine.specs.declared.candidates.Remote.{Remote}
use Rattle.ice_machine.specs.declared.messages.Check.{Check}
use Rattle.ice_machine.specs.declared.messages.Request.{Request}
use Rattle.ice_machine.specs.declared.pairs.Pair.{Pair}
use Rattle.ice_machine.specs.declared.pairs.PairState.TheVariants.{Waiting}
use Rattle.ice_machine.specs.declared.roles.Role.{Role}
use Rattle.ice_machine.specs.Roles.{is_controlling}
use Rattle.ice_machine.specs.Agents.{seconds, Setup, State, is_in_progress, is_succeeded, is_frozen, is_lost}
use Rattle.ice_machine.specs.Checks.{is_kin}
use Rattle.ice_machine.specs.Pairs.{pair_of}
use Rattle.ice_machine.specs.Steps.{is_awaited, at, heard, triggers, succeeds, fails, retried, thaws, changed_first}
use Rattle.ice_agent_state.specs.declared.responding.Change.{Change}
use Rattle.ice_agent_state.specs.declared.responding.Change.TheVariants.{Succeed, Fail, Retry}
use Rattle.ice_agent_state.specs.Changes.{changed_by, steady_by}
use Rattle.ice_agent_state.specs.Waking.{HoldsFrom, some_by, ends_by}
use Rattle.ice_agent_state.specs.Quiet.{IsSteady, StaysAwaited, capped}
use Rattle.ice_agent_state.proofs.ListsLemmas.{drop_splits}
use Rattle.ice_agent_state.proofs.TriedLemmas.{each_changed, each_mapped}
use Rattle.ice_agent_state.proofs.WakingLemmas.{early, or_parts, same_pairs}

-- ---- Lists

pub each_so : {X : Type 0} (P Q : X → Type 0) → ((x : X) → P x → Q x) → (xs : List X) → AllByRecursion P xs → AllByRecursion Q xs
each_so P Q f [] each = each
each_so P Q f (x ∷ xs) each = (f x each.0, each_so P Q f xs each.1)

pub each_filtered : {X : Type 0} (P : X → Type 0) (test : X → Bool) (xs : List X) → AllByRecursion P xs → AllByRecursion P (filter test xs)
each_filtered P test [] each = each
each_filtered P test (x ∷ xs) each = cond_both (test x) (x ∷ filter test xs) (filter test xs) (AllByRecursion P) (λ _. (each.0, each_filtered P test xs each.1)) (λ _. each_filtered P test xs each.1)

pub each_taken : {X : Type 0} (P : X → Type 0) (n : ℕ) (xs : List X) → AllByRecursion P xs → AllByRecursion P (take n xs)
each_taken P zero xs each = tt
each_taken P (suc n) [] each = tt
each_taken P (suc n) (x ∷ xs) each = (each.0, each_taken P n xs each.1)

-- ---- Before an earlier moment

pub steady_sooner : (setup : Setup) (u v : ℕ) → v ≤ u → (p : Pair) → IsSteady setup u p → IsSteady setup v p
steady_sooner setup u v le p steady = λ now before. steady now (omega (arith, before, le))

pub all_steady_sooner : (setup : Setup) (u v : ℕ) (ps : List Pair) → v ≤ u → AllByRecursion (IsSteady setup u) ps → AllByRecursion (IsSteady setup v) ps
all_steady_sooner setup u v ps le = each_so (IsSteady setup u) (IsSteady setup v) (steady_sooner setup u v le) ps

awaited_sooner : (u v : ℕ) → v ≤ u → (r : Request) → StaysAwaited u r → StaysAwaited v r
awaited_sooner u v le r awaited = λ now before. awaited now (omega (arith, before, le))

pub all_awaited_sooner : (u v : ℕ) (rs : List Request) → v ≤ u → AllByRecursion (StaysAwaited u) rs → AllByRecursion (StaysAwaited v) rs
all_awaited_sooner u v rs le = each_so (StaysAwaited u) (StaysAwaited v) (awaited_sooner u v le) rs

pub steady_at_0 : (setup : Setup) (ps : List Pair) → AllByRecursion (IsSteady setup 0) ps
steady_at_0 setup [] = tt
steady_at_0 setup (p ∷ ps) = ((λ now before. absurd (omega (arith, before))), steady_at_0 setup ps)

pub awaited_at_0 : (rs : List Request) → AllByRecursion (StaysAwaited 0) rs
awaited_at_0 [] = tt
awaited_at_0 (r ∷ rs) = ((λ now before. absurd (omega (arith, before))), awaited_at_0 rs)

-- ---- What the moments of the lists give

holds_before : (test : ℕ → Bool) (o : Option ℕ) → HoldsFrom test o → (now : ℕ) → now < capped o → test now ≡ false
holds_before test None holds = λ now before. holds now before
holds_before test (Some m) holds = λ now before. holds now (omega (arith, before)) ∙ early m now (omega (arith, before))

pub steady_one : (setup : Setup) (p : Pair) (o : Option ℕ) → HoldsFrom (ends_by setup p) o → IsSteady setup (capped o) p
steady_one setup p o holds = holds_before (ends_by setup p) o holds

each_steady : (setup : Setup) (u : ℕ) (ps : List Pair) → ((now : ℕ) → now < u → some_by (ends_by setup) ps now ≡ false) → AllByRecursion (IsSteady setup u) ps
each_steady setup u [] none = tt
each_steady setup u (p ∷ ps) none = (
  (λ now before. (or_parts (ends_by setup p now) (some_by (ends_by setup) ps now) (none now before)).0),
  each_steady setup u ps (λ now before. (or_parts (ends_by setup p now) (some_by (ends_by setup) ps now) (none now before)).1),
)

pub steady_all : (setup : Setup) (ps : List Pair) (o : Option ℕ) → HoldsFrom (some_by (ends_by setup) ps) o → AllByRecursion (IsSteady setup (capped o)) ps
steady_all setup ps o holds = each_steady setup (capped o) ps (holds_before (some_by (ends_by setup) ps) o holds)

pub awaited_by : (u : ℕ) (r : Request) → u ≤ r.sent + seconds 30 → StaysAwaited u r
awaited_by u r le = λ now before. lt-ltb now (r.sent + seconds 30) (omega (arith, le, before))

-- one request more of those from one place on
pub awaited_step : (rs : List Request) (at u n v most : ℕ) (d : Request) → 0 < at → at ≤ length rs → n ≡ min ((get_or rs (at - 1) d).sent + seconds 30) most → v ≡ min u n
    → AllByRecursion (StaysAwaited u) (drop at rs) → AllByRecursion (StaysAwaited v) (drop (at - 1) rs)
awaited_step rs at u n v most d some within due sooner each =
    subst (AllByRecursion (StaysAwaited v)) (sym (drop_splits rs at d some within))
    (awaited_by v (get_or rs (at - 1) d) (omega (arith, due, sooner)), all_awaited_sooner u v (drop at rs) (omega (arith, sooner)) each)

-- ---- Time that changes nothing

neither : (a b : Bool) → a ≡ false → b ≡ false → (a || b) ≡ false
neither true b is isnt = absurd cc
neither false b is isnt = isnt

none_ends : (setup : Setup) (now u : ℕ) (ps : List Pair) → now < u → AllByRecursion (IsSteady setup u) ps → some_by (ends_by setup) ps now ≡ false
none_ends setup now u [] before each = refl
none_ends setup now u (p ∷ ps) before each = neither (ends_by setup p now) (some_by (ends_by setup) ps now) (each.0 now before) (none_ends setup now u ps before each.1)

same_requests : (now u : ℕ) (rs : List Request) → now < u → AllByRecursion (StaysAwaited u) rs → filter (is_awaited now) rs ≡ rs
same_requests now u [] before each = refl
same_requests now u (r ∷ rs) before each =
    cond-true (is_awaited now r) (r ∷ filter (is_awaited now) rs) (filter (is_awaited now) rs) (each.0 now before)
    ∙ ap (λ (zs : List Request). r ∷ zs) (same_requests now u rs before each.1)

pub at_quiet : (setup : Setup) (now u : ℕ) (state : State) → max state.clock now < u → AllByRecursion (IsSteady setup u) state.pairs → AllByRecursion (StaysAwaited u) state.requests
    → record state { clock = max state.clock now } ≡ at setup now state
at_quiet setup now u state before steady awaited =
    sym (ap (λ (ps : List Pair). record state { clock = max state.clock now; pairs = ps; requests = filter (is_awaited (max state.clock now)) state.requests })
    (same_pairs setup (max state.clock now) state.pairs (none_ends setup (max state.clock now) u state.pairs before steady))
    ∙ ap (λ (rs : List Request). record state { clock = max state.clock now; requests = rs }) (same_requests (max state.clock now) u state.requests before awaited))

-- ---- Changes of pairs

pub new_steady : (setup : Setup) (u : ℕ) (b : Base) (r : Remote) → IsSteady setup u (pair_of b r)
new_steady setup u b r = λ now before. refl

triggers_steady : (setup : Setup) (u : ℕ) (p : Pair) → IsSteady setup u p → IsSteady setup u (triggers p)
triggers_steady setup u p steady = cond_both (is_succeeded p.state || is_lost p.state) p (record p { state = Waiting; triggered = true; tries = 0 }) (IsSteady setup u) (λ _. steady) (λ _. λ now before. refl)

pub heard_steady : (setup : Setup) (u : ℕ) (role : Role) (c : Check) (p : Pair) → IsSteady setup u p → IsSteady setup u (heard role c p)
heard_steady setup u role c p steady = cond_both (c.nominates && (not (is_controlling role) && not (is_lost p.state))) (record p { heard = true; nominated = true }) (record p { heard = true }) (λ (q : Pair). IsSteady setup u (triggers q))
    (λ _. triggers_steady setup u (record p { heard = true; nominated = true }) steady) (λ _. triggers_steady setup u (record p { heard = true }) steady)

succeeds_steady : (setup : Setup) (u : ℕ) (role : Role) (now : ℕ) (r : Request) → u ≤ now + seconds 30 → (p : Pair) → IsSteady setup u p → IsSteady setup u (succeeds role now r p)
succeeds_steady setup u role now r le p steady = cond_both (is_lost p.state) _ _ (IsSteady setup u) (λ _. steady) (λ _. λ later before. early (now + seconds 30) later (omega (arith, le, before)))

fails_steady : (setup : Setup) (u : ℕ) (p : Pair) → IsSteady setup u p → IsSteady setup u (fails p)
fails_steady setup u p steady = cond_both (is_in_progress p.state) _ _ (IsSteady setup u) (λ _. λ now before. refl) (λ _. steady)

retried_steady : (setup : Setup) (u : ℕ) (p : Pair) → IsSteady setup u p → IsSteady setup u (retried p)
retried_steady setup u p steady = cond_both (is_lost p.state) _ _ (IsSteady setup u) (λ _. steady)
    (λ _. cond_both (is_succeeded p.state) _ _ (IsSteady setup u) (λ _. steady) (λ _. triggers_steady setup u p steady))

changed_steady : (setup : Setup) (u : ℕ) (by : Change) (p : Pair) → IsSteady setup (steady_by by u) p → IsSteady setup (steady_by by u) (changed_by by p)
changed_steady setup u (Succeed role now r) = succeeds_steady setup (min u (now + seconds 30)) role now r (omega arith)
changed_steady setup u Fail = fails_steady setup u
changed_steady setup u Retry = retried_steady setup u

pub steady_by_less : (by : Change) (u : ℕ) → steady_by by u ≤ u
steady_by_less (Succeed role now r) u = omega arith
steady_by_less Fail u = omega arith
steady_by_less Retry u = omega arith

pub all_changed_steady : (setup : Setup) (u : ℕ) (by : Change) (test : Pair → Bool) (ps : List Pair) → AllByRecursion (IsSteady setup u) ps → AllByRecursion (IsSteady setup (steady_by by u)) (changed_first test (changed_by by) ps)
all_changed_steady setup u by test ps each =
    each_changed (IsSteady setup (steady_by by u)) test (changed_by by) (changed_steady setup u by) ps (all_steady_sooner setup u (steady_by by u) ps (steady_by_less by u) each)

thaws_steady : (setup : Setup) (u : ℕ) (o : Option Pair) (q : Pair) → IsSteady setup u q → IsSteady setup u (thaws o q)
thaws_steady setup u None q steady = steady
thaws_steady setup u (Some p) q steady = cond_both (is_kin p q && is_frozen q.state) _ _ (IsSteady setup u) (λ _. λ now before. refl) (λ _. steady)

pub all_thawed_steady : (setup : Setup) (u : ℕ) (o : Option Pair) (ps : List Pair) → AllByRecursion (IsSteady setup u) ps → AllByRecursion (IsSteady setup u) (map {B = Pair} (thaws o) ps)
all_thawed_steady setup u o = each_mapped (IsSteady setup u) (thaws o) (thaws_steady setup u o)
