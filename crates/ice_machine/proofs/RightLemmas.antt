-- Whatever is done is right, and a selected pair is nominated and valid.
use Rattle.std.proofs.Common.{◌≡◌, ℕ, ◌+◌, ◌*◌, ◌<◌, inl, inr, ◌⊎◌, Bool, true, false, ◌||◌, ◌&&◌, List, [], ◌∷◌, Option, None, Some, refl, sym, subst, find, arith, ltb-true, ltb-false}
use Rattle.std.specs.List.{AllByRecursion}
use Rattle.std.specs.Option.{option_map_or}
use Rattle.std.specs.Prelude.{◌==◌, nat_lt, nat_le, if◌then◌else◌}
use Rattle.std.proofs.lemmas.Bool.{cond_both, and_parts, or_cases, leb-true}
use Rattle.stun_endpoints.specs.declared.endpoints.Endpoint.{Endpoint}
use Rattle.ice_machine.specs.Roles.{Role, RoleDecision, keep, switch, refuse, role_decision}
use Rattle.ice_machine.specs.Agents.{seconds, Base, Pair, Request, Setup, State, is_at, is_succeeded, pair_priority}
use Rattle.ice_machine.specs.Events.{Check, Answer, Event, gathers, learns, meets, ends, checks, responds, strays, arrives, sends, polls, nothing}
use Rattle.ice_machine.specs.Pairs.{better, best, is_selectable, selection_score, selected}
use Rattle.ice_machine.specs.Checks.{most_urgent}
use Rattle.ice_machine.specs.Steps.{Step, does_nothing, at, is_base, checked, decides, is_request, responded, refusal_size, strayed, received, sent, asks_on, is_open, polled, happens}
use Rattle.ice_machine.specs.Runs.{Begin, Timed, Happening, run, happening, history}
use Rattle.ice_machine.specs.Warrants.{HasAccepted, IsKnown, IsConsented, IsSelected, IsRight}
use Rattle.ice_machine.proofs.ListsLemmas.{found}
use Rattle.ice_machine.proofs.AddressesLemmas.{at_base, at_remote}
use Rattle.ice_machine.proofs.Backed.{Until, IsBacked, accepted_map}
use Rattle.ice_machine.proofs.BackedLemmas.{IsKeptNow, at_kept, nominating_role, run_kept}

-- ---- The best pair is one of them, and its score isn't 0

abbrev pub IsGood : (Pair → Type 0) → (Pair → ℕ) → Option Pair → Type 0
IsGood P score None = Unit {0}
IsGood P score (Some p) = P p × (0 < score p)

better_good : (P : Pair → Type 0) (score : Pair → ℕ) (p : Pair) (o : Option Pair) → P p → IsGood P score o → IsGood P score (better score p o)
better_good P score p None one good = cond_both (nat_lt 0 (score p)) _ _ (IsGood P score) (λ yes. (one, ltb-true 0 (score p) yes)) (λ _. tt)
better_good P score p (Some q) one good = cond_both (nat_lt (score p) (score q)) _ _ (IsGood P score) (λ _. good)
    (λ no. (one, let less = ltb-false (score p) (score q) no in let some = good.1 in omega (arith, less, some)))

pub best_good : (P : Pair → Type 0) (score : Pair → ℕ) (ps : List Pair) → AllByRecursion P ps → IsGood P score (best score ps)
best_good P score [] each = tt
best_good P score (p ∷ ps) each = better_good P score p (best score ps) each.0 (best_good P score ps each.1)

scored : (b : Bool) (n : ℕ) → 0 < (if b then n else 0) → b ≡ true
scored true n some = refl
scored false n some = absurd (omega (arith, some))

pub selectable : (role : Role) (component : ℕ) (p : Pair) → 0 < selection_score role component p → is_selectable component p ≡ true
selectable role component p some = scored (is_selectable component p) (1 + pair_priority role p) some

-- ---- Selected pairs

selected_by : (hs : List Happening) (role : Role) (component : ℕ) (p : Pair) → IsBacked role hs p → 0 < selection_score role component p → IsSelected role hs p
selected_by hs role component p is some =
    let both = and_parts (p.component == component) (p.nominated && is_succeeded p.state) (selectable role component p some) in
    let later = and_parts p.nominated (is_succeeded p.state) both.1 in
    record {
      nominated = is.nominated later.0;
      valid = accepted_map (Until p.expires_at) (λ r moment. Unit {0}) (λ r m holds. tt) p.base p.remote hs (is.consented later.1);
    }

selected_good : (hs : List Happening) (role : Role) (component : ℕ) (o : Option Pair) (p : Pair) → IsGood (IsBacked role hs) (selection_score role component) o → o ≡ Some p → IsSelected role hs p
selected_good hs role component None p good is = absurd cc
selected_good hs role component (Some q) p good is = let same : q ≡ p = cc in subst (IsSelected role hs) same (selected_by hs role component q good.0 good.1)

pub run_selected : (setup : Setup) (b : Begin) (events : List Timed) (component : ℕ) (p : Pair) → selected component (run setup b events) ≡ Some p → IsSelected (run setup b events).role (history setup b events) p
run_selected setup b events component p is =
    let state = run setup b events in
    selected_good (history setup b events) state.role component (selected component state) p
    (best_good (IsBacked state.role (history setup b events)) (selection_score state.role component) state.pairs (run_kept setup b events).pairs) is

-- ---- Data

consented : (hs : List Happening) (now until base : ℕ) (to : Endpoint) → now < until → HasAccepted (Until until) base to hs → IsConsented now base to hs
consented hs now until base to later = accepted_map (Until until) (λ r moment. now < moment + seconds 30) (λ r m ends. subst (λ (u : ℕ). now < u) (sym ends) later) base to hs

sent_right : (hs : List Happening) (role : Role) (now component : ℕ) (bytes : List ℕ) (o : Option Pair) → IsGood (IsBacked role hs) (selection_score role component) o
    → IsRight hs now (sends component bytes) (option_map_or (sent now bytes) o nothing)
sent_right hs role now component bytes None good = tt
sent_right hs role now component bytes (Some p) good = cond_both (nat_lt now p.expires_at) _ _ (IsRight hs now (sends component bytes))
    (λ yes. let both = and_parts (p.component == component) (p.nominated && is_succeeded p.state) (selectable role component p good.1) in
    let later = and_parts p.nominated (is_succeeded p.state) both.1 in
    (component, refl, consented hs now p.expires_at p.base p.remote (ltb-true now p.expires_at yes) (good.0.consented later.1)))
    (λ _. tt)

known_by : (hs : List Happening) (role : Role) (p : Pair) → IsBacked role hs p → (p.heard ≡ true) ⊎ (is_succeeded p.state ≡ true) → IsKnown p.base p.remote hs
known_by hs role p is (inl heard) = inl (is.heard heard)
known_by hs role p is (inr valid) = inr (accepted_map (Until p.expires_at) (λ r moment. Unit {0}) (λ r m holds. tt) p.base p.remote hs (is.consented valid))

arrives_right : (hs : List Happening) (now base : ℕ) (from : Endpoint) (bytes : List ℕ) (state : State) → IsKeptNow hs state
    → IsRight hs now (arrives base from bytes) (option_map_or (received bytes) (find (is_at base from) state.pairs) nothing)
arrives_right hs now base from bytes state k =
    found (IsBacked state.role hs) (is_at base from) (λ o. IsRight hs now (arrives base from bytes) (option_map_or (received bytes) o nothing)) tt state.pairs
    (λ p here is. cond_both (p.heard || is_succeeded p.state) _ _ (IsRight hs now (arrives base from bytes))
    (λ some. (base, from, refl, subst (λ (b : ℕ). IsKnown b from hs) (sym (at_base base from p here)) (subst (λ (e : Endpoint). IsKnown p.base e hs) (sym (at_remote base from p here)) (known_by hs state.role p is (or_cases p.heard (is_succeeded p.state) some)))))
    (λ _. tt)) k.pairs

-- ---- Answers

decides_right : (hs : List Happening) (now : ℕ) (setup : Setup) (b : Base) (c : Check) (state : State) (decision : RoleDecision) → IsRight hs now (checks c) (decides setup b c state decision).output
decides_right hs now setup b c state keep = inl (record { check = c; event_is = refl; base_is = refl; to_is = refl; id_is = refl })
decides_right hs now setup b c state switch = inl (record { check = c; event_is = refl; base_is = refl; to_is = refl; id_is = refl })
decides_right hs now setup b c state refuse = inl (record { check = c; event_is = refl; base_is = refl; to_is = refl; id_is = refl })

checks_right : (hs : List Happening) (now : ℕ) (setup : Setup) (c : Check) (state : State) (known : Option Base) → IsRight hs now (checks c) (option_map_or (checked setup c state) known (does_nothing state)).output
checks_right hs now setup c state None = tt
checks_right hs now setup c state (Some b) = decides_right hs now setup b c state (role_decision state.role state.tiebreaker c.role c.tiebreaker)

responds_right : (hs : List Happening) (now fresh base id : ℕ) (from : Endpoint) (answer : Answer) (state : State) (known : Option Request)
    → IsRight hs now (responds base from id answer) (option_map_or (responded fresh base from answer state) known (does_nothing state)).output
responds_right hs now fresh base id from answer state None = tt
responds_right hs now fresh base id from answer state (Some r) = tt

strays_right : (hs : List Happening) (now base id size : ℕ) (from : Endpoint) (code : Option ℕ) → IsRight hs now (strays base from id size code) (strayed base from id size code)
strays_right hs now base id size from None = tt
strays_right hs now base id size from (Some code) = cond_both (nat_le refusal_size (3 * size)) _ _ (IsRight hs now (strays base from id size (Some code)))
    (λ yes. inr (record { size = size; code = code; event_is = refl; answer_is = refl; small = leb-true refusal_size (3 * size) yes })) (λ _. tt)

-- ---- Requests

asks_right : (hs : List Happening) (now : ℕ) (setup : Setup) (fresh : ℕ) (state : State) (known : Option Pair) → IsRight hs now polls (option_map_or (asks_on setup fresh state) known (does_nothing state)).output
asks_right hs now setup fresh state None = tt
asks_right hs now setup fresh state (Some p) = record { when = refl; nominates = nominating_role setup state p }

polled_right : (hs : List Happening) (now : ℕ) (setup : Setup) (fresh : ℕ) (state : State) → IsRight hs now polls (polled setup fresh state).output
polled_right hs now setup fresh state =
    cond_both (is_open state) (option_map_or (asks_on setup fresh state) (most_urgent setup state) (does_nothing state)) (does_nothing state) (λ (s : Step). IsRight hs now polls s.output)
    (λ _. asks_right hs now setup fresh state (most_urgent setup state)) (λ _. tt)

-- ---- The step

pub happens_right : (hs : List Happening) (setup : Setup) (fresh : ℕ) (state : State) (event : Event) → IsKeptNow hs state → IsRight hs state.clock event (happens setup fresh state event).output
happens_right hs setup fresh state (gathers b) k = tt
happens_right hs setup fresh state (learns r) k = tt
happens_right hs setup fresh state meets k = tt
happens_right hs setup fresh state ends k = tt
happens_right hs setup fresh state (checks c) k = checks_right hs state.clock setup c state (find (is_base c.base) state.bases)
happens_right hs setup fresh state (responds base from id answer) k = responds_right hs state.clock fresh base id from answer state (find (is_request id) state.requests)
happens_right hs setup fresh state (strays base from id size code) k = strays_right hs state.clock base id size from code
happens_right hs setup fresh state (arrives base from bytes) k = arrives_right hs state.clock base from bytes state k
happens_right hs setup fresh state (sends component bytes) k =
    sent_right hs state.role state.clock component bytes (selected component state) (best_good (IsBacked state.role hs) (selection_score state.role component) state.pairs k.pairs)
happens_right hs setup fresh state polls k = polled_right hs state.clock setup fresh state

pub run_right : (setup : Setup) (b : Begin) (earlier : List Timed) (timed : Timed)
    → IsRight (history setup b earlier) (happening setup (run setup b earlier) timed).moment (happening setup (run setup b earlier) timed).event (happening setup (run setup b earlier) timed).output
run_right setup b earlier timed = happens_right (history setup b earlier) setup timed.fresh (at setup timed.now (run setup b earlier)) timed.event
    (at_kept setup timed.now (history setup b earlier) (run setup b earlier) (run_kept setup b earlier))
