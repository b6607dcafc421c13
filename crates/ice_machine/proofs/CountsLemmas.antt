-- A request that is sent and answered makes its pair valid; a check that is accepted triggers one.
use Rattle.std.proofs.Common.{◌≡◌, ℕ, zero, suc, ◌+◌, ◌<◌, ◌≤◌, inl, inr, ◌⊎◌, Bool, true, false, not, cond, ◌||◌, ◌&&◌, List, [], ◌∷◌, Option, None, Some, refl, sym, ap, subst, ◌∙◌, find, filter, take, length, arith, eq-eqb, eqb-true}
use Rattle.std.specs.List.{list_any}
use Rattle.std.specs.Option.{option_map_or}
use Rattle.std.specs.Prelude.{◌==◌, nat_lt, max}
use Rattle.std.proofs.lemmas.Bool.{cond_both, cond-true, and_from, or_parts, or_cases, lt-ltb, ltb-false, not-true}
use Rattle.stun_endpoints.specs.declared.endpoints.Endpoint.{Endpoint}
use Rattle.stun_endpoints.specs.Endpoints.{is_endpoint}
use Rattle.ice_machine.specs.Roles.{Role, RoleDecision, keep, switch, refuse, other_role, is_controlling, role_decision}
use Rattle.ice_machine.specs.Agents.{seconds, Base, Pair, Request, Setup, State, is_at, is_succeeded, is_lost}
use Rattle.ice_machine.specs.Events.{Check, Accepted, checks, responds, polls, asks, answers}
use Rattle.ice_machine.specs.Pairs.{pair_of}
use Rattle.ice_machine.specs.Checks.{most_urgent, request_on, score, asked}
use Rattle.ice_machine.specs.Steps.{Step, does_nothing, settled, is_awaited, at, changed_first, in_role, is_base, discovered, triggers, nominated_by, heard, hears, decides, checked, is_request, asks_on, is_open, step}
use Rattle.ice_machine.specs.Bounds.{AreDistinct, is_lost_at, is_over_at}
use Rattle.ice_machine.specs.Works.{IsValid, IsAnsweredInTime, IsReady, IsHeardIn, HeardOrFull}
use Rattle.ice_machine.proofs.RightLemmas.{IsGood, best_good}
use Rattle.ice_machine.proofs.AddressesLemmas.{endpoint_is_itself}
use Rattle.ice_machine.proofs.BoundsLemmas.{length-changed_first}
use Rattle.ice_machine.proofs.PlacesLemmas.{at_left, asked_left, settled_left, heard_left, at_distinct}
use Rattle.ice_machine.proofs.SilenceLemmas.{IsFirst, all_first, itself}
use Rattle.ice_machine.proofs.FinalLemmas.{find_changed, find_mapped, found_test, response_counts}

asks_same : (r s : Request) → asks r ≡ asks s → r ≡ s
asks_same r s same = cc

some_is : (p q : Pair) → Some p ≡ Some q → p ≡ q
some_is p q same = cc

second_false : (a b : Bool) → a ≡ true → (a && b) ≡ false → b ≡ false
second_false true b is isnt = isnt
second_false false b is isnt = absurd cc

-- a pair that is found isn't lost, if none of its place is
found_open : (base : ℕ) (to : Endpoint) (ps : List Pair) (q : Pair) → find (is_at base to) ps ≡ Some q → list_any (is_lost_at base to) ps ≡ false → is_lost q.state ≡ false
found_open base to [] q is isnt = absurd cc
found_open base to (p ∷ ps) q is isnt =
    let both = or_parts (is_lost_at base to p) (list_any (is_lost_at base to) ps) isnt in
    cond_both (is_at base to p) (Some p) (find (is_at base to) ps) (λ o. o ≡ Some q → is_lost q.state ≡ false)
    (λ here. λ found. let same : p ≡ q = some_is p q found in subst (λ (x : Pair). is_lost x.state ≡ false) same (second_false (is_at base to p) (is_lost p.state) here both.0))
    (λ _. λ found. found_open base to ps q found both.1) is

-- the request at the head is the one that is waited for
pub waits_for : (n now : ℕ) (r : Request) (rs : List Request) → 1 ≤ n → is_awaited now r ≡ true → find (is_request r.id) (filter (is_awaited now) (take n (r ∷ rs))) ≡ Some r
waits_for zero now r rs some timely = absurd (omega (arith, some))
waits_for (suc n) now r rs some timely =
    ap (find (is_request r.id)) (cond-true (is_awaited now r) (r ∷ filter (is_awaited now) (take n rs)) (filter (is_awaited now) (take n rs)) timely)
    ∙ cond-true (is_request r.id r) (Some r) (find (is_request r.id) (filter (is_awaited now) (take n rs))) (eq-eqb r.id r.id refl)

asked_counts : (setup : Setup) (s : State) (fresh later anew : ℕ) (p : Pair) → IsFirst s.pairs p → 1 ≤ setup.most_requests → later < s.clock + seconds 30
    → let sent = (asks_on setup fresh s p).state in is_over_at p.base p.remote (at setup later sent) ≡ false
    → IsValid p.base p.remote (step setup sent later anew (responds p.base p.remote fresh Accepted)).state
asked_counts setup s fresh later anew p first some soon isnt =
    let sent : State = (asks_on setup fresh s p).state in
    let now : ℕ = max s.clock later in
    let r : Request = request_on setup s fresh p in
    let found_it : find (is_at p.base p.remote) sent.pairs ≡ Some (asked setup s fresh p) =
    find_changed (is_at p.base p.remote) (asked setup s fresh) s.pairs p first (at_left p.base p.remote p (asked setup s fresh p) (asked_left setup s fresh p) ∙ itself p) in
    let q : Pair = settled setup now (asked setup s fresh p) in
    let later_it : find (is_at p.base p.remote) (at setup later sent).pairs ≡ Some q =
    find_mapped (is_at p.base p.remote) (settled setup now) (λ x. at_left p.base p.remote x (settled setup now x) (settled_left setup now x)) sent.pairs (asked setup s fresh p) found_it in
    response_counts setup sent later anew r q
    (waits_for setup.most_requests now r s.requests some (lt-ltb now (s.clock + seconds 30) (omega (arith, soon))))
    later_it (found_open p.base p.remote (at setup later sent).pairs q later_it isnt)

polled_by : (setup : Setup) (s : State) (fresh later anew : ℕ) (r : Request) (o : Option Pair) → IsGood (IsFirst s.pairs) (score setup s) o → (option_map_or (asks_on setup fresh s) o (does_nothing s)).output ≡ asks r
    → IsAnsweredInTime setup (option_map_or (asks_on setup fresh s) o (does_nothing s)).state r later anew
polled_by setup s fresh later anew r None good is = absurd cc
polled_by setup s fresh later anew r (Some p) good is =
    subst (λ (x : Request). IsAnsweredInTime setup (asks_on setup fresh s p).state x later anew) (asks_same (request_on setup s fresh p) r is)
    (λ some. λ soon. λ isnt. asked_counts setup s fresh later anew p good.0 some soon isnt)

pub poll_counts : (setup : Setup) (state : State) (now fresh later anew : ℕ) (r : Request) → AreDistinct state.pairs → (step setup state now fresh polls).output ≡ asks r
    → IsAnsweredInTime setup (step setup state now fresh polls).state r later anew
poll_counts setup state now fresh later anew r distinct is =
    let s : State = at setup now state in
    cond_both (is_open s) (option_map_or (asks_on setup fresh s) (most_urgent setup s) (does_nothing s)) (does_nothing s)
    (λ (t : Step). t.output ≡ asks r → IsAnsweredInTime setup t.state r later anew)
    (λ _. λ out. polled_by setup s fresh later anew r (most_urgent setup s) (best_good (IsFirst s.pairs) (score setup s) s.pairs (all_first s.pairs (at_distinct setup now state distinct))) out)
    (λ _. λ out. absurd cc) is

-- ---- Checks

any_by : (b : Bool) (p : Pair) (o : Option Pair) (rest : Bool) → (rest ≡ true → (q : Pair) × (o ≡ Some q)) → (b || rest) ≡ true → (q : Pair) × (cond b (Some p) o ≡ Some q)
any_by true p o rest later is = (p, refl)
any_by false p o rest later is = later is

any_found : (test : Pair → Bool) (ps : List Pair) → list_any test ps ≡ true → (q : Pair) × (find test ps ≡ Some q)
any_found test [] is = absurd cc
any_found test (p ∷ ps) is = any_by (test p) p (find test ps) (list_any test ps) (any_found test ps) is

triggers_ready : (p : Pair) → p.heard ≡ true → IsReady (triggers p)
triggers_ready p heard_it = cond_both (is_succeeded p.state || is_lost p.state) _ _ IsReady
    (λ either. record {
      heard = heard_it;
      ready = elim (or_cases (is_succeeded p.state) (is_lost p.state) either) as (λ x. (is_succeeded p.state ≡ true) ⊎ ((is_lost p.state ≡ true) ⊎ (p.triggered ≡ true))) [
        | inl one ↦ inl one
        | inr other ↦ inr (inl other)
      ];
    })
    (λ _. record { heard = heard_it; ready = inr (inr refl) })

heard_ready : (role : Role) (c : Check) (p : Pair) → IsReady (heard role c p)
heard_ready role c p = triggers_ready (nominated_by role c p)
    (cond_both (c.nominates && (not (is_controlling role) && not (is_lost p.state))) _ _ (λ (q : Pair). q.heard ≡ true) (λ _. refl) (λ _. refl))

heard_in : (role : Role) (c : Check) (ps : List Pair) (q : Pair) → find (is_at c.base c.from) ps ≡ Some q → IsHeardIn c.base c.from (changed_first (is_at c.base c.from) (heard role c) ps)
heard_in role c ps q is = record {
  pair = heard role c q;
  there = find_changed (is_at c.base c.from) (heard role c) ps q is (at_left c.base c.from q (heard role c q) (heard_left role c q) ∙ found_test (is_at c.base c.from) ps q is);
  ready = heard_ready role c q;
}

hears_counts : (setup : Setup) (b : Base) (c : Check) (state : State) → b.number ≡ c.base → HeardOrFull setup c (hears setup b c state)
hears_counts setup b c state number =
    let ps : List Pair = state.pairs in
    let p : Pair = pair_of b (discovered b c) in
    cond_both (list_any (is_at b.number c.from) ps || not (nat_lt (length ps) setup.most_pairs)) ps (p ∷ ps)
    (λ qs. IsHeardIn c.base c.from (changed_first (is_at c.base c.from) (heard state.role c) qs) ⊎ (setup.most_pairs ≤ length (changed_first (is_at c.base c.from) (heard state.role c) qs)))
    (λ either. elim (or_cases (list_any (is_at b.number c.from) ps) (not (nat_lt (length ps) setup.most_pairs)) either)
    as (λ x. IsHeardIn c.base c.from (changed_first (is_at c.base c.from) (heard state.role c) ps) ⊎ (setup.most_pairs ≤ length (changed_first (is_at c.base c.from) (heard state.role c) ps))) [
      | inl some ↦ let found = any_found (is_at c.base c.from) ps (ap (λ (n : ℕ). list_any (is_at n c.from) ps) (sym number) ∙ some) in inl (heard_in state.role c ps found.0 found.1)
      | inr full ↦ inr (subst (λ (n : ℕ). setup.most_pairs ≤ n) (sym (length-changed_first (is_at c.base c.from) (heard state.role c) ps)) (ltb-false (length ps) setup.most_pairs (not-true (nat_lt (length ps) setup.most_pairs) full)))
    ])
    (λ _. inl (heard_in state.role c (p ∷ ps) p (cond-true (is_at c.base c.from p) (Some p) (find (is_at c.base c.from) ps)
    (and_from (c.base == b.number) (is_endpoint c.from c.from) (eq-eqb c.base b.number (sym number)) (endpoint_is_itself c.from)))))

decides_counts : (setup : Setup) (b : Base) (c : Check) (state : State) (decision : RoleDecision) → b.number ≡ c.base → (decides setup b c state decision).output ≡ answers c.base c.from c.id Accepted → HeardOrFull setup c (decides setup b c state decision).state
decides_counts setup b c state keep number is = hears_counts setup b c state number
decides_counts setup b c state switch number is = hears_counts setup b c (in_role (other_role state.role) state) number
decides_counts setup b c state refuse number is = absurd cc

abbrev pub IsNumbered : ℕ → Option Base → Type 0
IsNumbered number None = Unit {0}
IsNumbered number (Some b) = b.number ≡ number

pub base_found : (number : ℕ) (bs : List Base) → IsNumbered number (find (is_base number) bs)
base_found number [] = tt
base_found number (b ∷ bs) = cond_both (is_base number b) (Some b) (find (is_base number) bs) (IsNumbered number) (λ here. eqb-true b.number number here) (λ _. base_found number bs)

check_by : (setup : Setup) (c : Check) (s : State) (o : Option Base) → IsNumbered c.base o → (option_map_or (checked setup c s) o (does_nothing s)).output ≡ answers c.base c.from c.id Accepted → HeardOrFull setup c (option_map_or (checked setup c s) o (does_nothing s)).state
check_by setup c s None numbered is = absurd cc
check_by setup c s (Some b) numbered is = decides_counts setup b c s (role_decision s.role s.tiebreaker c.role c.tiebreaker) numbered is

pub check_counts : (setup : Setup) (state : State) (now fresh : ℕ) (c : Check) → (step setup state now fresh (checks c)).output ≡ answers c.base c.from c.id Accepted → HeardOrFull setup c (step setup state now fresh (checks c)).state
check_counts setup state now fresh c is =
    let s : State = at setup now state in
    check_by setup c s (find (is_base c.base) s.bases) (base_found c.base s.bases) is
