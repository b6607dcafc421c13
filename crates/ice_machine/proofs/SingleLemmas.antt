-- A controlling agent has chosen or nominated at most one pair of a component.
use Rattle.std.proofs.Common.{map, ◌≡◌, ℕ, Bool, true, false, not, cond, ◌||◌, ◌&&◌, List, [], ◌∷◌, Option, None, Some, refl, sym, ap, subst, ◌∙◌, find, filter, length, eqb-true, eq-eqb, ◌%◌, ◌^◌}
use Rattle.std.specs.List.{AllByRecursion, list_any}
use Rattle.std.specs.Option.{option_map_or}
use Rattle.std.specs.Prelude.{◌==◌, nat_lt}
use Rattle.std.proofs.lemmas.Bool.{cond_both, cond-true, cond-false, and_parts, and_from, or_parts, or_left}
use Rattle.stun_endpoints.specs.declared.endpoints.Endpoint.{Endpoint}
use Rattle.ice_machine.specs.Roles.{Role, Controlling, Controlled, RoleDecision, keep, switch, refuse, other_role, is_controlling, role_decision}
use Rattle.ice_machine.specs.Agents.{Base, Remote, Pair, Request, Setup, State, is_at, is_succeeded, is_in_progress, is_frozen, is_lost}
use Rattle.ice_machine.specs.Events.{Check, Answer, Accepted, Refused, Event, gathers, learns, meets, ends, checks, responds, strays, arrives, sends, polls}
use Rattle.ice_machine.specs.Pairs.{pair_of, fits, with_pair, with_pairs}
use Rattle.ice_machine.specs.Checks.{is_kin, is_settled_in, is_ripe, is_choice, is_nominating, score, most_urgent, asked}
use Rattle.ice_machine.specs.Steps.{Step, does_nothing, is_unanswered, is_over, settled, at, changed, changed_first, unnominated, in_role, has_room, is_base, is_remote, discovered, triggers, nominated_by, heard, hears, decides, checked, is_request, is_symmetric, without_request, fails, succeeds, thaws, thawed, retried, answered, responded, asks_on, is_open, polled, happens}
use Rattle.ice_machine.specs.Runs.{Begin, Timed, run}
use Rattle.ice_machine.specs.Bounds.{is_marked, AreSingle}
use Rattle.ice_machine.proofs.RightLemmas.{IsGood, best_good}
use Rattle.ice_machine.proofs.PlacesLemmas.{neither, at_distinct, run_distinct}
use Rattle.ice_machine.proofs.SilenceLemmas.{IsFirst, all_first}

abbrev in_lane : ℕ → Pair → Bool
in_lane n q = (n == q.component) && (q.chosen || q.nominated)

is_false : (b : Bool) → (b ≡ true → ⊥) → b ≡ false
is_false true isnt = absurd (isnt refl)
is_false false isnt = refl

-- a pair that isn't marked anew
record IsNoMore (p q : Pair) : Type 0 where
  component : q.component ≡ p.component
  marked : is_marked q ≡ true → is_marked p ≡ true

no_more_same : (p : Pair) → IsNoMore p p
no_more_same p = record { component = refl; marked = λ is. is }

no_more_then : (p q r : Pair) → IsNoMore p q → IsNoMore q r → IsNoMore p r
no_more_then p q r one other = record { component = other.component ∙ one.component; marked = λ is. one.marked (other.marked is) }

record Fewer (ps qs : List Pair) : Type 0 where
  none : (n : ℕ) → list_any (in_lane n) ps ≡ false → list_any (in_lane n) qs ≡ false
  single : AreSingle ps → AreSingle qs

fewer_same : (ps : List Pair) → Fewer ps ps
fewer_same ps = record { none = λ n is. is; single = λ is. is }

fewer_then : (ps qs rs : List Pair) → Fewer ps qs → Fewer qs rs → Fewer ps rs
fewer_then ps qs rs one other = record { none = λ n is. other.none n (one.none n is); single = λ is. other.single (one.single is) }

not_in_lane : (n : ℕ) (p q : Pair) → IsNoMore p q → in_lane n p ≡ false → in_lane n q ≡ false
not_in_lane n p q f isnt = is_false (in_lane n q) (λ is.
    let both = and_parts (n == q.component) (is_marked q) is in
    neither ⊥ (in_lane n p) (and_from (n == p.component) (is_marked p) (subst (λ (l : ℕ). (n == l) ≡ true) f.component both.0) (f.marked both.1)) isnt)

both_false : (a b : Bool) → a ≡ false → b ≡ false → (a || b) ≡ false
both_false true b one other = absurd cc
both_false false b one other = other

fewer_cons : (p q : Pair) (ps qs : List Pair) → IsNoMore p q → Fewer ps qs → Fewer (p ∷ ps) (q ∷ qs)
fewer_cons p q ps qs f k = record {
  none = λ n isnt. let both = or_parts (in_lane n p) (list_any (in_lane n) ps) isnt in both_false (in_lane n q) (list_any (in_lane n) qs) (not_in_lane n p q f both.0) (k.none n both.1);
  single = λ s. (λ is. subst (λ (l : ℕ). list_any (in_lane l) qs ≡ false) (sym f.component) (k.none p.component (s.0 (f.marked is))), k.single s.1);
}

fewer_map : (change : Pair → Pair) → ((p : Pair) → IsNoMore p (change p)) → (ps : List Pair) → Fewer ps (map {B = Pair} change ps)
fewer_map change f [] = fewer_same []
fewer_map change f (p ∷ ps) = fewer_cons p (change p) ps (map {B = Pair} change ps) (f p) (fewer_map change f ps)

fewer_changed : (test : Pair → Bool) (change : Pair → Pair) → ((p : Pair) → IsNoMore p (change p)) → (ps : List Pair) → Fewer ps (changed_first test change ps)
fewer_changed test change f [] = fewer_same []
fewer_changed test change f (p ∷ ps) = cond_both (test p) (change p ∷ ps) (p ∷ changed_first test change ps) (Fewer (p ∷ ps))
    (λ _. fewer_cons p (change p) ps ps (f p) (fewer_same ps)) (λ _. fewer_cons p p ps (changed_first test change ps) (no_more_same p) (fewer_changed test change f ps))

-- a new pair isn't marked
fewer_with : (most : ℕ) (b : Base) (r : Remote) (ps : List Pair) → Fewer ps (with_pair most (pair_of b r) ps)
fewer_with most b r ps = cond_both (list_any (is_at b.number r.address) ps || not (nat_lt (length ps) most)) ps (pair_of b r ∷ ps) (Fewer ps) (λ _. fewer_same ps)
    (λ _. record {
      none = λ n isnt. both_false (in_lane n (pair_of b r)) (list_any (in_lane n) ps) (is_false (in_lane n (pair_of b r)) (λ is. absurd (let mark = (and_parts (n == b.component) false is).1 in cc))) isnt;
      single = λ s. (λ is. absurd cc, s);
    })

fewer_bases : (most : ℕ) (r : Remote) (bs : List Base) (ps : List Pair) → Fewer ps (with_pairs most (map {B = Pair} (λ b. pair_of b r) bs) ps)
fewer_bases most r [] ps = fewer_same ps
fewer_bases most r (b ∷ bs) ps =
    let rest : List Pair = with_pairs most (map {B = Pair} (λ x. pair_of x r) bs) ps in
    fewer_then ps rest (with_pair most (pair_of b r) rest) (fewer_bases most r bs ps) (fewer_with most b r rest)

fewer_remotes : (most : ℕ) (b : Base) (rs : List Remote) (ps : List Pair) → Fewer ps (with_pairs most (map {B = Pair} (pair_of b) rs) ps)
fewer_remotes most b [] ps = fewer_same ps
fewer_remotes most b (r ∷ rs) ps =
    let rest : List Pair = with_pairs most (map {B = Pair} (pair_of b) rs) ps in
    fewer_then ps rest (with_pair most (pair_of b r) rest) (fewer_remotes most b rs ps) (fewer_with most b r rest)

-- ---- The changes of a pair

unchosen : (a b : Bool) → (false || b) ≡ true → (a || b) ≡ true
unchosen true b is = refl
unchosen false b is = is

settled_more : (setup : Setup) (now : ℕ) (p : Pair) → IsNoMore p (settled setup now p)
settled_more setup now p = cond_both (is_unanswered setup now p) _ _ (IsNoMore p) (λ _. record { component = refl; marked = λ is. is })
    (λ _. cond_both (is_over now p) _ _ (IsNoMore p) (λ _. record { component = refl; marked = λ is. unchosen p.chosen p.nominated is }) (λ _. no_more_same p))

triggers_more : (p : Pair) → IsNoMore p (triggers p)
triggers_more p = cond_both (is_succeeded p.state || is_lost p.state) _ _ (IsNoMore p) (λ _. no_more_same p) (λ _. record { component = refl; marked = λ is. is })

heard_more : (c : Check) (p : Pair) → IsNoMore p (heard Controlling c p)
heard_more c p = no_more_then p (nominated_by Controlling c p) (heard Controlling c p)
    (cond_both (c.nominates && (not (is_controlling Controlling) && not (is_lost p.state))) _ _ (IsNoMore p)
    (λ is. absurd (let isnt = (and_parts (not (is_controlling Controlling)) (not (is_lost p.state)) (and_parts c.nominates (not (is_controlling Controlling) && not (is_lost p.state)) is).1).0 in cc))
    (λ _. record { component = refl; marked = λ is. is }))
    (triggers_more (nominated_by Controlling c p))

fails_more : (p : Pair) → IsNoMore p (fails p)
fails_more p = cond_both (is_in_progress p.state) _ _ (IsNoMore p) (λ _. record { component = refl; marked = λ is. is }) (λ _. no_more_same p)

chosen_first : (c n x : Bool) → (c || (n || (c && x))) ≡ true → (c || n) ≡ true
chosen_first true n x is = refl
chosen_first false true x is = refl
chosen_first false false x is = absurd cc

succeeds_more : (role : Role) (now : ℕ) (r : Request) (p : Pair) → IsNoMore p (succeeds role now r p)
succeeds_more role now r p = cond_both (is_lost p.state) _ _ (IsNoMore p) (λ _. no_more_same p)
    (λ _. record { component = refl; marked = λ is. chosen_first p.chosen p.nominated (r.nominates && is_controlling role) is })

thaws_more : (o : Option Pair) (q : Pair) → IsNoMore q (thaws o q)
thaws_more None q = no_more_same q
thaws_more (Some p) q = cond_both (is_kin p q && is_frozen q.state) _ _ (IsNoMore q) (λ _. record { component = refl; marked = λ is. is }) (λ _. no_more_same q)

retried_more : (p : Pair) → IsNoMore p (retried p)
retried_more p = cond_both (is_lost p.state) _ _ (IsNoMore p) (λ _. no_more_same p)
    (λ _. cond_both (is_succeeded p.state) _ _ (IsNoMore p) (λ _. record { component = refl; marked = λ is. is }) (λ _. triggers_more p))

-- ---- A choice

asked_lane : (setup : Setup) (state : State) (fresh : ℕ) (p : Pair) → (asked setup state fresh p).component ≡ p.component
asked_lane setup state fresh p = cond_both (is_lost p.state) _ _ (λ (q : Pair). q.component ≡ p.component) (λ _. refl) (λ _. cond_both (is_succeeded p.state) _ _ (λ (q : Pair). q.component ≡ p.component) (λ _. refl) (λ _. refl))

chosen_anew : (c n x : Bool) → ((c || x) || n) ≡ true → x ≡ false → (c || n) ≡ true
chosen_anew true n x is isnt = refl
chosen_anew false n true is isnt = absurd cc
chosen_anew false n false is isnt = is

by_nominating : (x c n : Bool) → (x ≡ true → c ≡ true) → ((c || x) || n) ≡ true → (c || n) ≡ true
by_nominating true c n old is = or_left c n (old refl)
by_nominating false c n old is = chosen_anew c n false is refl

-- a request that nominates no other pair
asked_more : (setup : Setup) (state : State) (fresh : ℕ) (p : Pair) → (is_nominating setup state p ≡ true → p.chosen ≡ true) → IsNoMore p (asked setup state fresh p)
asked_more setup state fresh p old = cond_both (is_lost p.state) _ _ (IsNoMore p) (λ _. no_more_same p)
    (λ _. cond_both (is_succeeded p.state) _ _ (IsNoMore p)
    (λ _. record { component = refl; marked = λ is. by_nominating (is_nominating setup state p) p.chosen p.nominated old is })
    (λ _. record { component = refl; marked = λ is. is }))

some_is : (p q : Pair) → Some p ≡ Some q → p ≡ q
some_is p q same = cc

-- if no pair of a component is marked, one may be
other_lane : (m : ℕ) (test : Pair → Bool) (change : Pair → Pair) (p : Pair) → (change p).component ≡ p.component → (m == p.component) ≡ false → (ps : List Pair) → find test ps ≡ Some p → list_any (in_lane m) ps ≡ false
    → list_any (in_lane m) (changed_first test change ps) ≡ false
other_lane m test change p component apart [] is none = absurd cc
other_lane m test change p component apart (x ∷ ps) is none =
    let both = or_parts (in_lane m x) (list_any (in_lane m) ps) none in
    cond_both (test x) (Some x) (find test ps) (λ o. o ≡ Some p → list_any (in_lane m) (cond (test x) (change x ∷ ps) (x ∷ changed_first test change ps)) ≡ false)
    (λ here. λ found. subst (λ (l : List Pair). list_any (in_lane m) l ≡ false) (sym (cond-true (test x) (change x ∷ ps) (x ∷ changed_first test change ps) here))
    (both_false (in_lane m (change x)) (list_any (in_lane m) ps)
    (is_false (in_lane m (change x)) (λ mark. neither ⊥ (m == p.component)
    (subst (λ (l : ℕ). (m == l) ≡ true) (ap (λ (y : Pair). (change y).component) (some_is x p found) ∙ component) (and_parts (m == (change x).component) (is_marked (change x)) mark).0) apart)) both.1))
    (λ isnt. λ found. subst (λ (l : List Pair). list_any (in_lane m) l ≡ false) (sym (cond-false (test x) (change x ∷ ps) (x ∷ changed_first test change ps) isnt))
    (both_false (in_lane m x) (list_any (in_lane m) (changed_first test change ps)) both.0 (other_lane m test change p component apart ps found both.1)))
    is

single_one : (test : Pair → Bool) (change : Pair → Pair) (p : Pair) → (change p).component ≡ p.component → (ps : List Pair) → find test ps ≡ Some p → list_any (in_lane p.component) ps ≡ false → AreSingle ps
    → AreSingle (changed_first test change ps)
single_one test change p component [] is none s = absurd cc
single_one test change p component (x ∷ ps) is none s =
    let both = or_parts (in_lane p.component x) (list_any (in_lane p.component) ps) none in
    cond_both (test x) (Some x) (find test ps) (λ o. o ≡ Some p → AreSingle (cond (test x) (change x ∷ ps) (x ∷ changed_first test change ps)))
    (λ here. λ found. subst AreSingle (sym (cond-true (test x) (change x ∷ ps) (x ∷ changed_first test change ps) here))
    (λ _. subst (λ (l : ℕ). list_any (in_lane l) ps ≡ false) (sym (ap (λ (y : Pair). (change y).component) (some_is x p found) ∙ component)) both.1, s.1))
    (λ isnt. λ found. subst AreSingle (sym (cond-false (test x) (change x ∷ ps) (x ∷ changed_first test change ps) isnt)) (
      λ mark. other_lane x.component test change p component (is_false (x.component == p.component) (λ same. neither ⊥ (in_lane p.component x)
          (and_from (p.component == x.component) (is_marked x) (subst (λ (l : ℕ). (p.component == l) ≡ true) (sym (eqb-true x.component p.component same)) (eq-eqb p.component p.component refl)) mark) both.0)) ps found (s.0 mark),
      single_one test change p component ps found both.1 s.1,
    ))
    is

choice_or : {P : Type 0} (b : Bool) → b ≡ b → (b ≡ true → P) → (b ≡ false → P) → P
choice_or true same one other = one refl
choice_or false same one other = other refl

not_true : (b : Bool) → not b ≡ true → b ≡ false
not_true true is = absurd cc
not_true false is = refl

left_of : (a b : Bool) → (a || b) ≡ true → b ≡ false → a ≡ true
left_of true b is isnt = refl
left_of false true is isnt = absurd cc
left_of false false is isnt = is

-- only the pair that is found is changed
first_fewer : (test : Pair → Bool) (change : Pair → Pair) (p : Pair) → IsNoMore p (change p) → (ps : List Pair) → find test ps ≡ Some p → Fewer ps (changed_first test change ps)
first_fewer test change p f [] is = absurd cc
first_fewer test change p f (x ∷ ps) is =
    cond_both (test x) (Some x) (find test ps) (λ o. o ≡ Some p → Fewer (x ∷ ps) (cond (test x) (change x ∷ ps) (x ∷ changed_first test change ps)))
    (λ here. λ found. subst (Fewer (x ∷ ps)) (sym (cond-true (test x) (change x ∷ ps) (x ∷ changed_first test change ps) here))
    (fewer_cons x (change x) ps ps (subst (λ (y : Pair). IsNoMore y (change y)) (sym (some_is x p found)) f) (fewer_same ps)))
    (λ isnt. λ found. subst (Fewer (x ∷ ps)) (sym (cond-false (test x) (change x ∷ ps) (x ∷ changed_first test change ps) isnt))
    (fewer_cons x x ps (changed_first test change ps) (no_more_same x) (first_fewer test change p f ps found)))
    is

first_more : (test : Pair → Bool) (change : Pair → Pair) (p : Pair) → IsNoMore p (change p) → (ps : List Pair) → find test ps ≡ Some p → AreSingle ps → AreSingle (changed_first test change ps)
first_more test change p f ps is = (first_fewer test change p f ps is).single

asks_single : (setup : Setup) (fresh : ℕ) (state : State) (known : Option Pair) → IsGood (IsFirst state.pairs) (score setup state) known → AreSingle state.pairs → AreSingle (option_map_or (asks_on setup fresh state) known (does_nothing state)).state.pairs
asks_single setup fresh state None good s = s
asks_single setup fresh state (Some p) good s =
    choice_or (is_choice setup state p) refl
    (λ choice. single_one (is_at p.base p.remote) (asked setup state fresh) p (asked_lane setup state fresh p) state.pairs good.0
    (not_true (list_any (is_settled_in p) state.pairs) (and_parts (not (list_any (is_settled_in p) state.pairs)) (is_ripe setup state p) (and_parts (is_succeeded p.state) _ (and_parts (is_controlling state.role) _ choice).1).1).0) s)
    (λ isnt. first_more (is_at p.base p.remote) (asked setup state fresh) p
    (asked_more setup state fresh p (λ nominating. left_of p.chosen (is_choice setup state p) (and_parts (is_succeeded p.state) (p.chosen || is_choice setup state p) (and_parts (is_controlling state.role) _ nominating).1).1 isnt)) state.pairs good.0 s)

-- ---- States

unmarked_single : (ps : List Pair) → AreSingle (map {B = Pair} unnominated ps)
unmarked_single [] = tt
unmarked_single (p ∷ ps) = (λ is. absurd cc, unmarked_single ps)

abbrev Single : State → Type 0
Single state = state.role ≡ Controlling → AreSingle state.pairs

in_role_single : (role : Role) (state : State) → Single state → Single (in_role role state)
in_role_single Controlling state s = cond_both (is_controlling state.role) _ _ Single (λ _. s) (λ _. λ _. unmarked_single state.pairs)
in_role_single Controlled state s = cond_both (is_controlling state.role) _ _ Single (λ _. λ _. unmarked_single state.pairs) (λ _. s)

hears_fewer : (setup : Setup) (b : Base) (c : Check) (state : State) → state.role ≡ Controlling → Fewer state.pairs (hears setup b c state).pairs
hears_fewer setup b c state role =
    let more : List Pair = with_pair setup.most_pairs (pair_of b (discovered b c)) state.pairs in
    fewer_then state.pairs more (changed_first (is_at c.base c.from) (heard state.role c) more) (fewer_with setup.most_pairs b (discovered b c) state.pairs)
    (fewer_changed (is_at c.base c.from) (heard state.role c) (λ p. subst (λ (r : Role). IsNoMore p (heard r c p)) (sym role) (heard_more c p)) more)

hears_single : (setup : Setup) (b : Base) (c : Check) (state : State) → Single state → Single (hears setup b c state)
hears_single setup b c state s is = (hears_fewer setup b c state is).single (s is)

decides_single : (setup : Setup) (b : Base) (c : Check) (state : State) (decision : RoleDecision) → Single state → Single (decides setup b c state decision).state
decides_single setup b c state keep s = hears_single setup b c state s
decides_single setup b c state switch s = hears_single setup b c (in_role (other_role state.role) state) (in_role_single (other_role state.role) state s)
decides_single setup b c state refuse s = s

checks_single : (setup : Setup) (c : Check) (state : State) (known : Option Base) → Single state → Single (option_map_or (checked setup c state) known (does_nothing state)).state
checks_single setup c state None s = s
checks_single setup c state (Some b) s = decides_single setup b c state (role_decision state.role state.tiebreaker c.role c.tiebreaker) s

answered_single : (fresh : ℕ) (r : Request) (answer : Answer) (state : State) → Single state → Single (answered fresh r answer state)
answered_single fresh r Accepted state s =
    let after : State = changed (succeeds state.role state.clock r) r.base r.to state in
    let o : Option Pair = find (is_at r.base r.to) after.pairs in
    λ is. (fewer_then state.pairs after.pairs (thawed r.base r.to after).pairs (fewer_changed (is_at r.base r.to) (succeeds state.role state.clock r) (succeeds_more state.role state.clock r) state.pairs)
    (fewer_map (thaws o) (thaws_more o) after.pairs)).single (s is)
answered_single fresh r (Refused code) state s = cond_both (code == 487) _ _ Single
    (λ _. let anew : State = in_role (other_role r.role) (record state { tiebreaker = fresh % 2 ^ 64 }) in
    λ is. (fewer_changed (is_at r.base r.to) retried retried_more anew.pairs).single (in_role_single (other_role r.role) (record state { tiebreaker = fresh % 2 ^ 64 }) s is))
    (λ _. λ is. (fewer_changed (is_at r.base r.to) fails fails_more state.pairs).single (s is))

responds_single : (fresh base : ℕ) (from : Endpoint) (answer : Answer) (state : State) (known : Option Request) → Single state → Single (option_map_or (responded fresh base from answer state) known (does_nothing state)).state
responds_single fresh base from answer state None s = s
responds_single fresh base from answer state (Some r) s = cond_both (is_symmetric base from r) _ _ Single
    (λ _. answered_single fresh r answer (without_request r.id state) s)
    (λ _. λ is. (fewer_changed (is_at r.base r.to) fails fails_more state.pairs).single (s is))

asks_state : (setup : Setup) (fresh : ℕ) (state : State) (known : Option Pair) → IsGood (IsFirst state.pairs) (score setup state) known → Single state → Single (option_map_or (asks_on setup fresh state) known (does_nothing state)).state
asks_state setup fresh state None good s is = s is
asks_state setup fresh state (Some p) good s is = asks_single setup fresh state (Some p) good (s is)

polled_single : (setup : Setup) (fresh : ℕ) (state : State) → AllByRecursion (IsFirst state.pairs) state.pairs → Single state → Single (polled setup fresh state).state
polled_single setup fresh state first s = cond_both (is_open state) (option_map_or (asks_on setup fresh state) (most_urgent setup state) (does_nothing state)) (does_nothing state) (λ (t : Step). Single t.state)
    (λ _. asks_state setup fresh state (most_urgent setup state) (best_good (IsFirst state.pairs) (score setup state) state.pairs first) s) (λ _. s)

happens_single : (setup : Setup) (fresh : ℕ) (state : State) (event : Event) → AllByRecursion (IsFirst state.pairs) state.pairs → Single state → Single (happens setup fresh state event).state
happens_single setup fresh state (gathers b) first s = cond_both (has_room setup state.bases && not (list_any (is_base b.number) state.bases)) _ _ Single
    (λ _. λ is. (fewer_remotes setup.most_pairs b (filter (fits b) state.remotes) state.pairs).single (s is)) (λ _. s)
happens_single setup fresh state (learns r) first s = cond_both (has_room setup state.remotes && not (list_any (is_remote r.component r.address) state.remotes)) _ _ Single
    (λ _. λ is. (fewer_bases setup.most_pairs r (filter (λ b. fits b r) state.bases) state.pairs).single (s is)) (λ _. s)
happens_single setup fresh state meets first s = s
happens_single setup fresh state ends first s = s
happens_single setup fresh state (checks c) first s = checks_single setup c state (find (is_base c.base) state.bases) s
happens_single setup fresh state (responds base from id answer) first s = responds_single fresh base from answer state (find (is_request id) state.requests) s
happens_single setup fresh state (strays base from id size code) first s = s
happens_single setup fresh state (arrives base from bytes) first s = s
happens_single setup fresh state (sends component bytes) first s = s
happens_single setup fresh state polls first s = polled_single setup fresh state first s

pub run_single : (setup : Setup) (b : Begin) (events : List Timed) → (run setup b events).role ≡ Controlling → AreSingle (run setup b events).pairs
run_single setup b [] is = tt
run_single setup b (timed ∷ earlier) is =
    let before : State = run setup b earlier in
    let state : State = at setup timed.now before in
    happens_single setup timed.fresh state timed.event (all_first state.pairs (at_distinct setup timed.now before (run_distinct setup b earlier)))
    (λ role. (fewer_map (settled setup state.clock) (settled_more setup state.clock) before.pairs).single (run_single setup b earlier role)) is
