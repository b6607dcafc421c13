-- Few requests are sent to an address that no authentic message comes from.
use Rattle.std.proofs.Common.{map, ◌≡◌, ℕ, ◌+◌, ◌*◌, ◌^◌, ◌%◌, eq-eqb, ltb-true, ◌<◌, ◌≤◌, Bool, true, false, not, cond, ◌||◌, ◌&&◌, List, [], ◌∷◌, Option, None, Some, refl, sym, ap, subst, ◌∙◌, find, filter, length, arith, eqb-true}
use Rattle.std.specs.List.{AllByRecursion, list_any}
use Rattle.std.specs.Option.{option_map_or}
use Rattle.std.specs.Prelude.{◌==◌, nat_lt, nat_le, if◌then◌else◌, max}
use Rattle.std.proofs.lemmas.Bool.{cond_both, cond-true, cond-false, and_parts, and_from, or_parts, leb-false}
use Rattle.stun_endpoints.specs.declared.endpoints.Endpoint.{Endpoint}
use Rattle.stun_endpoints.specs.Endpoints.{is_endpoint}
use Rattle.ice_machine.specs.Roles.{Role, Controlling, Controlled, RoleDecision, keep, switch, refuse, other_role, is_controlling, role_decision}
use Rattle.ice_machine.specs.Agents.{Base, Remote, Pair, Request, Setup, State, is_at, is_succeeded, is_in_progress, is_waiting, is_frozen, is_lost}
use Rattle.ice_machine.specs.Events.{Check, Answer, Accepted, Refused, Event, gathers, learns, meets, ends, checks, responds, strays, arrives, sends, polls, Output, asks, answers, data_to, data_from, nothing}
use Rattle.ice_machine.specs.Pairs.{pair_of, fits, with_pair, with_pairs}
use Rattle.ice_machine.specs.Checks.{is_kin, is_held, is_fresh, is_choice, urgency, score, most_urgent, asked, precedence}
use Rattle.ice_machine.specs.Steps.{Step, does_nothing, is_unanswered, is_over, settled, at, changed, changed_first, unnominated, in_role, has_room, is_base, is_remote, discovered, heard, hears, decides, checked, is_request, is_symmetric, without_request, fails, succeeds, thaws, retried, answered, responded, strayed, asks_on, is_open, polled, happens}
use Rattle.ice_machine.specs.Runs.{Begin, Timed, Happening, run, history}
use Rattle.ice_machine.specs.Bounds.{AreDistinct}
use Rattle.ice_machine.specs.Warrants.{IsRight}
use Rattle.ice_machine.specs.Silence.{is_place, speaks, IsSilent, is_request_to, requests_to}
use Rattle.ice_machine.proofs.AddressesLemmas.{endpoint_same, endpoint_is_itself, at_base, at_remote}
use Rattle.ice_machine.proofs.ListsLemmas.{each_map}
use Rattle.ice_machine.proofs.BackedLemmas.{at_kept, run_kept}
use Rattle.ice_machine.proofs.FinalLemmas.{find_changed}
use Rattle.ice_machine.proofs.RightLemmas.{IsGood, best_good, happens_right}
use Rattle.ice_machine.proofs.PlacesLemmas.{IsLeft, at_left, neither, settled_left, unnominated_left, heard_left, fails_left, succeeds_left, thaws_left, retried_left, asked_left, run_distinct, at_distinct}

-- a pair on which nothing authentic came, and so many requests went
record IsQuiet (setup : Setup) (n : ℕ) (p : Pair) : Type 0 where
  idle : p.triggered ≡ false
  open_still : is_succeeded p.state ≡ false
  counted : n ≤ p.tries
  unasked : (is_waiting p.state || is_frozen p.state) ≡ true → p.tries ≡ 0
  few : p.tries ≤ max 1 setup.most_tries

-- or none did, since there is no pair
abbrev QuietAt : Setup → ℕ → Option Pair → Type 0
QuietAt setup n None = n ≡ 0
QuietAt setup n (Some p) = IsQuiet setup n p

abbrev Quiet : Setup → ℕ → ℕ → Endpoint → List Pair → Type 0
Quiet setup n base to ps = QuietAt setup n (find (is_at base to) ps)

-- ---- Pairs that are changed

quiet_cond : (setup : Setup) (n : ℕ) (b : Bool) (p q : Pair) (o u : Option Pair) → (IsQuiet setup n p → IsQuiet setup n q) → (QuietAt setup n o → QuietAt setup n u) → QuietAt setup n (cond b (Some p) o) → QuietAt setup n (cond b (Some q) u)
quiet_cond setup n true p q o u one other is = one is
quiet_cond setup n false p q o u one other is = other is

quiet_cons : (setup : Setup) (n base : ℕ) (to : Endpoint) (p q : Pair) (ps qs : List Pair) → IsLeft p q → (IsQuiet setup n p → IsQuiet setup n q) → (Quiet setup n base to ps → Quiet setup n base to qs)
    → Quiet setup n base to (p ∷ ps) → Quiet setup n base to (q ∷ qs)
quiet_cons setup n base to p q ps qs left one other is =
    subst (λ (b : Bool). QuietAt setup n (cond b (Some q) (find (is_at base to) qs))) (sym (at_left base to p q left))
    (quiet_cond setup n (is_at base to p) p q (find (is_at base to) ps) (find (is_at base to) qs) one other is)

quiet_map : (setup : Setup) (n base : ℕ) (to : Endpoint) (change : Pair → Pair) → ((p : Pair) → IsLeft p (change p)) → ((p : Pair) → IsQuiet setup n p → IsQuiet setup n (change p)) → (ps : List Pair)
    → Quiet setup n base to ps → Quiet setup n base to (map {B = Pair} change ps)
quiet_map setup n base to change left f [] is = is
quiet_map setup n base to change left f (p ∷ ps) is =
    quiet_cons setup n base to p (change p) ps (map {B = Pair} change ps) (left p) (f p) (quiet_map setup n base to change left f ps) is

-- at a place that the change may find
quiet_changed : (setup : Setup) (n base : ℕ) (to : Endpoint) (test : Pair → Bool) (change : Pair → Pair) → ((p : Pair) → IsLeft p (change p)) → ((p : Pair) → IsQuiet setup n p → IsQuiet setup n (change p)) → (ps : List Pair)
    → Quiet setup n base to ps → Quiet setup n base to (changed_first test change ps)
quiet_changed setup n base to test change left f [] is = is
quiet_changed setup n base to test change left f (p ∷ ps) is =
    cond_both (test p) (change p ∷ ps) (p ∷ changed_first test change ps) (Quiet setup n base to)
    (λ _. quiet_cons setup n base to p (change p) ps ps (left p) (f p) (λ x. x) is)
    (λ _. quiet_cons setup n base to p p ps (changed_first test change ps) (record { base = refl; remote = refl; lost_is = λ x. x }) (λ x. x) (quiet_changed setup n base to test change left f ps) is)

-- at another place
quiet_skip : (setup : Setup) (n : ℕ) (b : Bool) (q : Pair) (p : Pair) (o : Option Pair) → b ≡ false → QuietAt setup n (cond b (Some p) o) → QuietAt setup n (cond b (Some q) o)
quiet_skip setup n true q p o isnt is = absurd cc
quiet_skip setup n false q p o isnt is = is

quiet_elsewhere : (setup : Setup) (n base : ℕ) (to : Endpoint) (test : Pair → Bool) (change : Pair → Pair) → ((p : Pair) → IsLeft p (change p)) → ((p : Pair) → test p ≡ true → is_at base to p ≡ false) → (ps : List Pair)
    → Quiet setup n base to ps → Quiet setup n base to (changed_first test change ps)
quiet_elsewhere setup n base to test change left apart [] is = is
quiet_elsewhere setup n base to test change left apart (p ∷ ps) is =
    cond_both (test p) (change p ∷ ps) (p ∷ changed_first test change ps) (Quiet setup n base to)
    (λ yes. subst (λ (b : Bool). QuietAt setup n (cond b (Some (change p)) (find (is_at base to) ps))) (sym (at_left base to p (change p) (left p)))
    (quiet_skip setup n (is_at base to p) (change p) p (find (is_at base to) ps) (apart p yes) is))
    (λ _. quiet_cons setup n base to p p ps (changed_first test change ps) (record { base = refl; remote = refl; lost_is = λ x. x }) (λ x. x) (quiet_elsewhere setup n base to test change left apart ps) is)

is_false : (b : Bool) → (b ≡ true → ⊥) → b ≡ false
is_false true isnt = absurd (isnt refl)
is_false false isnt = refl

apart_at : (base : ℕ) (to : Endpoint) (other : ℕ) (address : Endpoint) → is_place base to other address ≡ false → (p : Pair) → is_at other address p ≡ true → is_at base to p ≡ false
apart_at base to other address apart p there = is_false (is_at base to p) (λ here.
    neither ⊥ (is_place base to other address)
    (and_from (base == other) (is_endpoint to address)
    (subst (λ (b : ℕ). (base == b) ≡ true) (sym (at_base other address p there)) (and_parts (base == p.base) (is_endpoint to p.remote) here).0)
    (subst (λ (e : Endpoint). is_endpoint to e ≡ true) (sym (at_remote other address p there)) (and_parts (base == p.base) (is_endpoint to p.remote) here).1))
    apart)

quiet_at_other : (setup : Setup) (n base : ℕ) (to : Endpoint) (other : ℕ) (address : Endpoint) (change : Pair → Pair) (state : State) → ((p : Pair) → IsLeft p (change p)) → is_place base to other address ≡ false
    → Quiet setup n base to state.pairs → Quiet setup n base to (changed change other address state).pairs
quiet_at_other setup n base to other address change state left apart = quiet_elsewhere setup n base to (is_at other address) change left (apart_at base to other address apart) state.pairs

-- ---- Pairs that are new

none_found : (setup : Setup) (n base : ℕ) (to : Endpoint) (ps : List Pair) → list_any (is_at base to) ps ≡ false → Quiet setup n base to ps → n ≡ 0
none_found setup n base to [] isnt is = is
none_found setup n base to (p ∷ ps) isnt is =
    let both = or_parts (is_at base to p) (list_any (is_at base to) ps) isnt in
    none_found setup n base to ps both.1 (subst (QuietAt setup n) (cond-false (is_at base to p) (Some p) (find (is_at base to) ps) both.0) is)

quiet_new : (setup : Setup) (n base : ℕ) (to : Endpoint) (b : Base) (r : Remote) (ps : List Pair) → list_any (is_at b.number r.address) ps ≡ false → Quiet setup n base to ps → Quiet setup n base to (pair_of b r ∷ ps)
quiet_new setup n base to b r ps isnt is =
    let p : Pair = pair_of b r in
    cond_both (is_at base to p) (Some p) (find (is_at base to) ps) (QuietAt setup n)
    (λ here. let none : n ≡ 0 = none_found setup n base to ps (ap (λ (x : ℕ). list_any (is_at x to) ps) (at_base base to p here) ∙ ap (λ (e : Endpoint). list_any (is_at b.number e) ps) (at_remote base to p here) ∙ isnt) is in
    record { idle = refl; open_still = refl; counted = omega (arith, none); unasked = λ _. refl; few = omega (arith) })
    (λ _. is)

quiet_with : (setup : Setup) (n base : ℕ) (to : Endpoint) (b : Base) (r : Remote) (ps : List Pair) → Quiet setup n base to ps → Quiet setup n base to (with_pair setup.most_pairs (pair_of b r) ps)
quiet_with setup n base to b r ps is = cond_both (list_any (is_at b.number r.address) ps || not (nat_lt (length ps) setup.most_pairs)) ps (pair_of b r ∷ ps) (Quiet setup n base to) (λ _. is)
    (λ isnt. quiet_new setup n base to b r ps (or_parts (list_any (is_at b.number r.address) ps) (not (nat_lt (length ps) setup.most_pairs)) isnt).0 is)

quiet_bases : (setup : Setup) (n base : ℕ) (to : Endpoint) (r : Remote) (bs : List Base) (ps : List Pair) → Quiet setup n base to ps → Quiet setup n base to (with_pairs setup.most_pairs (map {B = Pair} (λ b. pair_of b r) bs) ps)
quiet_bases setup n base to r [] ps is = is
quiet_bases setup n base to r (b ∷ bs) ps is = quiet_with setup n base to b r (with_pairs setup.most_pairs (map {B = Pair} (λ x. pair_of x r) bs) ps) (quiet_bases setup n base to r bs ps is)

quiet_remotes : (setup : Setup) (n base : ℕ) (to : Endpoint) (b : Base) (rs : List Remote) (ps : List Pair) → Quiet setup n base to ps → Quiet setup n base to (with_pairs setup.most_pairs (map {B = Pair} (pair_of b) rs) ps)
quiet_remotes setup n base to b [] ps is = is
quiet_remotes setup n base to b (r ∷ rs) ps is = quiet_with setup n base to b r (with_pairs setup.most_pairs (map {B = Pair} (pair_of b) rs) ps) (quiet_remotes setup n base to b rs ps is)

-- ---- The changes that need nothing authentic

settled_quiet : (setup : Setup) (now n : ℕ) (p : Pair) → IsQuiet setup n p → IsQuiet setup n (settled setup now p)
settled_quiet setup now n p is = cond_both (is_unanswered setup now p) _ _ (IsQuiet setup n)
    (λ _. record { idle = is.idle; open_still = refl; counted = is.counted; unasked = λ no_wait. absurd cc; few = is.few })
    (λ _. cond_both (is_over now p) _ _ (IsQuiet setup n)
    (λ over. neither (IsQuiet setup n _) (is_succeeded p.state) (and_parts (is_succeeded p.state) (nat_le p.expires_at now) over).0 is.open_still)
    (λ _. is))

unnominated_quiet : (setup : Setup) (n : ℕ) (p : Pair) → IsQuiet setup n p → IsQuiet setup n (unnominated p)
unnominated_quiet setup n p is = record { idle = is.idle; open_still = is.open_still; counted = is.counted; unasked = is.unasked; few = is.few }

fails_quiet : (setup : Setup) (n : ℕ) (p : Pair) → IsQuiet setup n p → IsQuiet setup n (fails p)
fails_quiet setup n p is = cond_both (is_in_progress p.state) _ _ (IsQuiet setup n)
    (λ _. record { idle = is.idle; open_still = refl; counted = is.counted; unasked = λ no_wait. absurd cc; few = is.few }) (λ _. is)

right : (a b : Bool) → b ≡ true → (a || b) ≡ true
right true b is = refl
right false b is = is

thaws_quiet : (setup : Setup) (n : ℕ) (o : Option Pair) (q : Pair) → IsQuiet setup n q → IsQuiet setup n (thaws o q)
thaws_quiet setup n None q is = is
thaws_quiet setup n (Some p) q is = cond_both (is_kin p q && is_frozen q.state) _ _ (IsQuiet setup n)
    (λ both. record {
      idle = is.idle;
      open_still = refl;
      counted = is.counted;
      few = is.few;
      unasked = λ _. is.unasked (right (is_waiting q.state) (is_frozen q.state) (and_parts (is_kin p q) (is_frozen q.state) both).1);
    })
    (λ _. is)

-- ---- States

in_role_quiet : (setup : Setup) (n base : ℕ) (to : Endpoint) (role : Role) (state : State) → Quiet setup n base to state.pairs → Quiet setup n base to (in_role role state).pairs
in_role_quiet setup n base to Controlling state is = cond_both (is_controlling state.role) _ _ (λ (s : State). Quiet setup n base to s.pairs) (λ _. is) (λ _. quiet_map setup n base to unnominated unnominated_left (unnominated_quiet setup n) state.pairs is)
in_role_quiet setup n base to Controlled state is = cond_both (is_controlling state.role) _ _ (λ (s : State). Quiet setup n base to s.pairs) (λ _. quiet_map setup n base to unnominated unnominated_left (unnominated_quiet setup n) state.pairs is) (λ _. is)

hears_quiet : (setup : Setup) (n base : ℕ) (to : Endpoint) (b : Base) (c : Check) (state : State) → is_place base to c.base c.from ≡ false → Quiet setup n base to state.pairs → Quiet setup n base to (hears setup b c state).pairs
hears_quiet setup n base to b c state apart is =
    quiet_at_other setup n base to c.base c.from (heard state.role c) (record state { pairs = with_pair setup.most_pairs (pair_of b (discovered b c)) state.pairs }) (heard_left state.role c) apart
    (quiet_with setup n base to b (discovered b c) state.pairs is)

decides_quiet : (setup : Setup) (n base : ℕ) (to : Endpoint) (b : Base) (c : Check) (state : State) (decision : RoleDecision) → is_place base to c.base c.from ≡ false → Quiet setup n base to state.pairs → Quiet setup n base to (decides setup b c state decision).state.pairs
decides_quiet setup n base to b c state keep apart is = hears_quiet setup n base to b c state apart is
decides_quiet setup n base to b c state switch apart is = hears_quiet setup n base to b c (in_role (other_role state.role) state) apart (in_role_quiet setup n base to (other_role state.role) state is)
decides_quiet setup n base to b c state refuse apart is = is

checks_quiet : (setup : Setup) (n base : ℕ) (to : Endpoint) (c : Check) (state : State) (known : Option Base) → is_place base to c.base c.from ≡ false → Quiet setup n base to state.pairs → Quiet setup n base to (option_map_or (checked setup c state) known (does_nothing state)).state.pairs
checks_quiet setup n base to c state None apart is = is
checks_quiet setup n base to c state (Some b) apart is = decides_quiet setup n base to b c state (role_decision state.role state.tiebreaker c.role c.tiebreaker) apart is

answered_quiet : (setup : Setup) (n base : ℕ) (to : Endpoint) (fresh : ℕ) (r : Request) (answer : Answer) (state : State) → is_place base to r.base r.to ≡ false → Quiet setup n base to state.pairs → Quiet setup n base to (answered fresh r answer state).pairs
answered_quiet setup n base to fresh r Accepted state apart is =
    let after : State = changed (succeeds state.role state.clock r) r.base r.to state in
    let o : Option Pair = find (is_at r.base r.to) after.pairs in
    quiet_map setup n base to (thaws o) (thaws_left o) (thaws_quiet setup n o) after.pairs
    (quiet_at_other setup n base to r.base r.to (succeeds state.role state.clock r) state (succeeds_left state.role state.clock r) apart is)
answered_quiet setup n base to fresh r (Refused code) state apart is = cond_both (code == 487) _ _ (λ (s : State). Quiet setup n base to s.pairs)
    (λ _. quiet_at_other setup n base to r.base r.to retried (in_role (other_role r.role) (record state { tiebreaker = fresh % 2 ^ 64 })) retried_left apart
    (in_role_quiet setup n base to (other_role r.role) (record state { tiebreaker = fresh % 2 ^ 64 }) is))
    (λ _. quiet_at_other setup n base to r.base r.to fails state fails_left apart is)

symmetric_apart : (base at_base : ℕ) (to from : Endpoint) (r : Request) → is_symmetric at_base from r ≡ true → is_place base to at_base from ≡ false → is_place base to r.base r.to ≡ false
symmetric_apart base at_base to from r yes_is apart =
    let both = and_parts (r.base == at_base) (is_endpoint r.to from) yes_is in
    ap (λ (b : ℕ). is_place base to b r.to) (eqb-true r.base at_base both.0) ∙ ap (λ (e : Endpoint). is_place base to at_base e) (endpoint_same r.to from both.1) ∙ apart

responds_quiet : (setup : Setup) (n base : ℕ) (to : Endpoint) (fresh at_base : ℕ) (from : Endpoint) (answer : Answer) (state : State) (known : Option Request) → is_place base to at_base from ≡ false → Quiet setup n base to state.pairs
    → Quiet setup n base to (option_map_or (responded fresh at_base from answer state) known (does_nothing state)).state.pairs
responds_quiet setup n base to fresh at_base from answer state None apart is = is
responds_quiet setup n base to fresh at_base from answer state (Some r) apart is = cond_both (is_symmetric at_base from r) _ _ (λ (s : State). Quiet setup n base to s.pairs)
    (λ yes_is. answered_quiet setup n base to fresh r answer (without_request r.id state) (symmetric_apart base at_base to from r yes_is apart) is)
    (λ _. quiet_changed setup n base to (is_at r.base r.to) fails fails_left (fails_quiet setup n) state.pairs is)

-- ---- A request

-- at a moment, a pair that has had its tries isn't in progress and due
abbrev pub IsTried : Setup → ℕ → Pair → Type 0
IsTried setup now p = is_in_progress p.state ≡ true → nat_le p.due now ≡ true → p.tries < setup.most_tries

last_false : (a b c : Bool) → a ≡ true → c ≡ true → (a && (b && c)) ≡ false → b ≡ false
last_false true true true one other isnt = absurd cc
last_false true true false one other isnt = absurd cc
last_false true false c one other isnt = refl
last_false false b c one other isnt = absurd cc

pub settled_tried : (setup : Setup) (now : ℕ) (p : Pair) → IsTried setup now (settled setup now p)
settled_tried setup now p = cond_both (is_unanswered setup now p) _ _ (IsTried setup now) (λ _. λ is. absurd cc)
    (λ isnt. cond_both (is_over now p) _ _ (IsTried setup now) (λ _. λ is. absurd cc)
    (λ _. λ is. λ due. leb-false setup.most_tries p.tries (last_false (is_in_progress p.state) (nat_le setup.most_tries p.tries) (nat_le p.due now) is due isnt)))

pub all_tried : (setup : Setup) (now : ℕ) (ps : List Pair) → AllByRecursion (IsTried setup now) (map {B = Pair} (settled setup now) ps)
all_tried setup now [] = tt
all_tried setup now (p ∷ ps) = (settled_tried setup now p, all_tried setup now ps)

-- each pair is the only one of its place
any_cond : (b : Bool) (p : Pair) (o : Option Pair) (rest : Bool) (q : Pair) → (o ≡ Some q → rest ≡ true) → cond b (Some p) o ≡ Some q → (b || rest) ≡ true
any_cond true p o rest q later is = refl
any_cond false p o rest q later is = later is

found_any : (test : Pair → Bool) (ps : List Pair) (q : Pair) → find test ps ≡ Some q → list_any test ps ≡ true
found_any test [] q is = absurd cc
found_any test (p ∷ ps) q is = any_cond (test p) p (find test ps) (list_any test ps) q (found_any test ps q) is

pub itself : (p : Pair) → is_at p.base p.remote p ≡ true
itself p = and_from (p.base == p.base) (is_endpoint p.remote p.remote) (eq-eqb p.base p.base refl) (endpoint_is_itself p.remote)

abbrev pub IsFirst : List Pair → Pair → Type 0
IsFirst ps p = find (is_at p.base p.remote) ps ≡ Some p

first_on : (p : Pair) (ps : List Pair) → list_any (is_at p.base p.remote) ps ≡ false → (q : Pair) → IsFirst ps q → IsFirst (p ∷ ps) q
first_on p ps distinct q is =
    cond-false (is_at q.base q.remote p) (Some p) (find (is_at q.base q.remote) ps)
    (is_false (is_at q.base q.remote p) (λ there. neither ⊥ (list_any (is_at q.base q.remote) ps) (found_any (is_at q.base q.remote) ps q is)
    (ap (λ (b : ℕ). list_any (is_at b q.remote) ps) (at_base q.base q.remote p there) ∙ ap (λ (e : Endpoint). list_any (is_at p.base e) ps) (at_remote q.base q.remote p there) ∙ distinct)))
    ∙ is

pub all_first : (ps : List Pair) → AreDistinct ps → AllByRecursion (IsFirst ps) ps
all_first [] distinct = tt
all_first (p ∷ ps) distinct = (
  cond-true (is_at p.base p.remote p) (Some p) (find (is_at p.base p.remote) ps) (itself p),
  each_map (IsFirst ps) (IsFirst (p ∷ ps)) (first_on p ps distinct.0) ps (all_first ps distinct.1),
)

and_first : (a b : Bool) → (a && b) ≡ true → a ≡ true
and_first a b is = (and_parts a b is).0

and_second : (a b : Bool) → (a && b) ≡ true → b ≡ true
and_second a b is = (and_parts a b is).1

waiting_or : (a b c : Bool) → (a || (b && c)) ≡ true → (a || b) ≡ true
waiting_or true b c is = refl
waiting_or false b c is = (and_parts b c is).0

-- what is due may be asked
abbrev MayAsk : Setup → Pair → Type 0
MayAsk setup q = (is_lost q.state ≡ false) × (q.tries + 1 ≤ max 1 setup.most_tries)

may_ask : (setup : Setup) (n : ℕ) (state : State) (q : Pair) → IsQuiet setup n q → IsTried setup state.clock q → 0 < urgency setup state q → MayAsk setup q
may_ask setup n state q is tried =
    cond_both (is_lost q.state) _ _ (λ u. 0 < u → MayAsk setup q) (λ _. λ some. absurd (omega (arith, some)))
    (λ isnt. cond_both q.triggered _ _ (λ u. 0 < u → MayAsk setup q) (λ triggered. λ _. neither (MayAsk setup q) q.triggered triggered is.idle)
    (λ _. cond_both (is_choice setup state q) _ _ (λ u. 0 < u → MayAsk setup q)
    (λ choice. λ _. neither (MayAsk setup q) (is_succeeded q.state) (and_first (is_succeeded q.state) _ (and_second (is_controlling state.role) _ choice)) is.open_still)
    (λ _. cond_both (is_succeeded q.state && nat_le q.due state.clock) _ _ (λ u. 0 < u → MayAsk setup q)
    (λ valid. λ _. neither (MayAsk setup q) (is_succeeded q.state) (and_first (is_succeeded q.state) (nat_le q.due state.clock) valid) is.open_still)
    (λ _. cond_both (is_fresh state q) _ _ (λ u. 0 < u → MayAsk setup q)
    (λ fresh. λ _. let none : q.tries ≡ 0 = is.unasked (waiting_or (is_waiting q.state) (is_frozen q.state) (not (is_held state.pairs q)) fresh) in (isnt, omega (arith, none)))
    (λ _. cond_both (is_in_progress q.state && nat_le q.due state.clock) _ _ (λ u. 0 < u → MayAsk setup q)
    (λ due. λ _. let both = and_parts (is_in_progress q.state) (nat_le q.due state.clock) due in let less = tried both.0 both.1 in (isnt, omega (arith, less)))
    (λ _. λ some. absurd (omega (arith, some))))))))

pub some_urgency : (u n : ℕ) → 0 < 2 ^ 64 * u + (if nat_lt 0 u then n else 0) → 0 < u
some_urgency u n some = cond_both (nat_lt 0 u) n 0 (λ m. 0 < 2 ^ 64 * u + m → 0 < u) (λ is. λ _. ltb-true 0 u is) (λ _. λ more. omega (arith, more)) some

asked_quiet : (setup : Setup) (n : ℕ) (state : State) (fresh : ℕ) (q : Pair) → IsQuiet setup n q → MayAsk setup q → IsQuiet setup (1 + n) (asked setup state fresh q)
asked_quiet setup n state fresh q is may = cond_both (is_lost q.state) _ _ (IsQuiet setup (1 + n))
    (λ gone. neither (IsQuiet setup (1 + n) _) (is_lost q.state) gone may.0)
    (λ _. cond_both (is_succeeded q.state) _ _ (IsQuiet setup (1 + n))
    (λ valid. neither (IsQuiet setup (1 + n) _) (is_succeeded q.state) valid is.open_still)
    (λ _. record { idle = refl; open_still = refl; counted = let some = is.counted in omega (arith, some); unasked = λ no_wait. absurd cc; few = may.1 }))

-- the count goes up with it
asks_quiet_by : (setup : Setup) (n base : ℕ) (to : Endpoint) (fresh : ℕ) (state : State) (p : Pair) (here : Bool) → is_at base to p ≡ here → IsFirst state.pairs p → IsTried setup state.clock p → 0 < urgency setup state p
    → Quiet setup n base to state.pairs → Quiet setup (if here then 1 + n else n) base to (changed_first (is_at p.base p.remote) (asked setup state fresh) state.pairs)
asks_quiet_by setup n base to fresh state p true here first tried some is =
    let base_is : base ≡ p.base = at_base base to p here in
    let to_is : to ≡ p.remote = at_remote base to p here in
    let test_is : is_at base to ≡ is_at p.base p.remote = ap (λ (b : ℕ). is_at b to) base_is ∙ ap (λ (e : Endpoint). is_at p.base e) to_is in
    let quiet : IsQuiet setup n p = subst (QuietAt setup n) first (subst (λ (t : Pair → Bool). QuietAt setup n (find t state.pairs)) test_is is) in
    let now_is : find (is_at p.base p.remote) (changed_first (is_at p.base p.remote) (asked setup state fresh) state.pairs) ≡ Some (asked setup state fresh p) =
    find_changed (is_at p.base p.remote) (asked setup state fresh) state.pairs p first (at_left p.base p.remote p (asked setup state fresh p) (asked_left setup state fresh p) ∙ itself p) in
    subst (λ (t : Pair → Bool). QuietAt setup (1 + n) (find t (changed_first (is_at p.base p.remote) (asked setup state fresh) state.pairs))) (sym test_is)
    (subst (QuietAt setup (1 + n)) (sym now_is) (asked_quiet setup n state fresh p quiet (may_ask setup n state p quiet tried some)))
asks_quiet_by setup n base to fresh state p false elsewhere first tried some is =
    quiet_elsewhere setup n base to (is_at p.base p.remote) (asked setup state fresh) (asked_left setup state fresh) (apart_at base to p.base p.remote elsewhere) state.pairs is

abbrev IsReadyPair : Setup → State → Pair → Type 0
IsReadyPair setup state p = IsFirst state.pairs p × IsTried setup state.clock p

asks_quiet : (setup : Setup) (n base : ℕ) (to : Endpoint) (fresh : ℕ) (state : State) (known : Option Pair) → IsGood (IsReadyPair setup state) (score setup state) known → Quiet setup n base to state.pairs
    → let s = option_map_or (asks_on setup fresh state) known (does_nothing state) in Quiet setup (if is_request_to base to s.output then 1 + n else n) base to s.state.pairs
asks_quiet setup n base to fresh state None good is = is
asks_quiet setup n base to fresh state (Some p) good is =
    asks_quiet_by setup n base to fresh state p (is_at base to p) refl good.0.0 good.0.1 (some_urgency (urgency setup state p) (precedence state (urgency setup state p) p) good.1) is

polled_quiet : (setup : Setup) (n base : ℕ) (to : Endpoint) (fresh : ℕ) (state : State) → AllByRecursion (IsReadyPair setup state) state.pairs → Quiet setup n base to state.pairs
    → Quiet setup (if is_request_to base to (polled setup fresh state).output then 1 + n else n) base to (polled setup fresh state).state.pairs
polled_quiet setup n base to fresh state ready is =
    cond_both (is_open state) (option_map_or (asks_on setup fresh state) (most_urgent setup state) (does_nothing state)) (does_nothing state)
    (λ (s : Step). Quiet setup (if is_request_to base to s.output then 1 + n else n) base to s.state.pairs)
    (λ _. asks_quiet setup n base to fresh state (most_urgent setup state) (best_good (IsReadyPair setup state) (score setup state) state.pairs ready) is) (λ _. is)

-- ---- The step

abbrev is_polls : Event → Bool
is_polls (gathers b) = false
is_polls (learns r) = false
is_polls meets = false
is_polls ends = false
is_polls (checks c) = false
is_polls (responds base from id answer) = false
is_polls (strays base from id size code) = false
is_polls (arrives base from bytes) = false
is_polls (sends component bytes) = false
is_polls polls = true

no_request : (hs : List Happening) (now base : ℕ) (to : Endpoint) (event : Event) (output : Output) → is_polls event ≡ false → IsRight hs now event output → is_request_to base to output ≡ false
no_request hs now base to event (asks r) isnt right_is = neither (is_place base to r.base r.to ≡ false) (is_polls event) (ap is_polls right_is.when) isnt
no_request hs now base to event (answers other address id answer) isnt right_is = refl
no_request hs now base to event (data_to other address bytes) isnt right_is = refl
no_request hs now base to event (data_from component bytes) isnt right_is = refl
no_request hs now base to event nothing isnt right_is = refl

-- what a step leaves, with its count
abbrev QuietStep : Setup → ℕ → ℕ → Endpoint → Step → Type 0
QuietStep setup n base to s = Quiet setup (if is_request_to base to s.output then 1 + n else n) base to s.state.pairs

uncounted : (setup : Setup) (n base : ℕ) (to : Endpoint) (s : Step) → is_request_to base to s.output ≡ false → Quiet setup n base to s.state.pairs → QuietStep setup n base to s
uncounted setup n base to s isnt is = subst (λ (b : Bool). Quiet setup (if b then 1 + n else n) base to s.state.pairs) (sym isnt) is

happens_quiet : (hs : List Happening) (setup : Setup) (n base : ℕ) (to : Endpoint) (fresh : ℕ) (state : State) (event : Event) → speaks base to event ≡ false → AllByRecursion (IsReadyPair setup state) state.pairs
    → IsRight hs state.clock event (happens setup fresh state event).output → Quiet setup n base to state.pairs → QuietStep setup n base to (happens setup fresh state event)
happens_quiet hs setup n base to fresh state (gathers b) apart ready right_is is = cond_both (has_room setup state.bases && not (list_any (is_base b.number) state.bases)) _ _ (λ (s : State). Quiet setup n base to s.pairs)
    (λ _. quiet_remotes setup n base to b (filter (fits b) state.remotes) state.pairs is) (λ _. is)
happens_quiet hs setup n base to fresh state (learns r) apart ready right_is is = cond_both (has_room setup state.remotes && not (list_any (is_remote r.component r.address) state.remotes)) _ _ (λ (s : State). Quiet setup n base to s.pairs)
    (λ _. quiet_bases setup n base to r (filter (λ b. fits b r) state.bases) state.pairs is) (λ _. is)
happens_quiet hs setup n base to fresh state meets apart ready right_is is = is
happens_quiet hs setup n base to fresh state ends apart ready right_is is = is
happens_quiet hs setup n base to fresh state (checks c) apart ready right_is is = uncounted setup n base to (happens setup fresh state (checks c)) (no_request hs state.clock base to (checks c) (happens setup fresh state (checks c)).output refl right_is)
    (checks_quiet setup n base to c state (find (is_base c.base) state.bases) apart is)
happens_quiet hs setup n base to fresh state (responds at_base from id answer) apart ready right_is is = uncounted setup n base to (happens setup fresh state (responds at_base from id answer)) (no_request hs state.clock base to (responds at_base from id answer) (happens setup fresh state (responds at_base from id answer)).output refl right_is)
    (responds_quiet setup n base to fresh at_base from answer state (find (is_request id) state.requests) apart is)
happens_quiet hs setup n base to fresh state (strays at_base from id size code) apart ready right_is is = uncounted setup n base to (happens setup fresh state (strays at_base from id size code)) (no_request hs state.clock base to (strays at_base from id size code) (strayed at_base from id size code) refl right_is) is
happens_quiet hs setup n base to fresh state (arrives at_base from bytes) apart ready right_is is = uncounted setup n base to (happens setup fresh state (arrives at_base from bytes)) (no_request hs state.clock base to (arrives at_base from bytes) (happens setup fresh state (arrives at_base from bytes)).output refl right_is) is
happens_quiet hs setup n base to fresh state (sends component bytes) apart ready right_is is = uncounted setup n base to (happens setup fresh state (sends component bytes)) (no_request hs state.clock base to (sends component bytes) (happens setup fresh state (sends component bytes)).output refl right_is) is
happens_quiet hs setup n base to fresh state polls apart ready right_is is = polled_quiet setup n base to fresh state ready is

pub both_each : (P Q : Pair → Type 0) (ps : List Pair) → AllByRecursion P ps → AllByRecursion Q ps → AllByRecursion (λ p. P p × Q p) ps
both_each P Q [] one other = tt
both_each P Q (p ∷ ps) one other = ((one.0, other.0), both_each P Q ps one.1 other.1)

run_quiet : (setup : Setup) (b : Begin) (events : List Timed) (base : ℕ) (to : Endpoint) → IsSilent base to (history setup b events) → Quiet setup (requests_to base to (history setup b events)) base to (run setup b events).pairs
run_quiet setup b [] base to silent = refl
run_quiet setup b (timed ∷ earlier) base to silent =
    let before : State = run setup b earlier in
    let state : State = at setup timed.now before in
    let hs : List Happening = history setup b earlier in
    let n : ℕ = requests_to base to hs in
    happens_quiet hs setup n base to timed.fresh state timed.event silent.0
    (both_each (IsFirst state.pairs) (IsTried setup state.clock) state.pairs (all_first state.pairs (at_distinct setup timed.now before (run_distinct setup b earlier))) (all_tried setup state.clock before.pairs))
    (happens_right hs setup timed.fresh state timed.event (at_kept setup timed.now hs before (run_kept setup b earlier)))
    (quiet_map setup n base to (settled setup state.clock) (settled_left setup state.clock) (settled_quiet setup state.clock n) before.pairs (run_quiet setup b earlier base to silent.1))

quiet_few : (setup : Setup) (n : ℕ) (o : Option Pair) → QuietAt setup n o → n ≤ max 1 setup.most_tries
quiet_few setup n None is = omega (arith, is)
quiet_few setup n (Some p) is = let some = is.counted in let few = is.few in omega (arith, some, few)

pub few_to_silence : (setup : Setup) (b : Begin) (events : List Timed) (base : ℕ) (to : Endpoint) → IsSilent base to (history setup b events) → requests_to base to (history setup b events) ≤ max 1 setup.most_tries
few_to_silence setup b events base to silent = quiet_few setup (requests_to base to (history setup b events)) (find (is_at base to) (run setup b events).pairs) (run_quiet setup b events base to silent)
