-- Once the peer's consent has expired, no data is sent again; and while it lasts, data is sent.
use Rattle.std.proofs.Common.{map, ◌≡◌, ℕ, ◌+◌, ◌<◌, ◌≤◌, Bool, true, false, cond, ◌||◌, ◌&&◌, List, [], ◌∷◌, Option, None, Some, refl, sym, ap, subst, ◌∙◌, find, eq-eqb}
use Rattle.std.specs.List.{AllByRecursion, list_any}
use Rattle.std.specs.Option.{option_map_or}
use Rattle.std.specs.Prelude.{◌==◌, nat_lt, nat_le, if◌then◌else◌, max}
use Rattle.std.proofs.lemmas.Bool.{cond_both, cond-true, cond-false, and_parts, and_from, leb-false, le-leb, lt-ltb, or_left, or_right}
use Rattle.stun_endpoints.specs.declared.endpoints.Endpoint.{Endpoint}
use Rattle.stun_endpoints.specs.Endpoints.{is_endpoint}
use Rattle.ice_machine.specs.Roles.{Role, is_controlling}
use Rattle.ice_machine.specs.Agents.{seconds, PairState, Frozen, Waiting, InProgress, Succeeded, Failed, Lost, Pair, Request, Setup, State, is_at, is_succeeded, is_in_progress, is_frozen, is_lost}
use Rattle.ice_machine.specs.Events.{Event, gathers, learns, meets, ends, checks, responds, strays, arrives, sends, polls, Accepted, Output, data_to, nothing}
use Rattle.ice_machine.specs.Pairs.{selection_score, selected}
use Rattle.ice_machine.specs.Checks.{is_kin}
use Rattle.ice_machine.specs.Steps.{does_nothing, is_unanswered, is_over, settled, at, changed, changed_first, succeeds, thaws, is_request, is_symmetric, without_request, answered, responded, sent, happens, step}
use Rattle.ice_machine.specs.Runs.{Begin, Timed, Happening, run, happening, history}
use Rattle.ice_machine.specs.Bounds.{is_lost_at, is_over_at, Ends}
use Rattle.ice_machine.specs.Warrants.{IsRight}
use Rattle.ice_machine.specs.Works.{IsValid}
use Rattle.ice_machine.proofs.ListsLemmas.{each_map}
use Rattle.ice_machine.proofs.AddressesLemmas.{endpoint_is_itself}
use Rattle.ice_machine.proofs.BackedLemmas.{at_kept, run_kept}
use Rattle.ice_machine.proofs.RightLemmas.{IsGood, best_good, selectable, happens_right}
use Rattle.ice_machine.proofs.PlacesLemmas.{no_success, IsGone, all_gone, at_distinct, at_over, run_distinct}

-- ---- Never again

abbrev is_sends : Event → Bool
is_sends (gathers b) = false
is_sends (learns r) = false
is_sends meets = false
is_sends ends = false
is_sends (checks c) = false
is_sends (responds base from id answer) = false
is_sends (strays base from id size code) = false
is_sends (arrives base from bytes) = false
is_sends (sends component bytes) = true
is_sends polls = false

data_is_sent : (hs : List Happening) (now base : ℕ) (to : Endpoint) (bytes : List ℕ) (event : Event) (output : Output) → IsRight hs now event output → output ≡ data_to base to bytes → is_sends event ≡ true
data_is_sent hs now base to bytes event output right is =
    let there : IsRight hs now event (data_to base to bytes) = subst (IsRight hs now event) is right in
    ap is_sends there.1

is_there : (base : ℕ) (to : Endpoint) (p : Pair) → p.base ≡ base → p.remote ≡ to → is_at base to p ≡ true
is_there base to p one other = and_from (base == p.base) (is_endpoint to p.remote) (eq-eqb base p.base (sym one))
    (subst (λ (e : Endpoint). is_endpoint to e ≡ true) (sym other) (endpoint_is_itself to))

data_base : (a b : ℕ) (d e : Endpoint) (x y : List ℕ) → data_to a d x ≡ data_to b e y → a ≡ b
data_base a b d e x y same = cc

data_remote : (a b : ℕ) (d e : Endpoint) (x y : List ℕ) → data_to a d x ≡ data_to b e y → d ≡ e
data_remote a b d e x y same = cc

not_sent : (now base : ℕ) (to : Endpoint) (bytes sent_bytes : List ℕ) (p : Pair) → IsGone base to p → is_succeeded p.state ≡ true → sent now sent_bytes p ≡ data_to base to bytes → ⊥
not_sent now base to bytes sent_bytes p gone valid =
    cond_both (nat_lt now p.expires_at) (data_to p.base p.remote sent_bytes) nothing (λ o. o ≡ data_to base to bytes → ⊥)
    (λ _. λ is. no_success ⊥ p.state (gone (is_there base to p (data_base p.base base p.remote to sent_bytes bytes is) (data_remote p.base base p.remote to sent_bytes bytes is))) valid)
    (λ _. λ is. absurd cc)

succeeded_of : (role : Role) (component : ℕ) (p : Pair) → 0 < selection_score role component p → is_succeeded p.state ≡ true
succeeded_of role component p some = (and_parts p.nominated (is_succeeded p.state) (and_parts (p.component == component) (p.nominated && is_succeeded p.state) (selectable role component p some)).1).1

none_sent : (role : Role) (now component base : ℕ) (to : Endpoint) (bytes sent_bytes : List ℕ) (o : Option Pair) → IsGood (IsGone base to) (selection_score role component) o → option_map_or (sent now sent_bytes) o nothing ≡ data_to base to bytes → ⊥
none_sent role now component base to bytes sent_bytes None good is = absurd cc
none_sent role now component base to bytes sent_bytes (Some p) good is = not_sent now base to bytes sent_bytes p good.0 (succeeded_of role component p good.1) is

never_by : (setup : Setup) (fresh : ℕ) (state : State) (base : ℕ) (to : Endpoint) (bytes : List ℕ) (event : Event) → AllByRecursion (IsGone base to) state.pairs
    → is_sends event ≡ true → (happens setup fresh state event).output ≡ data_to base to bytes → ⊥
never_by setup fresh state base to bytes (gathers b) gone sending is = absurd cc
never_by setup fresh state base to bytes (learns r) gone sending is = absurd cc
never_by setup fresh state base to bytes meets gone sending is = absurd cc
never_by setup fresh state base to bytes ends gone sending is = absurd cc
never_by setup fresh state base to bytes (checks c) gone sending is = absurd cc
never_by setup fresh state base to bytes (responds at_base from id answer) gone sending is = absurd cc
never_by setup fresh state base to bytes (strays at_base from id size code) gone sending is = absurd cc
never_by setup fresh state base to bytes (arrives at_base from came) gone sending is = absurd cc
never_by setup fresh state base to bytes polls gone sending is = absurd cc
never_by setup fresh state base to bytes (sends component sent_bytes) gone sending is =
    none_sent state.role state.clock component base to bytes sent_bytes (selected component state) (best_good (IsGone base to) (selection_score state.role component) state.pairs gone) is

pub never_again : (setup : Setup) (b : Begin) (earlier : List Timed) (timed : Timed) (base : ℕ) (to : Endpoint) (bytes : List ℕ) → is_over_at base to (run setup b earlier) ≡ true
    → (happening setup (run setup b earlier) timed).output ≡ data_to base to bytes → ⊥
never_again setup b earlier timed base to bytes over is =
    let before : State = run setup b earlier in
    let state : State = at setup timed.now before in
    let hs : List Happening = history setup b earlier in
    never_by setup timed.fresh state base to bytes timed.event
    (all_gone base to state.pairs (at_distinct setup timed.now before (run_distinct setup b earlier)) (at_over setup timed.now before base to over))
    (data_is_sent hs state.clock base to bytes timed.event (happens setup timed.fresh state timed.event).output
    (happens_right hs setup timed.fresh state timed.event (at_kept setup timed.now hs before (run_kept setup b earlier))) is) is

-- ---- Consent that ends

answering : (phase : PairState) (rest : Bool) → is_succeeded phase ≡ true → (is_in_progress phase && rest) ≡ false
answering Frozen rest is = absurd cc
answering Waiting rest is = absurd cc
answering InProgress rest is = absurd cc
answering Succeeded rest is = refl
answering Failed rest is = absurd cc
answering Lost rest is = absurd cc

settled_lost : (setup : Setup) (now : ℕ) (p : Pair) → is_succeeded p.state ≡ true → p.expires_at ≤ now → is_lost_at p.base p.remote (settled setup now p) ≡ true
settled_lost setup now p is le =
    let gone : Pair = record p { state = Lost; triggered = false; chosen = false } in
    let same : settled setup now p ≡ gone =
    cond-false (is_unanswered setup now p) _ _ (answering p.state (nat_le setup.most_tries p.tries && nat_le p.due now) is)
    ∙ cond-true (is_over now p) gone p (and_from (is_succeeded p.state) (nat_le p.expires_at now) is (le-leb p.expires_at now le)) in
    subst (λ (q : Pair). is_lost_at p.base p.remote q ≡ true) (sym same) (and_from (is_at p.base p.remote gone) true (is_there p.base p.remote gone refl refl) refl)

abbrev EndsIn : Setup → ℕ → List Pair → Pair → Type 0
EndsIn setup now qs p = is_succeeded p.state ≡ true → p.expires_at ≤ now → list_any (is_lost_at p.base p.remote) qs ≡ true

all_end : (setup : Setup) (now : ℕ) (ps : List Pair) → AllByRecursion (EndsIn setup now (map {B = Pair} (settled setup now) ps)) ps
all_end setup now [] = tt
all_end setup now (p ∷ ps) =
    let rest : List Pair = map {B = Pair} (settled setup now) ps in (
      λ is. λ le. or_left (is_lost_at p.base p.remote (settled setup now p)) (list_any (is_lost_at p.base p.remote) rest) (settled_lost setup now p is le),
      each_map (EndsIn setup now rest) (EndsIn setup now (settled setup now p ∷ rest)) (λ q ends. λ is. λ le. or_right (is_lost_at q.base q.remote (settled setup now p)) (list_any (is_lost_at q.base q.remote) rest) (ends is le)) ps (all_end setup now ps),
    )

pub consent_ends : (setup : Setup) (state : State) (now : ℕ) → AllByRecursion (Ends setup now state) state.pairs
consent_ends setup state now = all_end setup (max state.clock now) state.pairs

-- ---- Data that is sent

-- what has succeeded at a moment is consented
abbrev IsLive : ℕ → Pair → Type 0
IsLive now p = is_succeeded p.state ≡ true → now < p.expires_at

rest_false : (a b : Bool) → a ≡ true → (a && b) ≡ false → b ≡ false
rest_false true b is isnt = isnt
rest_false false b is isnt = absurd cc

settled_live : (setup : Setup) (now : ℕ) (p : Pair) → IsLive now (settled setup now p)
settled_live setup now p = cond_both (is_unanswered setup now p) _ _ (IsLive now) (λ _. λ is. absurd cc)
    (λ _. cond_both (is_over now p) _ _ (IsLive now) (λ _. λ is. absurd cc)
    (λ isnt. λ is. leb-false p.expires_at now (rest_false (is_succeeded p.state) (nat_le p.expires_at now) is isnt)))

all_live : (setup : Setup) (now : ℕ) (ps : List Pair) → AllByRecursion (IsLive now) (map {B = Pair} (settled setup now) ps)
all_live setup now [] = tt
all_live setup now (p ∷ ps) = (settled_live setup now p, all_live setup now ps)

some_sent : (role : Role) (now component : ℕ) (bytes : List ℕ) (o : Option Pair) (p : Pair) → IsGood (IsLive now) (selection_score role component) o → o ≡ Some p → option_map_or (sent now bytes) o nothing ≡ data_to p.base p.remote bytes
some_sent role now component bytes None p good is = absurd cc
some_sent role now component bytes (Some q) p good is =
    let same : q ≡ p = cc in
    cond-true (nat_lt now q.expires_at) (data_to q.base q.remote bytes) nothing (lt-ltb now q.expires_at (good.0 (succeeded_of role component q good.1)))
    ∙ ap (λ (x : Pair). data_to x.base x.remote bytes) same

pub data_goes : (setup : Setup) (state : State) (now fresh component : ℕ) (bytes : List ℕ) (p : Pair) → selected component (at setup now state) ≡ Some p → (step setup state now fresh (sends component bytes)).output ≡ data_to p.base p.remote bytes
data_goes setup state now fresh component bytes p is =
    let s : State = at setup now state in
    some_sent s.role s.clock component bytes (selected component s) p (best_good (IsLive s.clock) (selection_score s.role component) s.pairs (all_live setup s.clock state.pairs)) is

-- ---- A response that counts

some_same : (q p : Pair) → Some q ≡ Some p → q ≡ p
some_same q p same = cc

pub find_changed : (test : Pair → Bool) (change : Pair → Pair) (ps : List Pair) (p : Pair) → find test ps ≡ Some p → test (change p) ≡ true → find test (changed_first test change ps) ≡ Some (change p)
find_changed test change [] p is here = absurd cc
find_changed test change (q ∷ ps) p is here =
    cond_both (test q) (change q ∷ ps) (q ∷ changed_first test change ps) (λ qs. find test qs ≡ Some (change p))
    (λ yes. let same : q ≡ p = some_same q p (sym (cond-true (test q) (Some q) (find test ps) yes) ∙ is) in
    subst (λ (x : Pair). find test (change x ∷ ps) ≡ Some (change p)) (sym same) (cond-true (test (change p)) (Some (change p)) (find test ps) here))
    (λ isnt. cond-false (test q) (Some q) (find test (changed_first test change ps)) isnt ∙ find_changed test change ps p (sym (cond-false (test q) (Some q) (find test ps) isnt) ∙ is) here)

found_by : (b : Bool) (q : Pair) (o : Option Pair) (p : Pair) (P : Pair → Type 0) → (b ≡ true → P q) → (o ≡ Some p → P p) → cond b (Some q) o ≡ Some p → P p
found_by true q o p P one other is = subst P (some_same q p is) (one refl)
found_by false q o p P one other is = other is

pub found_test : (test : Pair → Bool) (ps : List Pair) (p : Pair) → find test ps ≡ Some p → test p ≡ true
found_test test [] p is = absurd cc
found_test test (q ∷ ps) p is = found_by (test q) q (find test ps) p (λ x. test x ≡ true) (λ yes. yes) (found_test test ps p) is

pub find_mapped : (test : Pair → Bool) (change : Pair → Pair) → ((q : Pair) → test (change q) ≡ test q) → (ps : List Pair) (p : Pair) → find test ps ≡ Some p → find test (map {B = Pair} change ps) ≡ Some (change p)
find_mapped test change same [] p is = absurd cc
find_mapped test change same (q ∷ ps) p is =
    cond_both (test q) (Some q) (find test ps) (λ o. o ≡ Some p → find test (change q ∷ map {B = Pair} change ps) ≡ Some (change p))
    (λ yes. λ found. cond-true (test (change q)) (Some (change q)) (find test (map {B = Pair} change ps)) (same q ∙ yes) ∙ ap (λ (x : Pair). Some (change x)) (some_same q p found))
    (λ isnt. λ found. cond-false (test (change q)) (Some (change q)) (find test (map {B = Pair} change ps)) (same q ∙ isnt) ∙ find_mapped test change same ps p found) is

abbrev made_valid : Role → ℕ → Request → Pair → Pair
made_valid role now r p = record p {
  state = Succeeded;
  triggered = false;
  nominated = p.nominated || (p.chosen && (r.nominates && is_controlling role));
  expires_at = now + seconds 30;
  succeeded_at = if is_succeeded p.state then p.succeeded_at else now;
  due = if is_succeeded p.state then p.due else now + seconds 4;
  tries = 0;
}

thaws_place : (base : ℕ) (to : Endpoint) (o : Option Pair) (q : Pair) → is_at base to (thaws o q) ≡ is_at base to q
thaws_place base to None q = refl
thaws_place base to (Some p) q = cond_both (is_kin p q && is_frozen q.state) _ _ (λ x. is_at base to x ≡ is_at base to q) (λ _. refl) (λ _. refl)

abbrev IsLasting : ℕ → Pair → Type 0
IsLasting until p = (is_succeeded p.state ≡ true) × (p.expires_at ≡ until)

thaws_valid : (until : ℕ) (o : Option Pair) (q : Pair) → is_frozen q.state ≡ false → IsLasting until q → IsLasting until (thaws o q)
thaws_valid until None q isnt is = is
thaws_valid until (Some p) q isnt is = cond_both (is_kin p q && is_frozen q.state) _ _ (IsLasting until)
    (λ both. absurd (let frost = (and_parts (is_kin p q) (is_frozen q.state) both).1 in cc)) (λ _. is)

answered_valid : (fresh : ℕ) (r : Request) (state : State) (p : Pair) → find (is_at r.base r.to) state.pairs ≡ Some p → is_lost p.state ≡ false → IsValid r.base r.to (answered fresh r Accepted state)
answered_valid fresh r state p is isnt =
    let q : Pair = made_valid state.role state.clock r p in
    let there : is_at r.base r.to p ≡ true = found_test (is_at r.base r.to) state.pairs p is in
    let made : succeeds state.role state.clock r p ≡ q = cond-false (is_lost p.state) p q isnt in
    let after : State = changed (succeeds state.role state.clock r) r.base r.to state in
    let o : Option Pair = find (is_at r.base r.to) after.pairs in
    let found_it : find (is_at r.base r.to) after.pairs ≡ Some q =
    find_changed (is_at r.base r.to) (succeeds state.role state.clock r) state.pairs p is (subst (λ (x : Pair). is_at r.base r.to x ≡ true) (sym made) there) ∙ ap (λ (x : Pair). Some x) made in
    let lasting = thaws_valid (state.clock + seconds 30) o q refl (refl, refl) in
    record {
      pair = thaws o q;
      there = find_mapped (is_at r.base r.to) (thaws o) (thaws_place r.base r.to o) after.pairs q found_it;
      valid = lasting.0;
      consented = lasting.1;
    }

responded_valid : (fresh : ℕ) (r : Request) (state : State) (p : Pair) → find (is_at r.base r.to) state.pairs ≡ Some p → is_lost p.state ≡ false → IsValid r.base r.to (responded fresh r.base r.to Accepted state r).state
responded_valid fresh r state p is isnt =
    subst (IsValid r.base r.to) (sym (cond-true (is_symmetric r.base r.to r) (answered fresh r Accepted (without_request r.id state)) _
    (and_from (r.base == r.base) (is_endpoint r.to r.to) (eq-eqb r.base r.base refl) (endpoint_is_itself r.to))))
    (answered_valid fresh r (without_request r.id state) p is isnt)

pub response_counts : (setup : Setup) (state : State) (now fresh : ℕ) (r : Request) (p : Pair) → find (is_request r.id) (at setup now state).requests ≡ Some r
    → find (is_at r.base r.to) (at setup now state).pairs ≡ Some p → is_lost p.state ≡ false → IsValid r.base r.to (step setup state now fresh (responds r.base r.to r.id Accepted)).state
response_counts setup state now fresh r p waits is isnt =
    let s : State = at setup now state in
    subst (λ (o : Option Request). IsValid r.base r.to (option_map_or (responded fresh r.base r.to Accepted s) o (does_nothing s)).state) (sym waits) (responded_valid fresh r s p is isnt)
