-- Pairs keep their places, of which none has two; and what is lost stays lost.
use Rattle.std.proofs.Common.{map, ◌≡◌, ℕ, inl, inr, Bool, true, false, not, ◌||◌, ◌&&◌, List, [], ◌∷◌, Option, None, Some, refl, ap, ◌∙◌, filter, find, length, ◌%◌, ◌^◌}
use Rattle.std.specs.List.{AllByRecursion, list_any}
use Rattle.std.specs.Option.{option_map_or}
use Rattle.std.specs.Prelude.{◌==◌, nat_lt, nat_le, max}
use Rattle.std.proofs.lemmas.Bool.{cond_both, and_parts, and_from, or_parts, or_cases, or_left, or_right}
use Rattle.stun_endpoints.specs.declared.endpoints.Endpoint.{Endpoint}
use Rattle.stun_endpoints.specs.Endpoints.{is_endpoint}
use Rattle.ice_machine.specs.Roles.{Role, Controlling, Controlled, RoleDecision, keep, switch, refuse, other_role, is_controlling, role_decision}
use Rattle.ice_machine.specs.Agents.{Base, PairState, Frozen, Waiting, InProgress, Succeeded, Failed, Lost, Pair, Request, Setup, State, is_at, is_succeeded, is_in_progress, is_frozen, is_lost}
use Rattle.ice_machine.specs.Events.{Check, Answer, Accepted, Refused, Event, gathers, learns, meets, ends, checks, responds, strays, arrives, sends, polls}
use Rattle.ice_machine.specs.Pairs.{pair_of, fits, with_pair, with_pairs}
use Rattle.ice_machine.specs.Checks.{is_kin, most_urgent, asked}
use Rattle.ice_machine.specs.Steps.{Step, does_nothing, is_unanswered, is_over, settled, at, changed, changed_first, unnominated, in_role, has_room, is_base, is_remote, discovered, triggers, nominated_by, heard, hears, decides, checked, is_request, is_symmetric, without_request, fails, succeeds, thaws, thawed, retried, answered, responded, asks_on, is_open, happens, step}
use Rattle.ice_machine.specs.Runs.{Begin, Timed, run}
use Rattle.ice_machine.specs.Bounds.{AreDistinct, is_lost_at, is_over_at}
use Rattle.ice_machine.proofs.AddressesLemmas.{at_base, at_remote}

-- ---- A change that leaves a pair where it is, and what is lost lost

pub record IsLeft (p q : Pair) : Type 0 where
  pub base : q.base ≡ p.base
  pub remote : q.remote ≡ p.remote
  pub lost_is : is_lost p.state ≡ true → is_lost q.state ≡ true

left_same : (p : Pair) → IsLeft p p
left_same p = record { base = refl; remote = refl; lost_is = λ is. is }

left_then : (p q r : Pair) → IsLeft p q → IsLeft q r → IsLeft p r
left_then p q r one other = record { base = other.base ∙ one.base; remote = other.remote ∙ one.remote; lost_is = λ is. other.lost_is (one.lost_is is) }

no_progress : (P : Type 0) (phase : PairState) → is_lost phase ≡ true → is_in_progress phase ≡ true → P
no_progress P Frozen is other = absurd cc
no_progress P Waiting is other = absurd cc
no_progress P InProgress is other = absurd cc
no_progress P Succeeded is other = absurd cc
no_progress P Failed is other = absurd cc
no_progress P Lost is other = absurd cc

no_frost : (P : Type 0) (phase : PairState) → is_lost phase ≡ true → is_frozen phase ≡ true → P
no_frost P Frozen is other = absurd cc
no_frost P Waiting is other = absurd cc
no_frost P InProgress is other = absurd cc
no_frost P Succeeded is other = absurd cc
no_frost P Failed is other = absurd cc
no_frost P Lost is other = absurd cc

pub no_success : (P : Type 0) (phase : PairState) → is_lost phase ≡ true → is_succeeded phase ≡ true → P
no_success P Frozen is other = absurd cc
no_success P Waiting is other = absurd cc
no_success P InProgress is other = absurd cc
no_success P Succeeded is other = absurd cc
no_success P Failed is other = absurd cc
no_success P Lost is other = absurd cc

pub neither : (P : Type 0) (b : Bool) → b ≡ true → b ≡ false → P
neither P true is isnt = absurd cc
neither P false is isnt = absurd cc

pub settled_left : (setup : Setup) (now : ℕ) (p : Pair) → IsLeft p (settled setup now p)
settled_left setup now p = cond_both (is_unanswered setup now p) _ _ (IsLeft p)
    (λ is. record { base = refl; remote = refl; lost_is = λ gone. no_progress (false ≡ true) p.state gone (and_parts (is_in_progress p.state) (nat_le setup.most_tries p.tries && nat_le p.due now) is).0 })
    (λ _. cond_both (is_over now p) _ _ (IsLeft p) (λ _. record { base = refl; remote = refl; lost_is = λ _. refl }) (λ _. left_same p))

pub unnominated_left : (p : Pair) → IsLeft p (unnominated p)
unnominated_left p = record { base = refl; remote = refl; lost_is = λ is. is }

triggers_left : (p : Pair) → IsLeft p (triggers p)
triggers_left p = cond_both (is_succeeded p.state || is_lost p.state) _ _ (IsLeft p) (λ _. left_same p)
    (λ isnt. record { base = refl; remote = refl; lost_is = λ gone. neither (false ≡ true) (is_lost p.state) gone (or_parts (is_succeeded p.state) (is_lost p.state) isnt).1 })

pub heard_left : (role : Role) (c : Check) (p : Pair) → IsLeft p (heard role c p)
heard_left role c p = left_then p (nominated_by role c p) (heard role c p)
    (cond_both (c.nominates && (not (is_controlling role) && not (is_lost p.state))) _ _ (IsLeft p) (λ _. record { base = refl; remote = refl; lost_is = λ is. is }) (λ _. record { base = refl; remote = refl; lost_is = λ is. is }))
    (triggers_left (nominated_by role c p))

pub fails_left : (p : Pair) → IsLeft p (fails p)
fails_left p = cond_both (is_in_progress p.state) _ _ (IsLeft p) (λ is. record { base = refl; remote = refl; lost_is = λ gone. no_progress (false ≡ true) p.state gone is }) (λ _. left_same p)

pub succeeds_left : (role : Role) (now : ℕ) (r : Request) (p : Pair) → IsLeft p (succeeds role now r p)
succeeds_left role now r p = cond_both (is_lost p.state) _ _ (IsLeft p) (λ _. left_same p) (λ isnt. record { base = refl; remote = refl; lost_is = λ gone. neither (false ≡ true) (is_lost p.state) gone isnt })

pub thaws_left : (o : Option Pair) (q : Pair) → IsLeft q (thaws o q)
thaws_left None q = left_same q
thaws_left (Some p) q = cond_both (is_kin p q && is_frozen q.state) _ _ (IsLeft q)
    (λ is. record { base = refl; remote = refl; lost_is = λ gone. no_frost (false ≡ true) q.state gone (and_parts (is_kin p q) (is_frozen q.state) is).1 }) (λ _. left_same q)

pub retried_left : (p : Pair) → IsLeft p (retried p)
retried_left p = cond_both (is_lost p.state) _ _ (IsLeft p) (λ _. left_same p)
    (λ _. cond_both (is_succeeded p.state) _ _ (IsLeft p) (λ _. record { base = refl; remote = refl; lost_is = λ is. is }) (λ _. triggers_left p))

pub asked_left : (setup : Setup) (state : State) (fresh : ℕ) (p : Pair) → IsLeft p (asked setup state fresh p)
asked_left setup state fresh p = cond_both (is_lost p.state) _ _ (IsLeft p) (λ _. left_same p)
    (λ isnt. cond_both (is_succeeded p.state) _ _ (IsLeft p) (λ _. record { base = refl; remote = refl; lost_is = λ is. is })
    (λ _. record { base = refl; remote = refl; lost_is = λ gone. neither (false ≡ true) (is_lost p.state) gone isnt }))

-- ---- Lists

-- what holds of a list of pairs: distinct, and one of a place is lost if one was
pub record Keeps (ps qs : List Pair) : Type 0 where
  pub places : (base : ℕ) (to : Endpoint) → list_any (is_at base to) qs ≡ list_any (is_at base to) ps
  pub distinct : AreDistinct ps → AreDistinct qs
  pub over : (base : ℕ) (to : Endpoint) → list_any (is_lost_at base to) ps ≡ true → list_any (is_lost_at base to) qs ≡ true

keeps_same : (ps : List Pair) → Keeps ps ps
keeps_same ps = record { places = λ base to. refl; distinct = λ is. is; over = λ base to is. is }

pub at_left : (base : ℕ) (to : Endpoint) (p q : Pair) → IsLeft p q → is_at base to q ≡ is_at base to p
at_left base to p q left = ap (λ (b : ℕ). (base == b) && is_endpoint to q.remote) left.base ∙ ap (λ (e : Endpoint). (base == p.base) && is_endpoint to e) left.remote

lost_left : (base : ℕ) (to : Endpoint) (p q : Pair) → IsLeft p q → is_lost_at base to p ≡ true → is_lost_at base to q ≡ true
lost_left base to p q left is =
    let both = and_parts (is_at base to p) (is_lost p.state) is in
    and_from (is_at base to q) (is_lost q.state) (at_left base to p q left ∙ both.0) (left.lost_is both.1)

-- one more pair at the head of both
keeps_cons : (p q : Pair) (ps qs : List Pair) → IsLeft p q → Keeps ps qs → Keeps (p ∷ ps) (q ∷ qs)
keeps_cons p q ps qs left k = record {
  places = λ base to. ap (λ (b : Bool). b || list_any (is_at base to) qs) (at_left base to p q left) ∙ ap (λ (b : Bool). is_at base to p || b) (k.places base to);
  distinct = λ is. (k.places q.base q.remote ∙ ap (λ (b : ℕ). list_any (is_at b q.remote) ps) left.base ∙ ap (λ (e : Endpoint). list_any (is_at p.base e) ps) left.remote ∙ is.0, k.distinct is.1);
  over = λ base to is. elim (or_cases (is_lost_at base to p) (list_any (is_lost_at base to) ps) is) as (λ x. (is_lost_at base to q || list_any (is_lost_at base to) qs) ≡ true) [
    | inl one ↦ or_left (is_lost_at base to q) (list_any (is_lost_at base to) qs) (lost_left base to p q left one)
    | inr other ↦ or_right (is_lost_at base to q) (list_any (is_lost_at base to) qs) (k.over base to other)
  ];
}

pub keeps_map : (change : Pair → Pair) → ((p : Pair) → IsLeft p (change p)) → (ps : List Pair) → Keeps ps (map {B = Pair} change ps)
keeps_map change f [] = keeps_same []
keeps_map change f (p ∷ ps) = keeps_cons p (change p) ps (map {B = Pair} change ps) (f p) (keeps_map change f ps)

pub keeps_changed : (test : Pair → Bool) (change : Pair → Pair) → ((p : Pair) → IsLeft p (change p)) → (ps : List Pair) → Keeps ps (changed_first test change ps)
keeps_changed test change f [] = keeps_same []
keeps_changed test change f (p ∷ ps) = cond_both (test p) (change p ∷ ps) (p ∷ changed_first test change ps) (Keeps (p ∷ ps))
    (λ _. keeps_cons p (change p) ps ps (f p) (keeps_same ps)) (λ _. keeps_cons p p ps (changed_first test change ps) (left_same p) (keeps_changed test change f ps))

-- ---- What goes on in a step: distinct, and over where it was

pub record GoesOn (ps qs : List Pair) : Type 0 where
  pub distinct : AreDistinct ps → AreDistinct qs
  pub over : (base : ℕ) (to : Endpoint) → list_any (is_lost_at base to) ps ≡ true → list_any (is_lost_at base to) qs ≡ true

goes_same : (ps : List Pair) → GoesOn ps ps
goes_same ps = record { distinct = λ is. is; over = λ base to is. is }

goes_then : (ps qs rs : List Pair) → GoesOn ps qs → GoesOn qs rs → GoesOn ps rs
goes_then ps qs rs one other = record { distinct = λ is. other.distinct (one.distinct is); over = λ base to is. other.over base to (one.over base to is) }

goes_by : (ps qs : List Pair) → Keeps ps qs → GoesOn ps qs
goes_by ps qs k = record { distinct = k.distinct; over = k.over }

goes_map : (change : Pair → Pair) → ((p : Pair) → IsLeft p (change p)) → (ps : List Pair) → GoesOn ps (map {B = Pair} change ps)
goes_map change f ps = goes_by ps (map {B = Pair} change ps) (keeps_map change f ps)

goes_changed : (test : Pair → Bool) (change : Pair → Pair) → ((p : Pair) → IsLeft p (change p)) → (ps : List Pair) → GoesOn ps (changed_first test change ps)
goes_changed test change f ps = goes_by ps (changed_first test change ps) (keeps_changed test change f ps)

pub goes_with : (most : ℕ) (p : Pair) (ps : List Pair) → GoesOn ps (with_pair most p ps)
goes_with most p ps = cond_both (list_any (is_at p.base p.remote) ps || not (nat_lt (length ps) most)) ps (p ∷ ps) (GoesOn ps) (λ _. goes_same ps)
    (λ isnt. record {
      distinct = λ is. ((or_parts (list_any (is_at p.base p.remote) ps) (not (nat_lt (length ps) most)) isnt).0, is);
      over = λ base to is. or_right (is_lost_at base to p) (list_any (is_lost_at base to) ps) is;
    })

pub goes_with_all : (most : ℕ) (news ps : List Pair) → GoesOn ps (with_pairs most news ps)
goes_with_all most [] ps = goes_same ps
goes_with_all most (p ∷ news) ps = goes_then ps (with_pairs most news ps) (with_pair most p (with_pairs most news ps)) (goes_with_all most news ps) (goes_with most p (with_pairs most news ps))

-- ---- The step

abbrev Goes : State → State → Type 0
Goes state after = GoesOn state.pairs after.pairs

in_role_goes : (role : Role) (state : State) → Goes state (in_role role state)
in_role_goes Controlling state = cond_both (is_controlling state.role) _ _ (Goes state) (λ _. goes_same state.pairs) (λ _. goes_map unnominated unnominated_left state.pairs)
in_role_goes Controlled state = cond_both (is_controlling state.role) _ _ (Goes state) (λ _. goes_map unnominated unnominated_left state.pairs) (λ _. goes_same state.pairs)

hears_goes : (setup : Setup) (b : Base) (c : Check) (state : State) → Goes state (hears setup b c state)
hears_goes setup b c state =
    let more : List Pair = with_pair setup.most_pairs (pair_of b (discovered b c)) state.pairs in
    goes_then state.pairs more (changed_first (is_at c.base c.from) (heard state.role c) more) (goes_with setup.most_pairs (pair_of b (discovered b c)) state.pairs)
    (goes_changed (is_at c.base c.from) (heard state.role c) (heard_left state.role c) more)

decides_goes : (setup : Setup) (b : Base) (c : Check) (state : State) (decision : RoleDecision) → Goes state (decides setup b c state decision).state
decides_goes setup b c state keep = hears_goes setup b c state
decides_goes setup b c state switch =
    let anew : State = in_role (other_role state.role) state in
    goes_then state.pairs anew.pairs (hears setup b c anew).pairs (in_role_goes (other_role state.role) state) (hears_goes setup b c anew)
decides_goes setup b c state refuse = goes_same state.pairs

checks_goes : (setup : Setup) (c : Check) (state : State) (known : Option Base) → Goes state (option_map_or (checked setup c state) known (does_nothing state)).state
checks_goes setup c state None = goes_same state.pairs
checks_goes setup c state (Some b) = decides_goes setup b c state (role_decision state.role state.tiebreaker c.role c.tiebreaker)

answered_goes : (fresh : ℕ) (r : Request) (answer : Answer) (state : State) → Goes state (answered fresh r answer state)
answered_goes fresh r Accepted state =
    let after : State = changed (succeeds state.role state.clock r) r.base r.to state in
    goes_then state.pairs after.pairs (thawed r.base r.to after).pairs (goes_changed (is_at r.base r.to) (succeeds state.role state.clock r) (succeeds_left state.role state.clock r) state.pairs)
    (goes_map (thaws (find (is_at r.base r.to) after.pairs)) (thaws_left (find (is_at r.base r.to) after.pairs)) after.pairs)
answered_goes fresh r (Refused code) state = cond_both (code == 487) _ _ (Goes state)
    (λ _. let anew : State = in_role (other_role r.role) (record state { tiebreaker = fresh % 2 ^ 64 }) in
    goes_then state.pairs anew.pairs (changed retried r.base r.to anew).pairs (in_role_goes (other_role r.role) (record state { tiebreaker = fresh % 2 ^ 64 })) (goes_changed (is_at r.base r.to) retried retried_left anew.pairs))
    (λ _. goes_changed (is_at r.base r.to) fails fails_left state.pairs)

responds_goes : (fresh base : ℕ) (from : Endpoint) (answer : Answer) (state : State) (known : Option Request) → Goes state (option_map_or (responded fresh base from answer state) known (does_nothing state)).state
responds_goes fresh base from answer state None = goes_same state.pairs
responds_goes fresh base from answer state (Some r) = cond_both (is_symmetric base from r) _ _ (Goes state)
    (λ _. answered_goes fresh r answer (without_request r.id state)) (λ _. goes_changed (is_at r.base r.to) fails fails_left state.pairs)

asks_goes : (setup : Setup) (fresh : ℕ) (state : State) (known : Option Pair) → Goes state (option_map_or (asks_on setup fresh state) known (does_nothing state)).state
asks_goes setup fresh state None = goes_same state.pairs
asks_goes setup fresh state (Some p) = goes_changed (is_at p.base p.remote) (asked setup state fresh) (asked_left setup state fresh) state.pairs

happens_goes : (setup : Setup) (fresh : ℕ) (state : State) (event : Event) → Goes state (happens setup fresh state event).state
happens_goes setup fresh state (gathers b) = cond_both (has_room setup state.bases && not (list_any (is_base b.number) state.bases)) _ _ (Goes state)
    (λ _. goes_with_all setup.most_pairs (map {B = Pair} (pair_of b) (filter (fits b) state.remotes)) state.pairs) (λ _. goes_same state.pairs)
happens_goes setup fresh state (learns r) = cond_both (has_room setup state.remotes && not (list_any (is_remote r.component r.address) state.remotes)) _ _ (Goes state)
    (λ _. goes_with_all setup.most_pairs (map {B = Pair} (λ b. pair_of b r) (filter (λ b. fits b r) state.bases)) state.pairs) (λ _. goes_same state.pairs)
happens_goes setup fresh state meets = goes_same state.pairs
happens_goes setup fresh state ends = goes_same state.pairs
happens_goes setup fresh state (checks c) = checks_goes setup c state (find (is_base c.base) state.bases)
happens_goes setup fresh state (responds base from id answer) = responds_goes fresh base from answer state (find (is_request id) state.requests)
happens_goes setup fresh state (strays base from id size code) = goes_same state.pairs
happens_goes setup fresh state (arrives base from bytes) = goes_same state.pairs
happens_goes setup fresh state (sends component bytes) = goes_same state.pairs
happens_goes setup fresh state polls = cond_both (is_open state) _ _ (λ (s : Step). Goes state s.state) (λ _. asks_goes setup fresh state (most_urgent setup state)) (λ _. goes_same state.pairs)

at_goes : (setup : Setup) (now : ℕ) (state : State) → Goes state (at setup now state)
at_goes setup now state = goes_map (settled setup (max state.clock now)) (settled_left setup (max state.clock now)) state.pairs

pub at_distinct : (setup : Setup) (now : ℕ) (state : State) → AreDistinct state.pairs → AreDistinct (at setup now state).pairs
at_distinct setup now state = (at_goes setup now state).distinct

pub at_over : (setup : Setup) (now : ℕ) (state : State) (base : ℕ) (to : Endpoint) → is_over_at base to state ≡ true → is_over_at base to (at setup now state) ≡ true
at_over setup now state base to = (at_goes setup now state).over base to

pub step_goes : (setup : Setup) (state : State) (now fresh : ℕ) (event : Event) → Goes state (step setup state now fresh event).state
step_goes setup state now fresh event =
    let s : State = at setup now state in
    goes_then state.pairs s.pairs (happens setup fresh s event).state.pairs (at_goes setup now state) (happens_goes setup fresh s event)

pub run_distinct : (setup : Setup) (b : Begin) (events : List Timed) → AreDistinct (run setup b events).pairs
run_distinct setup b [] = tt
run_distinct setup b (timed ∷ earlier) = (step_goes setup (run setup b earlier) timed.now timed.fresh timed.event).distinct (run_distinct setup b earlier)

pub step_over : (setup : Setup) (state : State) (now fresh : ℕ) (event : Event) (base : ℕ) (to : Endpoint) → is_over_at base to state ≡ true → is_over_at base to (step setup state now fresh event).state ≡ true
step_over setup state now fresh event base to = (step_goes setup state now fresh event).over base to

-- ---- If one is lost, all of its place are

abbrev pub IsGone : ℕ → Endpoint → Pair → Type 0
IsGone base to p = is_at base to p ≡ true → is_lost p.state ≡ true

none_there : (base : ℕ) (to : Endpoint) (ps : List Pair) → list_any (is_at base to) ps ≡ false → AllByRecursion (IsGone base to) ps
none_there base to [] isnt = tt
none_there base to (p ∷ ps) isnt =
    let both = or_parts (is_at base to p) (list_any (is_at base to) ps) isnt in
    (λ is. neither (is_lost p.state ≡ true) (is_at base to p) is both.0, none_there base to ps both.1)

some_there : (base : ℕ) (to : Endpoint) (ps : List Pair) → list_any (is_lost_at base to) ps ≡ true → list_any (is_at base to) ps ≡ true
some_there base to [] is = absurd cc
some_there base to (p ∷ ps) is = elim (or_cases (is_lost_at base to p) (list_any (is_lost_at base to) ps) is) as (λ x. (is_at base to p || list_any (is_at base to) ps) ≡ true) [
  | inl one ↦ or_left (is_at base to p) (list_any (is_at base to) ps) (and_parts (is_at base to p) (is_lost p.state) one).0
  | inr other ↦ or_right (is_at base to p) (list_any (is_at base to) ps) (some_there base to ps other)
]

pub all_gone : (base : ℕ) (to : Endpoint) (ps : List Pair) → AreDistinct ps → list_any (is_lost_at base to) ps ≡ true → AllByRecursion (IsGone base to) ps
all_gone base to [] distinct is = absurd cc
all_gone base to (p ∷ ps) distinct is = elim (or_cases (is_lost_at base to p) (list_any (is_lost_at base to) ps) is) as (λ x. AllByRecursion (IsGone base to) (p ∷ ps)) [
  | inl one ↦
      let both = and_parts (is_at base to p) (is_lost p.state) one in
      (λ _. both.1, none_there base to ps (ap (λ (b : ℕ). list_any (is_at b to) ps) (at_base base to p both.0) ∙ ap (λ (e : Endpoint). list_any (is_at p.base e) ps) (at_remote base to p both.0) ∙ distinct.0))
  | inr other ↦ (λ here. neither (is_lost p.state ≡ true) (list_any (is_at base to) ps) (some_there base to ps other) (ap (λ (b : ℕ). list_any (is_at b to) ps) (at_base base to p here) ∙ ap (λ (e : Endpoint). list_any (is_at p.base e) ps) (at_remote base to p here) ∙ distinct.0), all_gone base to ps distinct.1 other)
]
