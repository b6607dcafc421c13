-- The numbers of an agent fit their fields, and those of its requests too.
use Rattle.std.proofs.Common.{map, ◌≡◌, ℕ, ◌%◌, ◌^◌, ◌<◌, ◌≤◌, zero, suc, Bool, true, not, ◌||◌, ◌&&◌, List, [], ◌∷◌, Option, None, Some, refl, subst, find, take, arith}
use Rattle.std.specs.List.{AllByRecursion, list_any}
use Rattle.std.specs.Option.{option_map_or}
use Rattle.std.specs.Prelude.{◌==◌, IfSome, length, max, nat_lt}
use Rattle.std.proofs.lemmas.Bool.{cond_both, eq-eqb}
use Rattle.stun_endpoints.specs.declared.endpoints.Endpoint.{Endpoint}
use Rattle.ice_machine.specs.declared.candidates.Base.{Base}
use Rattle.ice_machine.specs.declared.pairs.Pair.{Pair}
use Rattle.ice_machine.specs.declared.messages.Request.{Request}
use Rattle.ice_machine.specs.Agents.{Setup, State, is_at, is_frozen, is_in_progress, is_lost, is_succeeded}
use Rattle.ice_machine.specs.Checks.{asked, most_urgent, request_on, score, is_kin}
use Rattle.ice_machine.specs.declared.messages.Check.{Check}
use Rattle.ice_machine.specs.declared.messages.Answer.{Answer}
use Rattle.ice_machine.specs.declared.messages.Answer.TheVariants.{Accepted, Refused}
use Rattle.ice_machine.specs.Events.{checks, responds, polls, asks, answers}
use Rattle.ice_machine.specs.Pairs.{pair_of, with_pair}
use Rattle.ice_machine.specs.declared.roles.Role.{Role}
use Rattle.ice_machine.specs.declared.roles.Role.TheVariants.{Controlled, Controlling}
use Rattle.ice_machine.specs.Roles.{RoleDecision, keep, switch, refuse, is_controlling, other_role, role_decision}
use Rattle.ice_machine.specs.Steps.{Step, answered, asks_on, at, changed, changed_first, checked, decides, discovered, does_nothing, fails, heard, hears, in_role, is_base, is_open, is_over, is_request, is_symmetric, is_unanswered, nominated_by, responded, retried, settled, step, succeeds, thaws, triggers, unnominated, without_request}
use Rattle.ice_machine.proofs.RightLemmas.{IsGood, best_good}
use Rattle.ice_exchanges.specs.Meetings.{IsNumbered}
use Rattle.ice_exchanges.specs.Peers.{IsInFields}

-- ---- Lists

map_each : (P : Pair → Type 0) (change : Pair → Pair) → ((p : Pair) → P p → P (change p)) → (ps : List Pair) → AllByRecursion P ps → AllByRecursion P (map {B = Pair} change ps)
map_each P change f [] each = tt
map_each P change f (p ∷ ps) each = (f p each.0, map_each P change f ps each.1)

changed_each : (P : Pair → Type 0) (test : Pair → Bool) (change : Pair → Pair) → ((p : Pair) → P p → P (change p)) → (ps : List Pair) → AllByRecursion P ps → AllByRecursion P (changed_first test change ps)
changed_each P test change f [] each = tt
changed_each P test change f (p ∷ ps) each = cond_both (test p) (change p ∷ ps) (p ∷ changed_first test change ps) (AllByRecursion P)
    (λ _. (f p each.0, each.1)) (λ _. (each.0, changed_each P test change f ps each.1))

found_each : {X : Type 0} (P : X → Type 0) (test : X → Bool) (xs : List X) → AllByRecursion P xs → IfSome (find test xs) P
found_each P test [] each = tt
found_each P test (x ∷ xs) each = cond_both (test x) (Some x) (find test xs) (λ o. IfSome o P) (λ _. each.0) (λ _. found_each P test xs each.1)

-- ---- A change keeps what a check's PRIORITY is

abbrev Fits : Pair → Type 0
Fits p = p.reflexive_priority < 2 ^ 32

settled_fits : (setup : Setup) (now : ℕ) (p : Pair) → Fits p → Fits (settled setup now p)
settled_fits setup now p is = cond_both (is_unanswered setup now p) _ _ Fits (λ _. is) (λ _. cond_both (is_over now p) _ _ Fits (λ _. is) (λ _. is))

triggers_fits : (p : Pair) → Fits p → Fits (triggers p)
triggers_fits p is = cond_both (is_succeeded p.state || is_lost p.state) _ _ Fits (λ _. is) (λ _. is)

heard_fits : (role : Role) (c : Check) (p : Pair) → Fits p → Fits (heard role c p)
heard_fits role c p is = triggers_fits (nominated_by role c p) (cond_both (c.nominates && (not (is_controlling role) && not (is_lost p.state))) _ _ Fits (λ _. is) (λ _. is))

fails_fits : (p : Pair) → Fits p → Fits (fails p)
fails_fits p is = cond_both (is_in_progress p.state) _ _ Fits (λ _. is) (λ _. is)

succeeds_fits : (role : Role) (now : ℕ) (r : Request) (p : Pair) → Fits p → Fits (succeeds role now r p)
succeeds_fits role now r p is = cond_both (is_lost p.state) _ _ Fits (λ _. is) (λ _. is)

thaws_fits : (o : Option Pair) (q : Pair) → Fits q → Fits (thaws o q)
thaws_fits None q is = is
thaws_fits (Some p) q is = cond_both (is_kin p q && is_frozen q.state) _ _ Fits (λ _. is) (λ _. is)

retried_fits : (p : Pair) → Fits p → Fits (retried p)
retried_fits p is = cond_both (is_lost p.state) _ _ Fits (λ _. is) (λ _. cond_both (is_succeeded p.state) _ _ Fits (λ _. is) (λ _. triggers_fits p is))

asked_fits : (setup : Setup) (state : State) (fresh : ℕ) (p : Pair) → Fits p → Fits (asked setup state fresh p)
asked_fits setup state fresh p is = cond_both (is_lost p.state) _ _ Fits (λ _. is) (λ _. cond_both (is_succeeded p.state) _ _ Fits (λ _. is) (λ _. is))

with_pair_fits : (most : ℕ) (p : Pair) (ps : List Pair) → Fits p → AllByRecursion Fits ps → AllByRecursion Fits (with_pair most p ps)
with_pair_fits most p ps one each = cond_both (list_any (is_at p.base p.remote) ps || not (nat_lt (length ps) most)) _ _ (AllByRecursion Fits) (λ _. each) (λ _. (one, each))

-- ---- States

pub at_numbered : (setup : Setup) (now : ℕ) (s : State) → IsNumbered s → IsNumbered (at setup now s)
at_numbered setup now s k = record { tiebreaker = k.tiebreaker; bases = k.bases; pairs = map_each Fits (settled setup (max s.clock now)) (settled_fits setup (max s.clock now)) s.pairs k.pairs }

changed_numbered : (change : Pair → Pair) (base : ℕ) (to : Endpoint) (s : State) → ((p : Pair) → Fits p → Fits (change p)) → IsNumbered s → IsNumbered (changed change base to s)
changed_numbered change base to s f k = record { tiebreaker = k.tiebreaker; bases = k.bases; pairs = changed_each Fits (is_at base to) change f s.pairs k.pairs }

in_role_numbered : (role : Role) (s : State) → IsNumbered s → IsNumbered (in_role role s)
in_role_numbered Controlling s k = cond_both (is_controlling s.role) _ _ IsNumbered (λ _. k)
    (λ _. record { tiebreaker = k.tiebreaker; bases = k.bases; pairs = map_each Fits unnominated (λ p is. is) s.pairs k.pairs })
in_role_numbered Controlled s k = cond_both (is_controlling s.role) _ _ IsNumbered
    (λ _. record { tiebreaker = k.tiebreaker; bases = k.bases; pairs = map_each Fits unnominated (λ p is. is) s.pairs k.pairs }) (λ _. k)

hears_numbered : (setup : Setup) (b : Base) (c : Check) (s : State) → b.reflexive_priority < 2 ^ 32 → IsNumbered s → IsNumbered (hears setup b c s)
hears_numbered setup b c s fits k = record {
  tiebreaker = k.tiebreaker;
  bases = k.bases;
  pairs = changed_each Fits (is_at c.base c.from) (heard s.role c) (heard_fits s.role c) (with_pair setup.most_pairs (pair_of b (discovered b c)) s.pairs) (with_pair_fits setup.most_pairs (pair_of b (discovered b c)) s.pairs fits k.pairs);
}

-- what a check is answered with, and the state then
record IsAnswered (s : Step) : Type 0 where
  numbered : IsNumbered s.state
  code : (base id : ℕ) (to : Endpoint) (n : ℕ) → s.output ≡ answers base to id (Refused n) → n ≡ 487

decides_answered : (setup : Setup) (b : Base) (c : Check) (s : State) (d : RoleDecision) → b.reflexive_priority < 2 ^ 32 → IsNumbered s → IsAnswered (decides setup b c s d)
decides_answered setup b c s keep fits k = record { numbered = hears_numbered setup b c s fits k; code = λ base id to n e. absurd cc }
decides_answered setup b c s switch fits k =
    record { numbered = hears_numbered setup b c (in_role (other_role s.role) s) fits (in_role_numbered (other_role s.role) s k); code = λ base id to n e. absurd cc }
decides_answered setup b c s refuse fits k = record { numbered = k; code = λ base id to n e. cc }

checked_answered : (setup : Setup) (c : Check) (s : State) (o : Option Base) → IfSome o (λ b. b.reflexive_priority < 2 ^ 32) → IsNumbered s → IsAnswered (option_map_or (checked setup c s) o (does_nothing s))
checked_answered setup c s None fits k = record { numbered = k; code = λ base id to n e. absurd cc }
checked_answered setup c s (Some b) fits k = decides_answered setup b c s (role_decision s.role s.tiebreaker c.role c.tiebreaker) fits k

check_answered : (setup : Setup) (s : State) (now fresh : ℕ) (c : Check) → IsNumbered s → IsAnswered (step setup s now fresh (checks c))
check_answered setup s now fresh c k =
    let is = at_numbered setup now s k in
    checked_answered setup c (at setup now s) (find (is_base c.base) s.bases) (found_each (λ (b : Base). b.reflexive_priority < 2 ^ 32) (is_base c.base) s.bases k.bases) is

pub check_numbered : (setup : Setup) (s : State) (now fresh : ℕ) (c : Check) → IsNumbered s → IsNumbered (step setup s now fresh (checks c)).state
check_numbered setup s now fresh c k = (check_answered setup s now fresh c k).numbered

pub refusal_is_487 : (setup : Setup) (s : State) (now fresh : ℕ) (c : Check) (base id : ℕ) (to : Endpoint) (n : ℕ) → IsNumbered s → (step setup s now fresh (checks c)).output ≡ answers base to id (Refused n) → n ≡ 487
refusal_is_487 setup s now fresh c base id to n k e = (check_answered setup s now fresh c k).code base id to n e

-- ---- Responses

answered_numbered : (fresh : ℕ) (r : Request) (answer : Answer) (s : State) → IsNumbered s → IsNumbered (answered fresh r answer s)
answered_numbered fresh r Accepted s k =
    let t = changed (succeeds s.role s.clock r) r.base r.to s in
    let is = changed_numbered (succeeds s.role s.clock r) r.base r.to s (succeeds_fits s.role s.clock r) k in
    record { tiebreaker = is.tiebreaker; bases = is.bases; pairs = map_each Fits (thaws (find (is_at r.base r.to) t.pairs)) (thaws_fits (find (is_at r.base r.to) t.pairs)) t.pairs is.pairs }
answered_numbered fresh r (Refused code) s k = cond_both (code == 487) _ _ IsNumbered
    (λ _. changed_numbered retried r.base r.to (in_role (other_role r.role) (record s { tiebreaker = fresh % 2 ^ 64 })) retried_fits
    (in_role_numbered (other_role r.role) (record s { tiebreaker = fresh % 2 ^ 64 }) (record { tiebreaker = omega arith; bases = k.bases; pairs = k.pairs })))
    (λ _. changed_numbered fails r.base r.to s fails_fits k)

responded_numbered : (fresh base : ℕ) (from : Endpoint) (answer : Answer) (s : State) (r : Request) → IsNumbered s → IsNumbered (responded fresh base from answer s r).state
responded_numbered fresh base from answer s r k =
    let without : IsNumbered (without_request r.id s) = record { tiebreaker = k.tiebreaker; bases = k.bases; pairs = k.pairs } in
    cond_both (is_symmetric base from r) _ _ IsNumbered (λ _. answered_numbered fresh r answer (without_request r.id s) without) (λ _. changed_numbered fails r.base r.to (without_request r.id s) fails_fits without)

found_numbered : (fresh base : ℕ) (from : Endpoint) (answer : Answer) (s : State) (o : Option Request) → IsNumbered s → IsNumbered (option_map_or (responded fresh base from answer s) o (does_nothing s)).state
found_numbered fresh base from answer s None k = k
found_numbered fresh base from answer s (Some r) k = responded_numbered fresh base from answer s r k

pub response_numbered : (setup : Setup) (s : State) (now fresh base : ℕ) (from : Endpoint) (id : ℕ) (answer : Answer) → IsNumbered s → IsNumbered (step setup s now fresh (responds base from id answer)).state
response_numbered setup s now fresh base from id answer k = found_numbered fresh base from answer (at setup now s) (find (is_request id) (at setup now s).requests) (at_numbered setup now s k)

-- ---- Requests

-- what a poll asks
record IsAsking (fresh : ℕ) (s : Step) : Type 0 where
  numbered : IsNumbered s.state
  fields : (r : Request) → s.output ≡ asks r → IsInFields r
  waits : (r : Request) → s.output ≡ asks r → list_any (is_request r.id) s.state.requests ≡ true

waiting : (most : ℕ) (r : Request) (rs : List Request) → 1 ≤ most → list_any (is_request r.id) (take most (r ∷ rs)) ≡ true
waiting zero r rs room = absurd (omega (arith, room))
waiting (suc most) r rs room = rw (eq-eqb r.id r.id refl) refl

asks_asking : (setup : Setup) (fresh : ℕ) (s : State) (p : Pair) → 1 ≤ setup.most_requests → fresh < 2 ^ 96 → Fits p → IsNumbered s → IsAsking fresh (asks_on setup fresh s p)
asks_asking setup fresh s p room small fits k = record {
  numbered = record { tiebreaker = k.tiebreaker; bases = k.bases; pairs = changed_each Fits (is_at p.base p.remote) (asked setup s fresh) (asked_fits setup s fresh) s.pairs k.pairs };
  fields = λ r e. let same : request_on setup s fresh p ≡ r = cc in subst (λ (x : Request). IsInFields x) same (record { id = small; tiebreaker = k.tiebreaker; priority = fits });
  waits = λ r e. let same : request_on setup s fresh p ≡ r = cc in subst (λ (x : Request). list_any (is_request x.id) (take setup.most_requests (request_on setup s fresh p ∷ s.requests)) ≡ true) same (waiting setup.most_requests (request_on setup s fresh p) s.requests room);
}

idle_asking : (fresh : ℕ) (s : State) → IsNumbered s → IsAsking fresh (does_nothing s)
idle_asking fresh s k = record { numbered = k; fields = λ r e. absurd cc; waits = λ r e. absurd cc }

urgent_asking : (setup : Setup) (fresh : ℕ) (s : State) (o : Option Pair) → 1 ≤ setup.most_requests → fresh < 2 ^ 96 → IsGood Fits (score setup s) o → IsNumbered s → IsAsking fresh (option_map_or (asks_on setup fresh s) o (does_nothing s))
urgent_asking setup fresh s None room small good k = idle_asking fresh s k
urgent_asking setup fresh s (Some p) room small good k = asks_asking setup fresh s p room small good.0 k

poll_asking : (setup : Setup) (s : State) (now fresh : ℕ) → 1 ≤ setup.most_requests → fresh < 2 ^ 96 → IsNumbered s → IsAsking fresh (step setup s now fresh polls)
poll_asking setup s now fresh room small k =
    let here = at setup now s in
    let is = at_numbered setup now s k in
    cond_both (is_open here) _ _ (IsAsking fresh) (λ _. urgent_asking setup fresh here (most_urgent setup here) room small (best_good Fits (score setup here) here.pairs is.pairs) is) (λ _. idle_asking fresh here is)

pub poll_numbered : (setup : Setup) (s : State) (now fresh : ℕ) → 1 ≤ setup.most_requests → fresh < 2 ^ 96 → IsNumbered s → IsNumbered (step setup s now fresh polls).state
poll_numbered setup s now fresh room small k = (poll_asking setup s now fresh room small k).numbered

pub poll_fields : (setup : Setup) (s : State) (now fresh : ℕ) (r : Request) → 1 ≤ setup.most_requests → fresh < 2 ^ 96 → IsNumbered s → (step setup s now fresh polls).output ≡ asks r → IsInFields r
poll_fields setup s now fresh r room small k e = (poll_asking setup s now fresh room small k).fields r e

pub poll_waits : (setup : Setup) (s : State) (now fresh : ℕ) (r : Request) → 1 ≤ setup.most_requests → fresh < 2 ^ 96 → IsNumbered s → (step setup s now fresh polls).output ≡ asks r
    → list_any (is_request r.id) (step setup s now fresh polls).state.requests ≡ true
poll_waits setup s now fresh r room small k e = (poll_asking setup s now fresh room small k).waits r e
