-- A check on the way and its answer, at one moment.
use Rattle.std.proofs.Common.{◌≡◌, ℕ, ◌+◌, ◌≤◌, Bool, true, false, ◌||◌, List, [], ◌∷◌, Option, None, Some, refl, sym, ap, subst, ◌∙◌, find, arith}
use Rattle.std.specs.List.{list_any}
use Rattle.std.specs.Option.{option_map_or}
use Rattle.std.proofs.lemmas.Bool.{cond_both}
use Rattle.stun_endpoints.specs.declared.endpoints.Endpoint.{Endpoint}
use Rattle.ice_machine.specs.Roles.{Role, RoleDecision, keep, switch, refuse, other_role, role_decision}
use Rattle.ice_machine.specs.Agents.{Base, Pair, Setup, State, pace, is_at}
use Rattle.ice_machine.specs.Events.{Check, Accepted, Refused}
use Rattle.ice_machine.specs.Checks.{request_on, asked}
use Rattle.ice_machine.specs.Steps.{does_nothing, settled, unnominated, in_role, is_base, hears, decides, checked, succeeds, thaws, retried, answered, asks_on}
use Rattle.ice_machine.specs.Exchanges.{delivered}
use Rattle.ice_machine.specs.Networks.{Place, Agents, takes, gets_to}
use Rattle.ice_machine.specs.Meetings.{End, IsAgent}
use Rattle.ice_machine.proofs.CountsLemmas.{IsNumbered, base_found}
use Rattle.ice_machine.proofs.PlacesLemmas.{at_left, asked_left, settled_left}
use Rattle.ice_machine.proofs.MeetSteps.{moved, at_is, moved_agent, weaker_agent, asked_agent, awaiting, answer_comes, accepted_agent, refused_agent}

-- what a change makes of a pair with a property
abbrev Image : (Pair → Pair) → (Pair → Type 0) → Pair → Type 0
Image f P z = (y : Pair) × P y × (z ≡ f y)

-- ---- The agent that asks

asked_away : (e : End) (net : ℕ → Endpoint → Option Place) (P : Pair → Type 0) (setup : Setup) (now gate fresh : ℕ) (s : State) (x : Pair) → s.clock ≡ now → is_at e.base e.to x ≡ true
    → ((y : Pair) → P y → is_at e.base e.to y ≡ true) → IsAgent e net P now gate s → IsAgent e net (Image (λ y. settled setup now (asked setup s fresh y)) P) now (now + pace setup) (awaiting setup now fresh s x)
asked_away e net P setup now gate fresh s x clock here there a =
    let sent : State = (asks_on setup fresh s x).state in
    let one : IsAgent e net (Image (asked setup s fresh) P) now (now + pace setup) sent = asked_agent e net P (Image (asked setup s fresh) P) setup now gate fresh s x clock here there (λ y p. (y, p, refl)) a in
    let two : IsAgent e net (Image (λ y. settled setup now (asked setup s fresh y)) P) now (now + pace setup) (moved setup now sent) =
    moved_agent e net (Image (asked setup s fresh) P) (Image (λ y. settled setup now (asked setup s fresh y)) P) setup now now (now + pace setup) sent (λ z i. (i.0, i.1, ap (settled setup now) i.2)) one in
    record { ready = two.ready; clock = two.clock; paced = two.paced; based = two.based; pairs = two.pairs }

image_there : (e : End) (P : Pair → Type 0) (setup : Setup) (now fresh : ℕ) (s : State) → ((y : Pair) → P y → is_at e.base e.to y ≡ true) → (z : Pair) → Image (λ y. settled setup now (asked setup s fresh y)) P z → is_at e.base e.to z ≡ true
image_there e P setup now fresh s there z i =
    ap (is_at e.base e.to) i.2
    ∙ at_left e.base e.to (asked setup s fresh i.0) (settled setup now (asked setup s fresh i.0)) (settled_left setup now (asked setup s fresh i.0))
    ∙ at_left e.base e.to i.0 (asked setup s fresh i.0) (asked_left setup s fresh i.0) ∙ there i.0 i.1

pub own_accepted : (e : End) (net : ℕ → Endpoint → Option Place) (P R : Pair → Type 0) (setup : Setup) (now gate fresh anew : ℕ) (s : State) (x : Pair) → s.clock ≡ now → is_at e.base e.to x ≡ true
    → ((y : Pair) → P y → is_at e.base e.to y ≡ true) → ((y : Pair) → P y → R (succeeds s.role now (request_on setup s fresh x) (settled setup now (asked setup s fresh y)))) → ((o : Option Pair) (y : Pair) → R y → R (thaws o y))
    → IsAgent e net P now gate s → IsAgent e net R now (now + pace setup) (answered anew (request_on setup s fresh x) Accepted (awaiting setup now fresh s x))
own_accepted e net P R setup now gate fresh anew s x clock here there on melts a =
    accepted_agent e net (Image (λ y. settled setup now (asked setup s fresh y)) P) R now (now + pace setup) anew (awaiting setup now fresh s x) (request_on setup s fresh x) x refl refl here
    (image_there e P setup now fresh s there)
    (λ z i. subst (λ (y : Pair). R (succeeds s.role now (request_on setup s fresh x) y)) (sym i.2) (on i.0 i.1)) melts (asked_away e net P setup now gate fresh s x clock here there a)

pub own_refused : (e : End) (net : ℕ → Endpoint → Option Place) (P Q R : Pair → Type 0) (setup : Setup) (now gate fresh anew : ℕ) (s : State) (x : Pair) → s.clock ≡ now → is_at e.base e.to x ≡ true
    → ((y : Pair) → Q y → is_at e.base e.to y ≡ true) → ((y : Pair) → P y → is_at e.base e.to y ≡ true) → ((y : Pair) → P y → Q (settled setup now (asked setup s fresh y))) → ((y : Pair) → Q y → Q (unnominated y)) → ((y : Pair) → Q y → R (retried y))
    → IsAgent e net P now gate s → IsAgent e net R now (now + pace setup) (answered anew (request_on setup s fresh x) (Refused 487) (awaiting setup now fresh s x))
own_refused e net P Q R setup now gate fresh anew s x clock here q_there there on plain again a =
    let b : IsAgent e net (Image (λ y. settled setup now (asked setup s fresh y)) P) now (now + pace setup) (awaiting setup now fresh s x) = asked_away e net P setup now gate fresh s x clock here there a in
    refused_agent e net Q R now (now + pace setup) anew (awaiting setup now fresh s x) (request_on setup s fresh x) x refl refl here q_there plain again
    (weaker_agent e net (Image (λ y. settled setup now (asked setup s fresh y)) P) Q now now (now + pace setup) (now + pace setup) (awaiting setup now fresh s x)
    (λ z i. subst Q (sym i.2) (on i.0 i.1)) (omega arith) (omega arith) b)

-- ---- Both

-- what each answer makes of the two
pub record Exchanges (R : Agents → Type 0) (own_setup : Setup) (now fresh anew : ℕ) (s : State) (x : Pair) (peer_setup : Setup) (c : Check) (peer : State) (base : ℕ) : Type 0 where
  pub kept : (b : Base) → b.number ≡ base → find (is_base base) peer.bases ≡ Some b → role_decision peer.role peer.tiebreaker s.role s.tiebreaker ≡ keep
      → R (record { one = answered anew (request_on own_setup s fresh x) Accepted (awaiting own_setup now fresh s x); other = hears peer_setup b c peer })
  pub switched : (b : Base) → b.number ≡ base → find (is_base base) peer.bases ≡ Some b → role_decision peer.role peer.tiebreaker s.role s.tiebreaker ≡ switch
      → R (record { one = answered anew (request_on own_setup s fresh x) Accepted (awaiting own_setup now fresh s x); other = hears peer_setup b c (in_role (other_role peer.role) peer) })
  pub declined : role_decision peer.role peer.tiebreaker s.role s.tiebreaker ≡ refuse
      → R (record { one = answered anew (request_on own_setup s fresh x) (Refused 487) (awaiting own_setup now fresh s x); other = peer })

decided_by : (R : Agents → Type 0) (own_setup : Setup) (now fresh anew : ℕ) (s : State) (x : Pair) (peer_setup : Setup) (c : Check) (peer : State) (base : ℕ) (b : Base) (d : RoleDecision) → s.clock ≡ now → 1 ≤ own_setup.most_requests → b.number ≡ base → find (is_base base) peer.bases ≡ Some b
    → role_decision peer.role peer.tiebreaker s.role s.tiebreaker ≡ d → Exchanges R own_setup now fresh anew s x peer_setup c peer base
    → R (takes own_setup now anew (request_on own_setup s fresh x) (asks_on own_setup fresh s x).state (decides peer_setup b c peer d).state (decides peer_setup b c peer d).output)
decided_by R own_setup now fresh anew s x peer_setup c peer base b keep clock room number found is k =
    subst (λ (t : State). R (record { one = t; other = hears peer_setup b c peer })) (sym (answer_comes own_setup now fresh anew s x Accepted clock room)) (k.kept b number found is)
decided_by R own_setup now fresh anew s x peer_setup c peer base b switch clock room number found is k =
    subst (λ (t : State). R (record { one = t; other = hears peer_setup b c (in_role (other_role peer.role) peer) })) (sym (answer_comes own_setup now fresh anew s x Accepted clock room)) (k.switched b number found is)
decided_by R own_setup now fresh anew s x peer_setup c peer base b refuse clock room number found is k =
    subst (λ (t : State). R (record { one = t; other = peer })) (sym (answer_comes own_setup now fresh anew s x (Refused 487) clock room)) (k.declined is)

some_based : (number : ℕ) (bs : List Base) → list_any (is_base number) bs ≡ true → find (is_base number) bs ≡ None → ⊥
some_based number [] is none = absurd cc
some_based number (b ∷ bs) is none =
    cond_both (is_base number b) (Some b) (find (is_base number) bs) (λ o. o ≡ None → ⊥) (λ _. λ other. absurd cc)
    (λ isnt. λ other. some_based number bs (rest_of (is_base number b) (list_any (is_base number) bs) isnt is) other) none
  where
    rest_of : (a b : Bool) → a ≡ false → (a || b) ≡ true → b ≡ true
    rest_of true b isnt is = absurd cc
    rest_of false b isnt is = is

based_by : (R : Agents → Type 0) (own_setup : Setup) (now fresh anew : ℕ) (s : State) (x : Pair) (peer_setup : Setup) (c : Check) (peer : State) (base : ℕ) (o : Option Base) → s.clock ≡ now → 1 ≤ own_setup.most_requests → IsNumbered base o → (o ≡ None → ⊥) → find (is_base base) peer.bases ≡ o
    → c.role ≡ s.role → c.tiebreaker ≡ s.tiebreaker → Exchanges R own_setup now fresh anew s x peer_setup c peer base
    → R (takes own_setup now anew (request_on own_setup s fresh x) (asks_on own_setup fresh s x).state (option_map_or (checked peer_setup c peer) o (does_nothing peer)).state (option_map_or (checked peer_setup c peer) o (does_nothing peer)).output)
based_by R own_setup now fresh anew s x peer_setup c peer base None clock room numbered some found role number k = absurd (some refl)
based_by R own_setup now fresh anew s x peer_setup c peer base (Some b) clock room numbered some found role number k =
    decided_by R own_setup now fresh anew s x peer_setup c peer base b (role_decision peer.role peer.tiebreaker c.role c.tiebreaker) clock room numbered found
    (ap (λ (r : Role). role_decision peer.role peer.tiebreaker r s.tiebreaker) (sym role) ∙ ap (role_decision peer.role peer.tiebreaker c.role) (sym number)) k

pub exchange_by : (R : Agents → Type 0) (own_setup : Setup) (now fresh anew : ℕ) (s : State) (x : Pair) (peer_setup : Setup) (peer : State) (base : ℕ) (from : Endpoint) → s.clock ≡ now → 1 ≤ own_setup.most_requests → peer.clock ≤ now → list_any (is_base base) peer.bases ≡ true
    → Exchanges R own_setup now fresh anew s x peer_setup (delivered (request_on own_setup s fresh x) base from) (moved peer_setup now peer) base
    → R (gets_to own_setup peer_setup now anew (request_on own_setup s fresh x) (asks_on own_setup fresh s x).state peer (Some (record { base = base; from = from })))
exchange_by R own_setup now fresh anew s x peer_setup peer base from clock room peer_clock based k =
    let c : Check = delivered (request_on own_setup s fresh x) base from in
    subst (λ (t : State). R (takes own_setup now anew (request_on own_setup s fresh x) (asks_on own_setup fresh s x).state (option_map_or (checked peer_setup c t) (find (is_base base) t.bases) (does_nothing t)).state (option_map_or (checked peer_setup c t) (find (is_base base) t.bases) (does_nothing t)).output))
    (sym (at_is peer_setup now peer peer_clock))
    (based_by R own_setup now fresh anew s x peer_setup c (moved peer_setup now peer) base (find (is_base base) peer.bases) clock room (base_found base peer.bases) (some_based base peer.bases based) refl refl refl k)
