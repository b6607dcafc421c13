-- Roles, and their conflict.
use Rattle.std.proofs.Common.{◌≡◌, ℕ, ◌≤◌, ◌<◌, inl, inr, ◌⊎◌, Bool, true, false, Option, None, Some, refl, sym, ap, subst, ◌∙◌, find, arith, eq-eqb, ◌%◌, ◌^◌}
use Rattle.std.specs.Prelude.{◌==◌, nat_le, if◌then◌else◌}
use Rattle.std.specs.Option.{option_map_or}
use Rattle.std.proofs.lemmas.Bool.{cond_both, cond-true, and_from, leb-true, leb-false}
use Rattle.stun_endpoints.specs.declared.endpoints.Endpoint.{Endpoint}
use Rattle.stun_endpoints.specs.Endpoints.{is_endpoint}
use Rattle.ice_machine.specs.Roles.{Role, Controlling, Controlled, RoleDecision, keep, switch, refuse, other_role, is_controlling, role_decision}
use Rattle.ice_machine.specs.Agents.{Base, Request, Setup, State}
use Rattle.ice_machine.specs.Events.{Check, Answer, Accepted, Refused, checks, answers}
use Rattle.ice_machine.specs.Steps.{Step, does_nothing, at, in_role, is_base, decides, checked, is_request, is_symmetric, without_request, answered, responded, step}
use Rattle.ice_machine.specs.Exchanges.{delivered, Side, checked_by, answered_with, IsExchange, IsCrossing, IsSteady}
use Rattle.ice_machine.proofs.AddressesLemmas.{endpoint_is_itself}

-- ---- What a check and an answer make of the role

abbrev decided : Role → RoleDecision → Role
decided role keep = role
decided role switch = other_role role
decided role refuse = role

abbrev answer_for : RoleDecision → Answer
answer_for keep = Accepted
answer_for switch = Accepted
answer_for refuse = Refused 487

abbrev role_by : (role shown : Role) → Answer → Role
role_by role shown Accepted = role
role_by role shown (Refused code) = if code == 487 then other_role shown else role

controls : (role : Role) → is_controlling role ≡ true → role ≡ Controlling
controls Controlling is = refl
controls Controlled is = absurd cc

follows : (role : Role) → is_controlling role ≡ false → role ≡ Controlled
follows Controlling is = absurd cc
follows Controlled is = refl

pub in_role_role : (role : Role) (state : State) → (in_role role state).role ≡ role
in_role_role Controlling state = cond_both (is_controlling state.role) _ _ (λ (s : State). s.role ≡ Controlling) (λ is. controls state.role is) (λ _. refl)
in_role_role Controlled state = cond_both (is_controlling state.role) _ _ (λ (s : State). s.role ≡ Controlled) (λ _. refl) (λ is. follows state.role is)

decides_role : (setup : Setup) (b : Base) (c : Check) (state : State) (decision : RoleDecision) → (decides setup b c state decision).state.role ≡ decided state.role decision
decides_role setup b c state keep = refl
decides_role setup b c state switch = in_role_role (other_role state.role) state
decides_role setup b c state refuse = refl

decides_output : (setup : Setup) (b : Base) (c : Check) (state : State) (decision : RoleDecision) → (decides setup b c state decision).output ≡ answers c.base c.from c.id (answer_for decision)
decides_output setup b c state keep = refl
decides_output setup b c state switch = refl
decides_output setup b c state refuse = refl

-- what an agent that answered a check has made of it
record IsDecided (state : State) (s : Step) (c : Check) (answer : Answer) : Type 0 where
  role : s.state.role ≡ decided state.role (role_decision state.role state.tiebreaker c.role c.tiebreaker)
  answer_is : answer ≡ answer_for (role_decision state.role state.tiebreaker c.role c.tiebreaker)

one_answer : (base id : ℕ) (from : Endpoint) (x y : Answer) → answers base from id x ≡ answers base from id y → x ≡ y
one_answer base id from x y same = cc

checked_decided : (setup : Setup) (c : Check) (state : State) (known : Option Base) (answer : Answer) → (option_map_or (checked setup c state) known (does_nothing state)).output ≡ answers c.base c.from c.id answer
    → IsDecided state (option_map_or (checked setup c state) known (does_nothing state)) c answer
checked_decided setup c state None answer is = absurd cc
checked_decided setup c state (Some b) answer is =
    let decision = role_decision state.role state.tiebreaker c.role c.tiebreaker in
    record {
      role = decides_role setup b c state decision;
      answer_is = one_answer c.base c.id c.from answer (answer_for decision) (sym is ∙ decides_output setup b c state decision);
    }

by_case : (b : Bool) (s t : State) (x y : Role) → s.role ≡ x → t.role ≡ y → (if b then s else t).role ≡ (if b then x else y)
by_case true s t x y one other = one
by_case false s t x y one other = other

pub answered_role : (fresh : ℕ) (r : Request) (answer : Answer) (state : State) → (answered fresh r answer state).role ≡ role_by state.role r.role answer
answered_role fresh r Accepted state = refl
answered_role fresh r (Refused code) state = by_case (code == 487) _ _ (other_role r.role) state.role (in_role_role (other_role r.role) (record state { tiebreaker = fresh % 2 ^ 64 })) refl

pub symmetric_itself : (r : Request) → is_symmetric r.base r.to r ≡ true
symmetric_itself r = and_from (r.base == r.base) (is_endpoint r.to r.to) (eq-eqb r.base r.base refl) (endpoint_is_itself r.to)

responded_role : (fresh : ℕ) (r : Request) (answer : Answer) (state : State) → (responded fresh r.base r.to answer state r).state.role ≡ role_by state.role r.role answer
responded_role fresh r answer state =
    ap (λ (s : State). s.role) (cond-true (is_symmetric r.base r.to r) _ _ (symmetric_itself r)) ∙ answered_role fresh r answer (without_request r.id state)

answered_with_role : (own : Side) (state : State) (answer : Answer) → find (is_request own.request.id) (at own.setup own.later state).requests ≡ Some own.request
    → (answered_with own state answer).role ≡ role_by state.role own.request.role answer
answered_with_role own state answer waits =
    let now : State = at own.setup own.later state in
    ap (λ (o : Option Request). (option_map_or (responded own.anew own.request.base own.request.to answer now) o (does_nothing now)).state.role) waits
    ∙ responded_role own.anew own.request answer now

checked_by_decided : (own peer : Side) (answer : Answer) → (checked_by own peer).output ≡ answers own.base own.from peer.request.id answer
    → IsDecided own.state (checked_by own peer) (delivered peer.request own.base own.from) answer
checked_by_decided own peer answer is =
    let d = checked_decided own.setup (delivered peer.request own.base own.from) (at own.setup own.now own.state) (find (is_base own.base) own.state.bases) answer is in
    record { role = d.role; answer_is = d.answer_is }

-- ---- One check and its answer

exchanged : (own : Role) (tiebreaker : ℕ) (shown : Role) (contents : ℕ)
    → let decision = role_decision own tiebreaker shown contents in role_by shown shown (answer_for decision) ≡ other_role (decided own decision)
exchanged Controlling tiebreaker Controlling contents = cond_both (nat_le contents tiebreaker) refuse switch (λ d. role_by Controlling Controlling (answer_for d) ≡ other_role (decided Controlling d)) (λ _. refl) (λ _. refl)
exchanged Controlled tiebreaker Controlled contents = cond_both (nat_le contents tiebreaker) switch refuse (λ d. role_by Controlled Controlled (answer_for d) ≡ other_role (decided Controlled d)) (λ _. refl) (λ _. refl)
exchanged Controlling tiebreaker Controlled contents = refl
exchanged Controlled tiebreaker Controlling contents = refl

pub exchange_settles : (one other : Side) (answer : Answer) → IsExchange one other answer → (answered_with one one.state answer).role ≡ other_role (checked_by other one).state.role
exchange_settles one other answer e =
    let d = checked_by_decided other one answer e.answered in
    let decision = role_decision other.state.role other.state.tiebreaker one.request.role one.request.tiebreaker in
    answered_with_role one one.state answer e.waits
    ∙ ap (λ (r : Role). role_by r one.request.role answer) (sym e.shows)
    ∙ ap (role_by one.request.role one.request.role) d.answer_is
    ∙ exchanged other.state.role other.state.tiebreaker one.request.role one.request.tiebreaker
    ∙ ap other_role (sym d.role)

-- ---- Two checks that cross

abbrev Crossed : (one_role other_role : Role) → (one other : RoleDecision) → Type 0
Crossed r q one other = role_by (decided r one) r (answer_for other) ≡ other_role (role_by (decided q other) q (answer_for one))

crossed : (r q : Role) (t u : ℕ) → (t ≡ u → ⊥) → Crossed r q (role_decision r t q u) (role_decision q u r t)
crossed Controlling Controlled t u distinct = refl
crossed Controlled Controlling t u distinct = refl
crossed Controlling Controlling t u distinct =
    cond_both (nat_le u t) refuse switch (λ d. Crossed Controlling Controlling d (if nat_le t u then refuse else switch))
    (λ le. cond_both (nat_le t u) refuse switch (Crossed Controlling Controlling refuse)
    (λ ge. absurd (distinct (let one = leb-true u t le in let other = leb-true t u ge in omega (arith, one, other)))) (λ _. refl))
    (λ gt. cond_both (nat_le t u) refuse switch (Crossed Controlling Controlling switch)
    (λ _. refl) (λ lt. absurd (let one = leb-false u t gt in let other = leb-false t u lt in omega (arith, one, other))))
crossed Controlled Controlled t u distinct =
    cond_both (nat_le u t) switch refuse (λ d. Crossed Controlled Controlled d (if nat_le t u then switch else refuse))
    (λ le. cond_both (nat_le t u) switch refuse (Crossed Controlled Controlled switch)
    (λ ge. absurd (distinct (let one = leb-true u t le in let other = leb-true t u ge in omega (arith, one, other)))) (λ _. refl))
    (λ gt. cond_both (nat_le t u) switch refuse (Crossed Controlled Controlled refuse)
    (λ _. refl) (λ lt. absurd (let one = leb-false u t gt in let other = leb-false t u lt in omega (arith, one, other))))

pub crossing_settles : (one other : Side) (one_answer other_answer : Answer) → IsCrossing one other one_answer other_answer
    → (answered_with one (checked_by one other).state other_answer).role ≡ other_role (answered_with other (checked_by other one).state one_answer).role
crossing_settles one other one_answer other_answer c =
    let d = checked_by_decided one other one_answer c.one_answered in
    let e = checked_by_decided other one other_answer c.other_answered in
    let r : Role = one.state.role in
    let q : Role = other.state.role in
    let t : ℕ = one.state.tiebreaker in
    let u : ℕ = other.state.tiebreaker in
    let ours : role_decision r t other.request.role other.request.tiebreaker ≡ role_decision r t q u = ap (λ (x : Role). role_decision r t x other.request.tiebreaker) c.other_role ∙ ap (λ (n : ℕ). role_decision r t q n) c.other_number in
    let theirs : role_decision q u one.request.role one.request.tiebreaker ≡ role_decision q u r t = ap (λ (x : Role). role_decision q u x one.request.tiebreaker) c.one_role ∙ ap (λ (n : ℕ). role_decision q u r n) c.one_number in
    let left : (answered_with one (checked_by one other).state other_answer).role ≡ role_by (decided r (role_decision r t q u)) r (answer_for (role_decision q u r t)) =
    answered_with_role one (checked_by one other).state other_answer c.one_waits
    ∙ ap (λ (x : Role). role_by x one.request.role other_answer) (d.role ∙ ap (decided r) ours)
    ∙ ap (λ (x : Role). role_by (decided r (role_decision r t q u)) x other_answer) c.one_role
    ∙ ap (role_by (decided r (role_decision r t q u)) r) (e.answer_is ∙ ap answer_for theirs) in
    let right : (answered_with other (checked_by other one).state one_answer).role ≡ role_by (decided q (role_decision q u r t)) q (answer_for (role_decision r t q u)) =
    answered_with_role other (checked_by other one).state one_answer c.other_waits
    ∙ ap (λ (x : Role). role_by x other.request.role one_answer) (e.role ∙ ap (decided q) theirs)
    ∙ ap (λ (x : Role). role_by (decided q (role_decision q u r t)) x one_answer) c.other_role
    ∙ ap (role_by (decided q (role_decision q u r t)) q) (d.answer_is ∙ ap answer_for ours) in
    left ∙ crossed r q t u c.distinct ∙ ap other_role (sym right)

-- ---- Any check

record IsSteadyRole (role : Role) (tiebreaker : ℕ) (shown : Role) (contents : ℕ) (after : Role) : Type 0 where
  greater : contents ≤ tiebreaker → (after ≡ role) ⊎ (after ≡ Controlling)
  lesser : tiebreaker < contents → (after ≡ role) ⊎ (after ≡ Controlled)
  agreed : shown ≡ other_role role → after ≡ role

differs : (P : Type 0) → Controlling ≡ Controlled → P
differs P same = absurd cc

steady_decided : (role : Role) (tiebreaker : ℕ) (shown : Role) (contents : ℕ) → IsSteadyRole role tiebreaker shown contents (decided role (role_decision role tiebreaker shown contents))
steady_decided Controlling tiebreaker Controlled contents = record { greater = λ _. inl refl; lesser = λ _. inl refl; agreed = λ _. refl }
steady_decided Controlled tiebreaker Controlling contents = record { greater = λ _. inl refl; lesser = λ _. inl refl; agreed = λ _. refl }
steady_decided Controlling tiebreaker Controlling contents = cond_both (nat_le contents tiebreaker) refuse switch (λ d. IsSteadyRole Controlling tiebreaker Controlling contents (decided Controlling d))
    (λ _. record { greater = λ _. inl refl; lesser = λ _. inl refl; agreed = λ _. refl })
    (λ gt. record { greater = λ le. absurd (let one = leb-false contents tiebreaker gt in omega (arith, one, le)); lesser = λ _. inr refl; agreed = λ same. differs (Controlled ≡ Controlling) same })
steady_decided Controlled tiebreaker Controlled contents = cond_both (nat_le contents tiebreaker) switch refuse (λ d. IsSteadyRole Controlled tiebreaker Controlled contents (decided Controlled d))
    (λ le. record { greater = λ _. inr refl; lesser = λ lt. absurd (let one = leb-true contents tiebreaker le in omega (arith, one, lt)); agreed = λ same. differs (Controlling ≡ Controlled) (sym same) })
    (λ _. record { greater = λ _. inl refl; lesser = λ _. inl refl; agreed = λ _. refl })

steady_known : (setup : Setup) (state : State) (c : Check) (known : Option Base) → IsSteady state (option_map_or (checked setup c state) known (does_nothing state)).state c
steady_known setup state c None = record { greater = λ _. inl refl; lesser = λ _. inl refl; agreed = λ _. refl }
steady_known setup state c (Some b) =
    let decision = role_decision state.role state.tiebreaker c.role c.tiebreaker in
    let s = subst (IsSteadyRole state.role state.tiebreaker c.role c.tiebreaker) (sym (decides_role setup b c state decision)) (steady_decided state.role state.tiebreaker c.role c.tiebreaker) in
    record { greater = s.greater; lesser = s.lesser; agreed = s.agreed }

pub checks_steadily : (setup : Setup) (state : State) (now fresh : ℕ) (c : Check) → IsSteady state (step setup state now fresh (checks c)).state c
checks_steadily setup state now fresh c =
    let s = steady_known setup (at setup now state) c (find (is_base c.base) state.bases) in
    record { greater = s.greater; lesser = s.lesser; agreed = s.agreed }
