-- What is due is asked for, and what is granted counts.
use Rattle.std.proofs.Common.{◌≡◌, ℕ, ◌+◌, ◌-◌, ◌<◌, ◌≤◌, Bool, true, false, not, ◌&&◌, ◌||◌, List, [], ◌∷◌, Option, None, Some, refl, sym, ap, subst, ◌∙◌, arith, find, eq-eqb, is_some}
use Rattle.std.specs.List.{list_any}
use Rattle.std.specs.Option.{option_map_or}
use Rattle.std.specs.Prelude.{◌==◌, max, min, nat_lt, nat_le, if◌then◌else◌}
use Rattle.std.proofs.lemmas.Bool.{cond_both, cond-true, cond-false, and_parts, and_from, and_right, or_left, or_right, not-true, leb-false, lt-ltb, le-leb, false≢true, true≢false}
use Rattle.stun_endpoints.proofs.AddressesLemmas.{endpoint_is_itself}
use Rattle.turn_client_machine.specs.Clients.{Endpoint, is_endpoint, seconds, Setup, Kind, Allocate, Refresh, Permit, Bind, Request, Pending, Asking, Allocated, Task, Peer, State, is_allocated, is_active, Useless}
use Rattle.turn_client_machine.specs.Events.{Answer, Opened, Extended, Done, Challenged, polls, responds, Output, asks, nothing}
use Rattle.turn_client_machine.specs.Tasks.{again_task, is_due, is_expired, awaits, may_retry, may_send, request_now, sent_task, turned, turn_output}
use Rattle.turn_client_machine.specs.Responses.{changed_first, ends, opened, extended, answered, answered_any, answered_peer, granted, granted_by, given_up, challenged, awaits_of, deletes, is_long, is_useful, changed_each}
use Rattle.turn_client_machine.specs.Steps.{Step, keeps, at, kind_in, silent_in, turns, is_due_of, kind_of, turned_of, turns_peer, polled, step, is_next, is_free, own_task, joined, is_single, others_at, most_others, takes_along, is_fit}
use Rattle.turn_client_machine.specs.Strangers.{is_unknown}
use Rattle.turn_client_machine.specs.Renewing.{IsTurn, new_request, IsGood, is_renewed, is_turn}
use Rattle.turn_client_machine.proofs.JoiningLemmas.{own_pending, fit_parts}
use Rattle.turn_client_machine.proofs.NumbersLemmas.{joined_keeps}
use Rattle.turn_client_machine.proofs.ListsLemmas.{any_after, any_kept}

-- ---- What is asked

may_ask : (setup : Setup) (t : Task) → 0 < setup.most_sends → t.pending ≡ None → may_send setup t ≡ true
may_ask setup t some free = ap (λ (o : Option Pending). nat_lt (option_map_or (λ p. p.sends) o 0) setup.most_sends) free ∙ lt-ltb 0 setup.most_sends some

-- the request is new
new_now : (state : State) (fresh : ℕ) (kind : Kind) (t : Task) → t.pending ≡ None → request_now state.clock fresh kind state.challenge t ≡ new_request state fresh kind
new_now state fresh kind t free = ap (λ (o : Option Pending). option_map_or (λ p. p.request) o (new_request state fresh kind)) free

task_asked : (setup : Setup) (fresh : ℕ) (kind : Kind) (state : State) (t : Task) → 0 < setup.most_sends → t.pending ≡ None → turned setup state.clock fresh kind state.challenge t ≡ sent_task setup state.clock (new_request state fresh kind) t
task_asked setup fresh kind state t some free =
    cond-true (may_send setup t) (sent_task setup state.clock (request_now state.clock fresh kind state.challenge t) t) (record t { due = t.deadline }) (may_ask setup t some free)
    ∙ ap (λ (r : Request). sent_task setup state.clock r t) (new_now state fresh kind t free)

pub output_asked : (setup : Setup) (fresh : ℕ) (kind : Kind) (state : State) (others : List Endpoint) (t : Task) → 0 < setup.most_sends → t.pending ≡ None → turn_output setup state.clock fresh kind state.challenge others t ≡ asks (new_request state fresh kind) others
output_asked setup fresh kind state others t some free =
    cond-true (may_send setup t) (asks (request_now state.clock fresh kind state.challenge t) others) nothing (may_ask setup t some free) ∙ ap (λ (r : Request). asks r others) (new_now state fresh kind t free)

-- ---- The allocation

pub main_asked : (setup : Setup) (fresh : ℕ) (state : State) → 0 < setup.most_sends → is_active state.phase ≡ true → IsTurn state.clock state.task
    → polled setup fresh state ≡ record { state = record state { task = sent_task setup state.clock (new_request state fresh (kind_in state.phase)) state.task }; output = asks (new_request state fresh (kind_in state.phase)) [] }
main_asked setup fresh state some active turn =
    cond-true (is_active state.phase && is_due state.clock state.task) (turns setup fresh state) _ (and_from (is_active state.phase) (is_due state.clock state.task) active turn.due)
    ∙ (cond-false (is_expired state.clock state.task) (keeps (ends (silent_in state.violated state.phase) state)) _ turn.fit
    ∙ (ap (λ (t : Task). record { state = record state { task = t }; output = turn_output setup state.clock fresh (kind_in state.phase) state.challenge [] state.task }) (task_asked setup fresh (kind_in state.phase) state state.task some turn.free)
    ∙ ap (λ (o : Output). record { state = record state { task = sent_task setup state.clock (new_request state fresh (kind_in state.phase)) state.task }; output = o }) (output_asked setup fresh (kind_in state.phase) state [] state.task some turn.free)))

-- a response from the server to the allocation's own request
pub main_answered : (setup : Setup) (fresh later other : ℕ) (answer : Answer) (state : State) (r : Request) → is_active state.phase ≡ true → r.id ≡ fresh
    → (step setup (record state { task = sent_task setup state.clock r state.task }) later other (responds setup.server fresh true answer)).state ≡ answered setup true answer (at later (record state { task = sent_task setup state.clock r state.task })) r
main_answered setup fresh later other answer state r active id =
    let st = at later (record state { task = sent_task setup state.clock r state.task }) in
    cond-true (is_endpoint setup.server setup.server && is_active state.phase) (answered_any setup fresh true answer st) st (and_from (is_endpoint setup.server setup.server) (is_active state.phase) (endpoint_is_itself setup.server) active)
    ∙ cond-true (r.id == fresh) (answered setup true answer st r) _ (eq-eqb r.id fresh id)

pub refreshed : (setup : Setup) (state : State) (now fresh later other lifetime : ℕ) → 0 < setup.most_sends → state.phase ≡ Allocated → IsTurn (at now state).clock state.task → 80 ≤ lifetime
    → ((step setup state now fresh polls).output ≡ asks (new_request (at now state) fresh Refresh) [])
    × IsGood (at now state).clock lifetime (step setup (step setup state now fresh polls).state later other (responds setup.server fresh true (Extended lifetime))).state
refreshed setup state now fresh later other lifetime some phase turn useful =
    let st = at now state in
    let r = new_request st fresh Refresh in
    let active : is_active st.phase ≡ true = ap is_active phase in
    let asked : polled setup fresh st ≡ record { state = record st { task = sent_task setup st.clock r st.task }; output = asks r [] }
    = main_asked setup fresh st some active turn ∙ ap (λ (k : Kind). record { state = record st { task = sent_task setup st.clock (new_request st fresh k) st.task }; output = asks (new_request st fresh k) [] }) (ap kind_in phase) in
    let after = at later (record st { task = sent_task setup st.clock r st.task }) in (
      ap (λ (s : Step). s.output) asked,
      subst (IsGood st.clock lifetime)
          (sym (ap (λ (s : Step). (step setup s.state later other (responds setup.server fresh true (Extended lifetime))).state) asked
          ∙ (main_answered setup fresh later other (Extended lifetime) st r active refl
          ∙ cond-true (is_long lifetime) (extended r lifetime after) (deletes Useless after) (le-leb 80 lifetime useful))))
          (record { allocation = ap is_allocated phase; expires_at = refl; due = refl; free = refl }),
    )

pub begun : (setup : Setup) (state : State) (now fresh later other lifetime : ℕ) (relayed mapped : Endpoint) → 0 < setup.most_sends → state.phase ≡ Asking → IsTurn (at now state).clock state.task → 80 ≤ lifetime → relayed.ip.family ≡ setup.family
    → ((step setup state now fresh polls).output ≡ asks (new_request (at now state) fresh Allocate) [])
    × IsGood (at now state).clock lifetime (step setup (step setup state now fresh polls).state later other (responds setup.server fresh true (Opened relayed mapped lifetime))).state
begun setup state now fresh later other lifetime relayed mapped some phase turn useful family =
    let st = at now state in
    let r = new_request st fresh Allocate in
    let active : is_active st.phase ≡ true = ap is_active phase in
    let asked : polled setup fresh st ≡ record { state = record st { task = sent_task setup st.clock r st.task }; output = asks r [] }
    = main_asked setup fresh st some active turn ∙ ap (λ (k : Kind). record { state = record st { task = sent_task setup st.clock (new_request st fresh k) st.task }; output = asks (new_request st fresh k) [] }) (ap kind_in phase) in
    let after = at later (record st { task = sent_task setup st.clock r st.task }) in (
      ap (λ (s : Step). s.output) asked,
      subst (IsGood st.clock lifetime)
          (sym (ap (λ (s : Step). (step setup s.state later other (responds setup.server fresh true (Opened relayed mapped lifetime))).state) asked
          ∙ (main_answered setup fresh later other (Opened relayed mapped lifetime) st r active refl
          ∙ cond-true (is_useful setup relayed lifetime) (opened r relayed mapped lifetime after) (deletes Useless after) (and_from (is_long lifetime) (relayed.ip.family == setup.family) (le-leb 80 lifetime useful) (eq-eqb relayed.ip.family setup.family family)))))
          (record { allocation = refl; expires_at = refl; due = refl; free = refl }),
    )

-- ---- A peer

-- the peer, after a request for it was sent
abbrev pub Asked : (along : Bool) → Setup → State → (fresh : ℕ) → Peer → Peer
Asked along setup state fresh p = record p { task = sent_task setup state.clock (new_request state fresh (kind_of p)) p.task; shared = along }

pub own_same : (p : Peer) → p.task.pending ≡ None → own_task p ≡ p.task
own_same p free = ap (λ (o : Option Pending). record p.task { pending = o }) (own_pending (λ o. o ≡ None) p refl free ∙ sym free)

pub peer_asked : (along : Bool) (setup : Setup) (state : State) (fresh : ℕ) (p : Peer) → 0 < setup.most_sends → is_expired state.clock p.task ≡ false → p.task.pending ≡ None → turned_of along setup state.clock fresh state.challenge p ≡ Asked along setup state fresh p
peer_asked along setup state fresh p some fit free =
    cond-false (is_expired state.clock p.task) _ (record p { task = turned setup state.clock fresh (kind_of p) state.challenge (own_task p); shared = along }) fit
    ∙ (ap (λ (t : Task). record p { task = turned setup state.clock fresh (kind_of p) state.challenge t; shared = along }) (own_same p free)
    ∙ ap (λ (t : Task). record p { task = t; shared = along }) (task_asked setup fresh (kind_of p) state p.task some free))

renewed_by : (along : Bool) (state : State) (fresh : ℕ) (p : Peer) (t : Task) → p.over ≡ false → is_renewed state.clock p.wants p.address (granted_by (new_request state fresh (kind_of p)) (kind_of p) (record p { task = t; shared = along })) ≡ true
renewed_by along state fresh p t on =
    let due : max (state.clock + seconds 300 - seconds 60) (state.clock + seconds 150) ≡ state.clock + seconds 240 = omega arith in
    let here = endpoint_is_itself p.address in
    let same = eq-eqb (state.clock + seconds 300) (state.clock + seconds 300) refl in
    let soon = eq-eqb (max (state.clock + seconds 300 - seconds 60) (state.clock + seconds 150)) (state.clock + seconds 240) due in
    let bound = eq-eqb (state.clock + seconds 600) (state.clock + seconds 600) refl in
    let alive : not p.over ≡ true = ap not on in
    let wants = p.wants in
    cond_both p.wants (Bind p.number p.address) (Permit p.address) (λ (k : Kind). is_renewed state.clock p.wants p.address (granted_by (new_request state fresh k) k (record p { task = t; shared = along })) ≡ true)
    (λ yes. and_from (is_endpoint p.address p.address) _ here (and_from (not p.over) _ alive (and_from (state.clock + seconds 300 == state.clock + seconds 300) _ same (and_from (max (state.clock + seconds 300 - seconds 60) (state.clock + seconds 150) == state.clock + seconds 240) _ soon
    (or_right (not p.wants) (state.clock + seconds 600 == state.clock + seconds 600) bound)))))
    (λ no. and_from (is_endpoint p.address p.address) _ here (and_from (not p.over) _ alive (and_from (state.clock + seconds 300 == state.clock + seconds 300) _ same (and_from (max (state.clock + seconds 300 - seconds 60) (state.clock + seconds 150) == state.clock + seconds 240) _ soon
    (or_left (not p.wants) (p.channel_expires_at == state.clock + seconds 600) (ap not no))))))

pub any_first : {X : Type 0} (test good : X → Bool) (change : X → X) (x : X) → good (change x) ≡ true → (xs : List X) → find test xs ≡ Some x → list_any good (changed_first test change xs) ≡ true
any_first test good change x is [] found = absurd cc
any_first test good change x is (y ∷ ys) found = cond_both (test y) (Some y) (find test ys) (λ o. o ≡ Some x → list_any good (changed_first test change (y ∷ ys)) ≡ true)
    (λ yes e. let same : y ≡ x = cc in
    subst (λ zs. list_any good zs ≡ true) (sym (cond-true (test y) (change y ∷ ys) (y ∷ changed_first test change ys) yes))
    (or_left (good (change y)) (list_any good ys) (subst (λ z. good (change z) ≡ true) (sym same) is)))
    (λ no e. subst (λ zs. list_any good zs ≡ true) (sym (cond-false (test y) (change y ∷ ys) (y ∷ changed_first test change ys) no))
    (or_right (good y) (list_any good (changed_first test change ys)) (any_first test good change x is ys e)))
    found

found_is : {X : Type 0} (test : X → Bool) (x : X) (xs : List X) → find test xs ≡ Some x → test x ≡ true
found_is test x [] found = absurd cc
found_is test x (y ∷ ys) found = cond_both (test y) (Some y) (find test ys) (λ o. o ≡ Some x → test x ≡ true)
    (λ yes e. let same : y ≡ x = cc in subst (λ z. test z ≡ true) same yes) (λ _ e. found_is test x ys e) found

-- among the peers, the one that is due
pub record Renews (along : Bool) (setup : Setup) (state : State) (fresh : ℕ) (free : Bool) (p : Peer) (ps : List Peer) : Type 0 where
  pub awaited : list_any (awaits_of fresh) (joined setup state.clock fresh state.challenge (most_others setup along) (changed_first (is_next free state.clock) (turned_of along setup state.clock fresh state.challenge) ps)) ≡ true
  pub renewed : list_any (is_renewed state.clock p.wants p.address) (changed_each (awaits_of fresh) granted (joined setup state.clock fresh state.challenge (most_others setup along) (changed_first (is_next free state.clock) (turned_of along setup state.clock fresh state.challenge) ps))) ≡ true

awaited_busy : (fresh : ℕ) (o : Option Pending) → option_map_or (λ (q : Pending). q.request.id == fresh) o false ≡ true → is_some o ≡ true
awaited_busy fresh None is = absurd (false≢true is)
awaited_busy fresh (Some q) is = refl

pub one_renews : (along : Bool) (setup : Setup) (state : State) (fresh : ℕ) (free : Bool) (p : Peer) (ps : List Peer) → 0 < setup.most_sends → is_expired state.clock p.task ≡ false → p.task.pending ≡ None → find (is_next free state.clock) ps ≡ Some p → Renews along setup state fresh free p ps
one_renews along setup state fresh free p ps some fit idle found_it =
    let turn = turned_of along setup state.clock fresh state.challenge in
    let renews = is_renewed state.clock p.wants p.address in
    let good : Peer → Bool = λ q. awaits_of fresh q && renews (granted q) in
    let next : is_next free state.clock p ≡ true = found_is (is_next free state.clock) p ps found_it in
    let on = not-true p.over (and_parts (not p.over) (is_due state.clock p.task) (and_parts (free || (is_single p || is_expired state.clock p.task)) (is_due_of state.clock p) next).1).0 in
    let asked : good (turn p) ≡ true = subst (λ (q : Peer). good q ≡ true) (sym (peer_asked along setup state fresh p some fit idle))
    (and_from (fresh == fresh) (renews (granted (Asked along setup state fresh p))) (eq-eqb fresh fresh refl) (renewed_by along state fresh p (sent_task setup state.clock (new_request state fresh (kind_of p)) p.task) on)) in
    let first : list_any good (changed_first (is_next free state.clock) turn ps) ≡ true = any_first (is_next free state.clock) good turn p asked ps found_it in
    let last = joined_keeps (λ qs. list_any good qs ≡ true) setup state.clock fresh state.challenge
    (λ qs. any_kept (is_fit state.clock) good (turned_of true setup state.clock fresh state.challenge)
    (λ q is fits. true≢false (sym (awaited_busy fresh q.task.pending (and_parts (awaits_of fresh q) (renews (granted q)) is).0) ∙ (fit_parts state.clock q fits).free)) qs) (most_others setup along) (changed_first (is_next free state.clock) turn ps) first in
    let both = any_after (awaits_of fresh) renews granted (joined setup state.clock fresh state.challenge (most_others setup along) (changed_first (is_next free state.clock) turn ps)) last in
    record { awaited = both.0; renewed = both.1 }

pub permitted : (setup : Setup) (state : State) (now fresh later other : ℕ) (p : Peer) → 0 < setup.most_sends → state.phase ≡ Allocated → is_due (at now state).clock state.task ≡ false → find (is_next (is_free state.peers) (at now state).clock) state.peers ≡ Some p
    → IsTurn (at now state).clock p.task → is_unknown fresh state ≡ true
    → ((step setup state now fresh polls).output ≡ asks (new_request (at now state) fresh (kind_of p)) (others_at setup fresh (is_free state.peers) (takes_along setup (at now state).clock state.peers p) (at now state)))
    × (list_any (is_renewed (at now state).clock p.wants p.address) (step setup (step setup state now fresh polls).state later other (responds setup.server fresh true Done)).state.peers ≡ true)
permitted setup state now fresh later other p some phase idle found turn unknown =
    let st = at now state in
    let ids = and_parts (not (awaits fresh state.task)) (not (list_any (awaits_of fresh) state.peers)) unknown in
    let along = takes_along setup st.clock st.peers p in
    let one = one_renews along setup st fresh (is_free st.peers) p st.peers some turn.fit turn.free found in
    let active : is_active st.phase ≡ true = ap is_active phase in
    let there : is_allocated st.phase ≡ true = ap is_allocated phase in
    let asked : polled setup fresh st ≡ turns_peer setup fresh (is_free st.peers) st p
    = cond-false (is_active st.phase && is_due st.clock st.task) (turns setup fresh st) _ (and_right (is_active st.phase) (is_due st.clock st.task) idle)
    ∙ (cond-true (is_allocated st.phase) _ (keeps st) there ∙ ap (λ (o : Option Peer). option_map_or (turns_peer setup fresh (is_free st.peers) st) o (keeps st)) found) in
    let after = at later (turns_peer setup fresh (is_free st.peers) st p).state in (
      ap (λ (s : Step). s.output) asked ∙ (cond-false (is_expired st.clock p.task) nothing (turn_output setup st.clock fresh (kind_of p) st.challenge (others_at setup fresh (is_free st.peers) along st) (own_task p)) turn.fit
          ∙ (ap (λ (t : Task). turn_output setup st.clock fresh (kind_of p) st.challenge (others_at setup fresh (is_free st.peers) along st) t) (own_same p turn.free) ∙ output_asked setup fresh (kind_of p) st (others_at setup fresh (is_free st.peers) along st) p.task some turn.free)),
      subst (λ (s : State). list_any (is_renewed st.clock p.wants p.address) s.peers ≡ true)
          (sym (ap (λ (s : Step). (step setup s.state later other (responds setup.server fresh true Done)).state) asked
          ∙ (cond-true (is_endpoint setup.server setup.server && is_active st.phase) (answered_any setup fresh true Done after) after (and_from (is_endpoint setup.server setup.server) (is_active st.phase) (endpoint_is_itself setup.server) active)
          ∙ (cond-false (awaits fresh st.task) _ _ (not-true (awaits fresh st.task) ids.0)
          ∙ cond-true (is_allocated st.phase && list_any (awaits_of fresh) after.peers) (answered_peer setup fresh true Done after) after (and_from (is_allocated st.phase) (list_any (awaits_of fresh) after.peers) there one.awaited)))))
          one.renewed,
    )

-- ---- Other credentials

pub asked_again : (setup : Setup) (state : State) (now fresh id code challenge : ℕ) (authentic : Bool) (q : Pending) → is_active state.phase ≡ true → state.task.pending ≡ Some q → q.request.id ≡ id → may_retry setup state.challenge code state.task ≡ true
    → is_expired (at now state).clock state.task ≡ false
    → let after = (step setup state now fresh (responds setup.server id authentic (Challenged code challenge))).state in
    (after.challenge ≡ Some challenge) × (after.phase ≡ state.phase) × IsTurn (at now state).clock after.task
asked_again setup state now fresh id code challenge authentic q active pending is may fit =
    let st = at now state in
    let late = leb-false st.task.deadline st.clock fit in
    let it : (step setup state now fresh (responds setup.server id authentic (Challenged code challenge))).state ≡ record st { challenge = Some challenge; task = again_task st.clock st.task; violated = false }
    = cond-true (is_endpoint setup.server setup.server && is_active st.phase) (answered_any setup id authentic (Challenged code challenge) st) st (and_from (is_endpoint setup.server setup.server) (is_active st.phase) (endpoint_is_itself setup.server) active)
    ∙ (cond-true (awaits id st.task) _ _ (ap (λ (o : Option Pending). option_map_or (λ p. p.request.id == id) o false) pending ∙ eq-eqb q.request.id id is)
    ∙ (ap (λ (o : Option Pending). option_map_or (λ p. answered setup authentic (Challenged code challenge) st p.request) o st) pending
    ∙ cond-true (may_retry setup st.challenge code st.task) (record st { challenge = Some challenge; task = again_task st.clock st.task; violated = false }) _ may)) in
    subst (λ (s : State). (s.challenge ≡ Some challenge) × (s.phase ≡ state.phase) × IsTurn st.clock s.task) (sym it)
    (refl, refl, record { due = le-leb (min st.task.deadline st.clock) st.clock (omega arith); fit = fit; free = refl })

pub any_first_each : {X : Type 0} (test good : X → Bool) (change : X → X) (x : X) → good (change x) ≡ true → (xs : List X) → find test xs ≡ Some x → list_any good (changed_each test change xs) ≡ true
any_first_each test good change x is [] found = absurd cc
any_first_each test good change x is (y ∷ ys) found = cond_both (test y) (Some y) (find test ys) (λ o. o ≡ Some x → list_any good (changed_each test change (y ∷ ys)) ≡ true)
    (λ yes e. let same : y ≡ x = cc in
    or_left (good (if test y then change y else y)) (list_any good (changed_each test change ys)) (subst (λ z. good z ≡ true) (sym (cond-true (test y) (change y) y yes)) (subst (λ z. good (change z) ≡ true) (sym same) is)))
    (λ no e. or_right (good (if test y then change y else y)) (list_any good (changed_each test change ys)) (any_first_each test good change x is ys e))
    found

pub found_any : {X : Type 0} (test : X → Bool) (x : X) (xs : List X) → find test xs ≡ Some x → list_any test xs ≡ true
found_any test x [] found = absurd cc
found_any test x (y ∷ ys) found = cond_both (test y) (Some y) (find test ys) (λ o. o ≡ Some x → list_any test (y ∷ ys) ≡ true)
    (λ yes _. or_left (test y) (list_any test ys) yes) (λ _ e. or_right (test y) (list_any test ys) (found_any test x ys e)) found

turn_again : (setup : Setup) (challenge : Option ℕ) (clock code : ℕ) (p : Peer) → p.over ≡ false → may_retry setup challenge code p.task ≡ true → is_expired clock p.task ≡ false → is_turn clock p.address (challenged setup challenge clock code p) ≡ true
turn_again setup challenge clock code p on may fit =
    let late = leb-false p.task.deadline clock fit in
    subst (λ (q : Peer). is_turn clock p.address q ≡ true) (sym (cond-true (may_retry setup challenge code p.task) (record p { task = again_task clock p.task; violated = false; shared = false }) (given_up code p) may))
    (and_from (is_endpoint p.address p.address) _ (endpoint_is_itself p.address) (and_from (not p.over) _ (ap not on) (and_from (nat_le (min p.task.deadline clock) clock) _ (le-leb (min p.task.deadline clock) clock (omega arith)) (and_from (not (is_expired clock p.task)) true (ap not fit) refl))))

pub peer_again : (setup : Setup) (state : State) (now fresh id code challenge : ℕ) (authentic : Bool) (p : Peer) → state.phase ≡ Allocated → awaits id state.task ≡ false → find (awaits_of id) state.peers ≡ Some p → p.over ≡ false
    → may_retry setup state.challenge code p.task ≡ true → is_expired (at now state).clock p.task ≡ false
    → let after = (step setup state now fresh (responds setup.server id authentic (Challenged code challenge))).state in
    (after.challenge ≡ Some challenge) × (list_any (is_turn (at now state).clock p.address) after.peers ≡ true)
peer_again setup state now fresh id code challenge authentic p phase other found on may fit =
    let st = at now state in
    let there : is_allocated st.phase ≡ true = ap is_allocated phase in
    let active : is_active st.phase ≡ true = ap is_active phase in
    let it : (step setup state now fresh (responds setup.server id authentic (Challenged code challenge))).state ≡ answered_peer setup id authentic (Challenged code challenge) st
    = cond-true (is_endpoint setup.server setup.server && is_active st.phase) (answered_any setup id authentic (Challenged code challenge) st) st (and_from (is_endpoint setup.server setup.server) (is_active st.phase) (endpoint_is_itself setup.server) active)
    ∙ (cond-false (awaits id st.task) _ _ other
    ∙ cond-true (is_allocated st.phase && list_any (awaits_of id) st.peers) (answered_peer setup id authentic (Challenged code challenge) st) st (and_from (is_allocated st.phase) (list_any (awaits_of id) st.peers) there (found_any (awaits_of id) p st.peers found))) in
    subst (λ (s : State). (s.challenge ≡ Some challenge) × (list_any (is_turn st.clock p.address) s.peers ≡ true)) (sym it)
    (refl, any_first_each (awaits_of id) (is_turn st.clock p.address) (challenged setup st.challenge st.clock code) p (turn_again setup st.challenge st.clock code p on may fit) st.peers found)
