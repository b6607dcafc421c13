-- Each poll does what is due; and why an allocation ends.
use Rattle.std.proofs.Common.{ltb-false, ◌≡◌, ℕ, ◌+◌, ◌<◌, ◌≤◌, inl, inr, ◌⊎◌, Bool, true, false, cond, not, ◌&&◌, ◌||◌, List, [], ◌∷◌, Option, None, Some, refl, sym, ap, subst, ◌∙◌, arith, find, leb-true}
use mathlib.Core.Logic.{⊎_elim}
use Rattle.std.specs.List.{AllByRecursion, list_any}
use Rattle.std.specs.Option.{option_map_or}
use Rattle.std.specs.Prelude.{nat_le, max, min, if◌then◌else◌, ◌==◌}
use Rattle.std.proofs.lemmas.Bool.{cond_both, cond-true, cond-false, and_parts, and_from, and_right, leb-false, false_from_ne_true, cases_Bool, true≢false, or_left, or_right}
use Rattle.turn_client_machine.specs.Clients.{Endpoint, is_endpoint, Setup, Kind, Request, Pending, Phase, Quiet, Asking, Allocated, Closing, Ended, Task, Peer, State, is_allocated, is_active, Refresh, Delete, Allocate, Permit, Bind, Useless, Rejected}
use Rattle.turn_client_machine.specs.Events.{Answer, Opened, Extended, Done, Refused, Challenged, Redirected, Violated, Event, allocates, permits, binds, drops, sends, closes, responds, gives, gives_on, strays, polls}
use Rattle.turn_client_machine.specs.Tasks.{is_due, is_expired, awaits, may_send, sends_so_far, turned, may_retry}
use Rattle.turn_client_machine.specs.Responses.{changed_first, answered, answered_peer, awaits_of, responded, is_allocate, is_delete, deletes, is_long, is_useful, opened, extended, extended_by, ends, with_peers, turned_down}
use Rattle.turn_client_machine.specs.Steps.{Step, keeps, at, begins, kind_in, is_due_of, kind_of, turned_of, turns_peer, polled, step, is_next, is_free, is_fit, counted, is_single, own_task, takes_along, turned_first, joined, most_others}
use Rattle.turn_client_machine.specs.Lasting.{IsInTime, is_bad, IsReason}
use Rattle.turn_client_machine.specs.Working.{dues}
use Rattle.turn_client_machine.proofs.NumbersLemmas.{joined_keeps}
use Rattle.turn_client_machine.proofs.AtOnceLemmas.{count_calm}

-- ---- What was turned isn't due

not_due : (clock due : ℕ) → clock < due → nat_le due clock ≡ false
not_due clock due less = false_from_ne_true (nat_le due clock) (λ is. let le = leb-true due clock is in omega (arith, less, le))

turned_not_due : (setup : Setup) (clock fresh : ℕ) (kind : Kind) (challenge : Option ℕ) (t : Task) → is_expired clock t ≡ false → is_due clock (turned setup clock fresh kind challenge t) ≡ false
turned_not_due setup clock fresh kind challenge t fit =
    let late = leb-false t.deadline clock fit in
    cond_both (may_send setup t) _ _ (λ (s : Task). is_due clock s ≡ false)
    (λ _. not_due clock (min t.deadline (clock + 1 + setup.wait (sends_so_far t + 1))) (omega (arith, late)))
    (λ _. not_due clock t.deadline (omega (arith, late)))

pub turned_of_not_due : (along : Bool) (setup : Setup) (clock fresh : ℕ) (challenge : Option ℕ) (p : Peer) → is_due_of clock (turned_of along setup clock fresh challenge p) ≡ false
turned_of_not_due along setup clock fresh challenge p = cond_both (is_expired clock p.task) _ _ (λ (q : Peer). is_due_of clock q ≡ false) (λ _. refl)
    (λ fit. and_right (not p.over) _ (turned_not_due setup clock fresh (kind_of p) challenge (own_task p) fit))

-- ---- Counting

pub count_none : {X : Type 0} (test : X → Bool) (xs : List X) → find test xs ≡ None → counted test xs ≡ 0
count_none test [] is = refl
count_none test (x ∷ xs) is = ⊎_elim
    (λ here. let some : find test (x ∷ xs) ≡ Some x = cond-true (test x) (Some x) (find test xs) here in absurd cc)
    (λ no. subst (λ (b : Bool). cond b (1 + counted test xs) (counted test xs) ≡ 0) (sym no) (count_none test xs (sym (cond-false (test x) (Some x) (find test xs) no) ∙ is)))
    (cases_Bool (test x))

-- one that passed a test, and is next, doesn't pass it afterwards
pub count_changed : {X : Type 0} (test next : X → Bool) (change : X → X) → ((x : X) → next x ≡ true → test x ≡ true) → ((x : X) → test (change x) ≡ false) → (xs : List X) → (y : X) → find next xs ≡ Some y → counted test (changed_first next change xs) < counted test xs
count_changed test next change on off [] y is = absurd cc
count_changed test next change on off (x ∷ xs) y is = cond_both (next x) (change x ∷ xs) (x ∷ changed_first next change xs) (λ ys. counted test ys < counted test (x ∷ xs))
    (λ here. let one : counted test (x ∷ xs) ≡ 1 + counted test xs = cond-true (test x) (1 + (counted test xs)) (counted test xs) (on x here) in
    let none : counted test (change x ∷ xs) ≡ counted test xs = cond-false (test (change x)) (1 + (counted test xs)) (counted test xs) (off x) in
    omega (arith, one, none))
    (λ no. let more = count_changed test next change on off xs y (sym (cond-false (next x) (Some x) (find next xs) no) ∙ is) in
    let rest = changed_first next change xs in
    ⊎_elim
    (λ passes. let one : counted test (x ∷ xs) ≡ 1 + counted test xs = cond-true (test x) (1 + (counted test xs)) (counted test xs) passes in
    let two : counted test (x ∷ rest) ≡ 1 + counted test rest = cond-true (test x) (1 + (counted test rest)) (counted test rest) passes in
    omega (arith, more, one, two))
    (λ fails. let one : counted test (x ∷ xs) ≡ counted test xs = cond-false (test x) (1 + (counted test xs)) (counted test xs) fails in
    let two : counted test (x ∷ rest) ≡ counted test rest = cond-false (test x) (1 + (counted test rest)) (counted test rest) fails in
    omega (arith, more, one, two))
    (cases_Bool (test x)))

-- ---- Fewer things are due

abbrev main_due : State → ℕ
main_due state = if is_active state.phase && is_due state.clock state.task then 1 else 0

abbrev peers_due : State → ℕ
peers_due state = if is_allocated state.phase then counted (is_due_of state.clock) state.peers else 0

abbrev IsFewer : State → State → Type 0
IsFewer after state = (dues after < dues state) ⊎ ((dues state ≡ 0) ⊎ (8 ≤ counted is_single state.peers))

-- nothing is next: nothing is due, or eight requests for single peers are under way
nothing_next : (state : State) (free : Bool) → is_free state.peers ≡ free → find (is_next free state.clock) state.peers ≡ None → main_due state ≡ 0 → peers_due state ≡ counted (is_due_of state.clock) state.peers
    → (dues state ≡ 0) ⊎ (8 ≤ counted is_single state.peers)
nothing_next state true free is none count = inl (let zero_of = count_none (is_due_of state.clock) state.peers is in omega (arith, none, count, zero_of))
nothing_next state false free is none count = inr (ltb-false (counted is_single state.peers) 8 free)

found_fewer : (setup : Setup) (fresh : ℕ) (state : State) (o : Option Peer) → find (is_next (is_free state.peers) state.clock) state.peers ≡ o → main_due state ≡ 0 → peers_due state ≡ counted (is_due_of state.clock) state.peers
    → is_allocated state.phase ≡ true → IsFewer (option_map_or (turns_peer setup fresh (is_free state.peers) state) o (keeps state)).state state
found_fewer setup fresh state None is none count there = inr (nothing_next state (is_free state.peers) refl is none count)
found_fewer setup fresh state (Some p) is none count there =
    let along = takes_along setup state.clock state.peers p in
    let first = turned_first setup fresh (is_free state.peers) along state in
    let peers = joined setup state.clock fresh state.challenge (most_others setup along) first in
    let less_first : counted (is_due_of state.clock) first < counted (is_due_of state.clock) state.peers = count_changed (is_due_of state.clock) (is_next (is_free state.peers) state.clock) (turned_of along setup state.clock fresh state.challenge) (λ p next. (and_parts (is_free state.peers || (is_single p || is_expired state.clock p.task)) (is_due_of state.clock p) next).1) (turned_of_not_due along setup state.clock fresh state.challenge) state.peers p is in
    let less : counted (is_due_of state.clock) peers < counted (is_due_of state.clock) state.peers = joined_keeps (λ ps. counted (is_due_of state.clock) ps < counted (is_due_of state.clock) state.peers) setup state.clock fresh state.challenge
    (λ ps before. let le = count_calm (is_due_of state.clock) (is_fit state.clock) (turned_of true setup state.clock fresh state.challenge) (λ q _ due. absurd (true≢false (sym due ∙ turned_of_not_due true setup state.clock fresh state.challenge q))) ps in omega (arith, before, le)) (most_others setup along) first less_first in
    let count_after : peers_due (record state { peers = peers }) ≡ counted (is_due_of state.clock) peers = cond-true {A = ℕ} (is_allocated state.phase) (counted (is_due_of state.clock) peers) 0 there in
    inl (omega (arith, less, none, count, count_after))

fewer_at : (setup : Setup) (fresh : ℕ) (state : State) → IsFewer (polled setup fresh state).state state
fewer_at setup fresh state =
    cond_both (is_active state.phase && is_due state.clock state.task) _ _ (λ (s : Step). IsFewer s.state state)
    (λ due. let one : main_due state ≡ 1 = cond-true {A = ℕ} (is_active state.phase && is_due state.clock state.task) 1 0 due in
    cond_both (is_expired state.clock state.task) _ _ (λ (s : Step). IsFewer s.state state)
    (λ _. inl (omega (arith, one)))
    (λ fit. let none : main_due (record state { task = turned setup state.clock fresh (kind_in state.phase) state.challenge state.task }) ≡ 0
    = cond-false {A = ℕ} (is_active state.phase && is_due state.clock (turned setup state.clock fresh (kind_in state.phase) state.challenge state.task)) 1 0
    (and_right (is_active state.phase) _ (turned_not_due setup state.clock fresh (kind_in state.phase) state.challenge state.task fit)) in
    inl (omega (arith, one, none))))
    (λ no. let none : main_due state ≡ 0 = cond-false {A = ℕ} (is_active state.phase && is_due state.clock state.task) 1 0 no in
    cond_both (is_allocated state.phase) _ _ (λ (s : Step). IsFewer s.state state)
    (λ there. found_fewer setup fresh state (find (is_next (is_free state.peers) state.clock) state.peers) refl none (cond-true {A = ℕ} (is_allocated state.phase) (counted (is_due_of state.clock) state.peers) 0 there) there)
    (λ away. inr (inl (let peers : peers_due state ≡ 0 = cond-false {A = ℕ} (is_allocated state.phase) (counted (is_due_of state.clock) state.peers) 0 away in omega (arith, none, peers)))))

pub polls_fewer : (setup : Setup) (state : State) (now fresh : ℕ) → IsFewer (step setup state now fresh polls).state (at now state)
polls_fewer setup state now fresh = fewer_at setup fresh (at now state)

-- ---- What was polled is in time

pub none_counted : {X : Type 0} (test : X → Bool) (xs : List X) → counted test xs ≡ 0 → AllByRecursion (λ x. test x ≡ false) xs
none_counted test [] is = tt
none_counted test (x ∷ xs) is = ⊎_elim
    (λ here. let one : counted test (x ∷ xs) ≡ 1 + counted test xs = cond-true (test x) (1 + counted test xs) (counted test xs) here in absurd (omega (arith, one, is)))
    (λ no. (no, none_counted test xs (sym (cond-false (test x) (1 + counted test xs) (counted test xs) no) ∙ is)))
    (cases_Bool (test x))

late_by : (clock late later : ℕ) (p : Peer) → later ≤ clock + late → is_due_of clock p ≡ false → p.over ≡ false → max clock later ≤ p.task.due + late
late_by clock late later p soon isnt on =
    let after = leb-false p.task.due clock (sym (ap (λ (b : Bool). not b && is_due clock p.task) on) ∙ isnt) in
    omega (arith, after, soon)

all_late_by : (clock late later : ℕ) (ps : List Peer) → later ≤ clock + late → AllByRecursion (λ (p : Peer). is_due_of clock p ≡ false) ps → AllByRecursion (λ (p : Peer). p.over ≡ false → max clock later ≤ p.task.due + late) ps
all_late_by clock late later [] soon each = tt
all_late_by clock late later (p ∷ ps) soon each = (late_by clock late later p soon each.0, all_late_by clock late later ps soon each.1)

pub is_active_there : (phase : Phase) → is_allocated phase ≡ true → is_active phase ≡ true
is_active_there Quiet there = absurd cc
is_active_there Asking there = absurd cc
is_active_there Allocated there = refl
is_active_there (Closing why) there = absurd cc
is_active_there (Ended why) there = absurd cc

pub polled_in_time : (state : State) (late later : ℕ) → is_allocated state.phase ≡ true → dues state ≡ 0 → later ≤ state.clock + late → IsInTime late (at later state)
polled_in_time state late later there none soon =
    let main : main_due state ≡ 0 = omega (arith, none) in
    let rest : peers_due state ≡ 0 = omega (arith, none) in
    let counts : peers_due state ≡ counted (is_due_of state.clock) state.peers = cond-true {A = ℕ} (is_allocated state.phase) (counted (is_due_of state.clock) state.peers) 0 there in
    let idle : is_due state.clock state.task ≡ false = ⊎_elim
    (λ here. let one : main_due state ≡ 1 = cond-true {A = ℕ} (is_active state.phase && is_due state.clock state.task) 1 0 (and_from (is_active state.phase) (is_due state.clock state.task) (is_active_there state.phase there) here) in absurd (omega (arith, one, main)))
    (λ no. no) (cases_Bool (is_due state.clock state.task)) in
    let after = leb-false state.task.due state.clock idle in
    record {
      allocation = omega (arith, after, soon);
      peers = all_late_by state.clock late later state.peers soon (none_counted (is_due_of state.clock) state.peers (sym counts ∙ rest));
    }

-- ---- Why it ends

there_not : {P : Type 0} (b : Bool) → b ≡ true → b ≡ false → P
there_not b is isnt = absurd (true≢false (sym is ∙ isnt))

peer_reason : (setup : Setup) (id : ℕ) (authentic : Bool) (answer : Answer) (state : State) → is_allocated state.phase ≡ true → is_allocated (answered_peer setup id authentic answer state).phase ≡ false → is_bad setup state id authentic answer ≡ true
peer_reason setup id authentic (Opened relayed mapped lifetime) state there gone = there_not (is_allocated state.phase) there gone
peer_reason setup id authentic (Extended lifetime) state there gone = there_not (is_allocated state.phase) there gone
peer_reason setup id true Done state there gone = there_not (is_allocated state.phase) there gone
peer_reason setup id false Done state there gone = there_not (is_allocated state.phase) there gone
peer_reason setup id true (Refused code) state there gone =
    cond_both (code == 437) (ends (Rejected 437) state) (with_peers id (turned_down state.clock code) state) (λ (s : State). is_allocated s.phase ≡ false → (awaits id state.task || (code == 437)) ≡ true)
    (λ is _. or_right (awaits id state.task) (code == 437) is) (λ _ gone. there_not (is_allocated state.phase) there gone) gone
peer_reason setup id false (Refused code) state there gone = there_not (is_allocated state.phase) there gone
peer_reason setup id authentic (Challenged code challenge) state there gone = there_not (is_allocated state.phase) there gone
peer_reason setup id authentic (Redirected server) state there gone = there_not (is_allocated state.phase) there gone
peer_reason setup id authentic Violated state there gone = there_not (is_allocated state.phase) there gone

-- a Refresh request that is granted ends nothing, unless its lifetime is of no use
lasts_reason : (setup : Setup) (lifetime : ℕ) (state : State) (r : Request) (kind : Kind) → is_delete kind ≡ false → is_allocated state.phase ≡ true → is_allocated (extended_by kind r lifetime state).phase ≡ false → not (is_long lifetime) ≡ true
lasts_reason setup lifetime state r Allocate kept there gone = there_not (is_allocated state.phase) there gone
lasts_reason setup lifetime state r Refresh kept there gone =
    cond_both (is_long lifetime) (extended r lifetime state) (deletes Useless state) (λ (s : State). is_allocated s.phase ≡ false → not (is_long lifetime) ≡ true)
    (λ _ gone. there_not (is_allocated state.phase) there gone) (λ isnt _. ap not isnt) gone
lasts_reason setup lifetime state r Delete kept there gone = absurd cc
lasts_reason setup lifetime state r (Permit peer) kept there gone = there_not (is_allocated state.phase) there gone
lasts_reason setup lifetime state r (Bind number peer) kept there gone = there_not (is_allocated state.phase) there gone

task_reason : (setup : Setup) (id : ℕ) (authentic : Bool) (answer : Answer) (state : State) (r : Request) → awaits id state.task ≡ true → is_delete r.kind ≡ false → is_allocated state.phase ≡ true → is_allocated (answered setup authentic answer state r).phase ≡ false → is_bad setup state id authentic answer ≡ true
task_reason setup id true (Opened relayed mapped lifetime) state r awaited kept there gone =
    cond_both (is_allocate r.kind) _ state (λ (s : State). is_allocated s.phase ≡ false → not (is_useful setup relayed lifetime) ≡ true)
    (λ _. cond_both (is_useful setup relayed lifetime) (opened r relayed mapped lifetime state) (deletes Useless state) (λ (s : State). is_allocated s.phase ≡ false → not (is_useful setup relayed lifetime) ≡ true)
    (λ _ gone. absurd (true≢false gone)) (λ isnt _. ap not isnt))
    (λ _ gone. there_not (is_allocated state.phase) there gone) gone
task_reason setup id false (Opened relayed mapped lifetime) state r awaited kept there gone = there_not (is_allocated state.phase) there gone
task_reason setup id true (Extended lifetime) state r awaited kept there gone = lasts_reason setup lifetime state r r.kind kept there gone
task_reason setup id false (Extended lifetime) state r awaited kept there gone = there_not (is_allocated state.phase) there gone
task_reason setup id authentic Done state r awaited kept there gone = there_not (is_allocated state.phase) there gone
task_reason setup id true (Refused code) state r awaited kept there gone = or_left (awaits id state.task) (code == 437) awaited
task_reason setup id false (Refused code) state r awaited kept there gone = there_not (is_allocated state.phase) there gone
task_reason setup id authentic (Challenged code challenge) state r awaited kept there gone =
    cond_both (may_retry setup state.challenge code state.task) _ (ends (Rejected code) state) (λ (s : State). is_allocated s.phase ≡ false → not (may_retry setup state.challenge code state.task) ≡ true)
    (λ _ gone. there_not (is_allocated state.phase) there gone) (λ isnt _. ap not isnt) gone
task_reason setup id true (Redirected server) state r awaited kept there gone = refl
task_reason setup id false (Redirected server) state r awaited kept there gone = there_not (is_allocated state.phase) there gone
task_reason setup id authentic Violated state r awaited kept there gone =
    cond_both setup.is_reliable _ (record state { violated = true }) (λ (s : State). is_allocated s.phase ≡ false → setup.is_reliable ≡ true)
    (λ is _. is) (λ _ gone. there_not (is_allocated state.phase) there gone) gone

-- the allocation's own request under way deletes it
abbrev pub deleting : Option Pending → Bool
deleting o = option_map_or (λ (q : Pending). is_delete q.request.kind) o false

any_reason : (setup : Setup) (id : ℕ) (authentic : Bool) (answer : Answer) (state : State) (o : Option Pending) → awaits id state.task ≡ true → deleting o ≡ false → is_allocated state.phase ≡ true
    → is_allocated (option_map_or (λ (q : Pending). answered setup authentic answer state q.request) o state).phase ≡ false → is_bad setup state id authentic answer ≡ true
any_reason setup id authentic answer state None awaited kept there gone = there_not (is_allocated state.phase) there gone
any_reason setup id authentic answer state (Some q) awaited kept there gone = task_reason setup id authentic answer state q.request awaited kept there gone

responds_reason : (setup : Setup) (from : Endpoint) (id : ℕ) (authentic : Bool) (answer : Answer) (state : State) → deleting state.task.pending ≡ false → is_allocated state.phase ≡ true → is_allocated (responded setup from id authentic answer state).phase ≡ false
    → (is_endpoint from setup.server ≡ true) × (is_bad setup state id authentic answer ≡ true)
responds_reason setup from id authentic answer state kept there =
    cond_both (is_endpoint from setup.server && is_active state.phase) _ _ (λ (s : State). is_allocated s.phase ≡ false → (is_endpoint from setup.server ≡ true) × (is_bad setup state id authentic answer ≡ true))
    (λ yes gone. (
      (and_parts (is_endpoint from setup.server) (is_active state.phase) yes).0,
      cond_both (awaits id state.task) _ _ (λ (s : State). is_allocated s.phase ≡ false → is_bad setup state id authentic answer ≡ true)
          (λ awaited. any_reason setup id authentic answer state state.task.pending awaited kept there)
          (λ _. cond_both (is_allocated state.phase && list_any (awaits_of id) state.peers) _ _ (λ (s : State). is_allocated s.phase ≡ false → is_bad setup state id authentic answer ≡ true)
          (λ _. peer_reason setup id authentic answer state there) (λ _ gone. there_not (is_allocated state.phase) there gone)) gone,
    ))
    (λ _ gone. there_not (is_allocated state.phase) there gone)

begins_stays : (phase : Phase) (state : State) → is_allocated phase ≡ true → is_allocated state.phase ≡ true → is_allocated (begins phase state).phase ≡ false → ⊥
begins_stays Quiet state one there gone = absurd cc
begins_stays Asking state one there gone = absurd cc
begins_stays Allocated state one there gone = there_not (is_allocated state.phase) there gone
begins_stays (Closing why) state one there gone = absurd cc
begins_stays (Ended why) state one there gone = absurd cc

peers_stay : (setup : Setup) (fresh : ℕ) (state : State) (o : Option Peer) → (option_map_or (turns_peer setup fresh (is_free state.peers) state) o (keeps state)).state.phase ≡ state.phase
peers_stay setup fresh state None = refl
peers_stay setup fresh state (Some p) = refl

polls_reason : (setup : Setup) (fresh : ℕ) (state : State) → is_allocated state.phase ≡ true → is_allocated (polled setup fresh state).state.phase ≡ false → is_expired state.clock state.task ≡ true
polls_reason setup fresh state there =
    cond_both (is_active state.phase && is_due state.clock state.task) _ _ (λ (s : Step). is_allocated s.state.phase ≡ false → is_expired state.clock state.task ≡ true)
    (λ _. cond_both (is_expired state.clock state.task) _ _ (λ (s : Step). is_allocated s.state.phase ≡ false → is_expired state.clock state.task ≡ true)
    (λ is _. is) (λ _ gone. there_not (is_allocated state.phase) there gone))
    (λ _. cond_both (is_allocated state.phase) _ _ (λ (s : Step). is_allocated s.state.phase ≡ false → is_expired state.clock state.task ≡ true)
    (λ _ gone. there_not (is_allocated state.phase) there (sym (ap is_allocated (peers_stay setup fresh state (find (is_next (is_free state.peers) state.clock) state.peers))) ∙ gone))
    (λ _ gone. there_not (is_allocated state.phase) there gone))

pub reasons : (setup : Setup) (state : State) (now fresh : ℕ) (event : Event) → deleting state.task.pending ≡ false → is_allocated state.phase ≡ true → is_allocated (step setup state now fresh event).state.phase ≡ false → IsReason setup (at now state) event
reasons setup state now fresh allocates kept there gone = begins_stays state.phase (at now state) there there gone
reasons setup state now fresh (permits peer) kept there gone = there_not (is_allocated state.phase) there gone
reasons setup state now fresh (binds peer) kept there gone = there_not (is_allocated state.phase) there gone
reasons setup state now fresh (drops peer) kept there gone = there_not (is_allocated state.phase) there gone
reasons setup state now fresh (sends peer bytes) kept there gone = there_not (is_allocated state.phase) there gone
reasons setup state now fresh closes kept there gone = tt
reasons setup state now fresh (responds from id authentic answer) kept there gone = responds_reason setup from id authentic answer (at now state) kept there gone
reasons setup state now fresh (gives from peer bytes) kept there gone = there_not (is_allocated state.phase) there gone
reasons setup state now fresh (gives_on from number bytes) kept there gone = there_not (is_allocated state.phase) there gone
reasons setup state now fresh (strays from) kept there gone = there_not (is_allocated state.phase) there gone
reasons setup state now fresh polls kept there gone = polls_reason setup fresh (at now state) there gone
