-- Polls at one moment come to an end.
use Rattle.std.proofs.Common.{◌≡◌, ℕ, ◌+◌, ◌<◌, ◌≤◌, inl, inr, ◌⊎◌, Bool, true, false, not, ◌&&◌, List, [], ◌∷◌, length, Option, None, Some, refl, sym, ap, subst, ◌∙◌, arith, ltb-true, ltb-false, lt-ltb, le-leb, leb-true}
use Rattle.std.specs.Prelude.{nat_lt, nat_le, min, if◌then◌else◌}
use Rattle.std.proofs.lemmas.Bool.{cond_both, cond-true, cond-false, cases_Bool, and_from, and_right}
use Rattle.turn_client_machine.specs.Clients.{Setup, State, is_allocated, is_active}
use Rattle.turn_client_machine.specs.declared.peers.Peer.{Peer}
use Rattle.turn_client_machine.specs.declared.phases.Phase.{Phase}
use Rattle.turn_client_machine.specs.declared.phases.Phase.TheVariants.{Quiet, Asking, Allocated, Closing, Ended}
use Rattle.turn_client_machine.specs.Events.{polls}
use Rattle.turn_client_machine.specs.Steps.{at, counted, is_due_of, is_free, is_single, step}
use Rattle.turn_client_machine.specs.Tasks.{is_due}
use Rattle.turn_client_machine.specs.Working.{dues}
use Rattle.turn_client_machine.proofs.ClockLemmas.{happens_clock}
use Rattle.turn_client_machine.proofs.RoundsLemmas.{at_once, counted_few}
use Rattle.turn_client_state.specs.States.{setup_of}
use Rattle.turn_client_state.specs.Waking.{is_before, peer_wake, sooner, soonest, wake}
use Rattle.turn_client.specs.Clients.{Client}
use Rattle.turn_client.specs.Histories.{state_at}
use Rattle.turn_client.specs.Rounds.{AreNeeded, IsNeeded}
use Rattle.turn_client.specs.Runs.{Call, calls, Moment, after_all, stepped}

-- ---- When the next poll does something, something is due; and when it doesn't, nothing is

either : (clock : ℕ) (a b : Option ℕ) → is_before clock (sooner a b) ≡ false → (is_before clock a ≡ false) ⊎ (is_before clock b ≡ false)
either clock None b is = inr is
either clock (Some n) None is = inl is
either clock (Some n) (Some m) is = elim (cases_Bool (nat_lt clock n)) [
  | inl later ↦ elim (cases_Bool (nat_lt clock m)) [
    | inl too ↦ let a = ltb-true clock n later in let b = ltb-true clock m too in let c = ltb-false clock (min n m) is in absurd (omega (arith, a, b, c))
    | inr due ↦ inr due
  ]
  | inr due ↦ inl due
]

both : (clock : ℕ) (a b : Option ℕ) → is_before clock (sooner a b) ≡ true → (is_before clock a ≡ true) × (is_before clock b ≡ true)
both clock None b is = (refl, is)
both clock (Some n) None is = (is, refl)
both clock (Some n) (Some m) is =
    let less = ltb-true clock (min n m) is in
    (lt-ltb clock n (omega (arith, less)), lt-ltb clock m (omega (arith, less)))

due_now : (clock due : ℕ) → nat_lt clock due ≡ false → nat_le due clock ≡ true
due_now clock due is = let le = ltb-false clock due is in le-leb due clock (omega (arith, le))

due_later : (clock due : ℕ) → nat_lt clock due ≡ true → nat_le due clock ≡ false
due_later clock due is = elim (cases_Bool (nat_le due clock)) [
  | inl here ↦ let less = ltb-true clock due is in let le = leb-true due clock here in absurd (omega (arith, less, le))
  | inr fails ↦ fails
]

peer_due : (clock : ℕ) (p : Peer) → is_before clock (peer_wake true p) ≡ false → is_due_of clock p ≡ true
peer_due clock p is =
    cond_both p.over None (Some p.task.due) (λ (o : Option ℕ). is_before clock o ≡ false → is_due_of clock p ≡ true)
    (λ _ never. absurd cc)
    (λ on it. and_from (not p.over) (is_due clock p.task) (ap not on) (due_now clock p.task.due it)) is

peer_idle : (clock : ℕ) (p : Peer) → is_before clock (peer_wake true p) ≡ true → is_due_of clock p ≡ false
peer_idle clock p is =
    cond_both p.over None (Some p.task.due) (λ (o : Option ℕ). is_before clock o ≡ true → is_due_of clock p ≡ false)
    (λ over _. ap (λ (b : Bool). not b && is_due clock p.task) over)
    (λ _ it. and_right (not p.over) (is_due clock p.task) (due_later clock p.task.due it)) is

some_due : (clock : ℕ) (ps : List Peer) → is_before clock (soonest true ps) ≡ false → 0 < counted (is_due_of clock) ps
some_due clock [] is = absurd cc
some_due clock (p ∷ ps) is = elim (either clock (peer_wake true p) (soonest true ps) is) [
  | inl here ↦ subst (λ (n : ℕ). 0 < n) (sym (cond-true (is_due_of clock p) (1 + counted (is_due_of clock) ps) (counted (is_due_of clock) ps) (peer_due clock p here))) (omega arith)
  | inr more ↦ cond_both (is_due_of clock p) (1 + counted (is_due_of clock) ps) (counted (is_due_of clock) ps) (λ (n : ℕ). 0 < n) (λ _. omega arith) (λ _. some_due clock ps more)
]

none_due : (clock : ℕ) (ps : List Peer) → is_before clock (soonest true ps) ≡ true → counted (is_due_of clock) ps ≡ 0
none_due clock [] is = refl
none_due clock (p ∷ ps) is =
    let parts = both clock (peer_wake true p) (soonest true ps) is in
    cond-false (is_due_of clock p) (1 + counted (is_due_of clock) ps) (counted (is_due_of clock) ps) (peer_idle clock p parts.0) ∙ none_due clock ps parts.1

-- by the phase
abbrev wakes_in : Phase → State → Option ℕ
wakes_in phase s = if is_allocated phase then sooner (Some s.task.due) (soonest true s.peers) else (if is_active phase then Some s.task.due else None)

abbrev bit : Bool → ℕ
bit b = if b then 1 else 0

abbrev dues_in : Phase → State → ℕ
dues_in phase s =
    bit (is_active phase && is_due s.clock s.task) + (if is_allocated phase then counted (is_due_of s.clock) s.peers else 0)

own_due : (s : State) → nat_lt s.clock s.task.due ≡ false → bit (is_due s.clock s.task) ≡ 1
own_due s is = cond-true {A = ℕ} (is_due s.clock s.task) 1 0 (due_now s.clock s.task.due is)

own_idle : (s : State) → nat_lt s.clock s.task.due ≡ true → bit (is_due s.clock s.task) ≡ 0
own_idle s is = cond-false {A = ℕ} (is_due s.clock s.task) 1 0 (due_later s.clock s.task.due is)

due_in : (phase : Phase) (s : State) → is_before s.clock (wakes_in phase s) ≡ false → 0 < dues_in phase s
due_in Quiet s is = absurd cc
due_in Asking s is = let one = own_due s is in omega (arith, one)
due_in Allocated s is = elim (either s.clock (Some s.task.due) (soonest true s.peers) is) [
  | inl own ↦ let one = own_due s own in omega (arith, one)
  | inr peers ↦ let some = some_due s.clock s.peers peers in omega (arith, some)
]
due_in (Closing why) s is = let one = own_due s is in omega (arith, one)
due_in (Ended why) s is = absurd cc

idle_in : (phase : Phase) (s : State) → is_before s.clock (wakes_in phase s) ≡ true → dues_in phase s ≡ 0
idle_in Quiet s is = refl
idle_in Asking s is = let none = own_idle s is in omega (arith, none)
idle_in Allocated s is =
    let parts = both s.clock (Some s.task.due) (soonest true s.peers) is in
    let none = own_idle s parts.0 in
    let more = none_due s.clock s.peers parts.1 in omega (arith, none, more)
idle_in (Closing why) s is = let none = own_idle s is in omega (arith, none)
idle_in (Ended why) s is = refl

wake_in : (s : State) → is_free s.peers ≡ true → wake s ≡ wakes_in s.phase s
wake_in s free = ap (λ (b : Bool). if is_allocated s.phase then sooner (Some s.task.due) (soonest b s.peers) else (if is_active s.phase then Some s.task.due else None)) free

pub is_woken : (s : State) → is_free s.peers ≡ true → is_before s.clock (wake s) ≡ false → 0 < dues s
is_woken s free is = due_in s.phase s (subst (λ (o : Option ℕ). is_before s.clock o ≡ false) (wake_in s free) is)

pub is_idle : (s : State) → is_free s.peers ≡ true → is_before s.clock (wake s) ≡ true → dues s ≡ 0
is_idle s free is = idle_in s.phase s (subst (λ (o : Option ℕ). is_before s.clock o ≡ true) (wake_in s free) is)

-- ---- Each poll leaves fewer

-- the machine's law
abbrev pub IsLess : Type 0
IsLess = (setup : Setup) (state : State) (now fresh : ℕ) → (dues (step setup state now fresh polls).state < dues (at now state)) ⊎ ((dues (at now state) ≡ 0) ⊎ (8 ≤ counted is_single state.peers))

poll_leaves : IsLess → (client : Client) (now fresh : ℕ) → is_before (state_at client now).clock (wake client.held.state) ≡ false → is_free client.held.state.peers ≡ true
    → dues (state_at (stepped client now fresh (calls polls)) now) < dues (state_at client now)
poll_leaves law client now fresh woken free =
    let setup = setup_of client.held.settings in
    let before = state_at client now in
    let s = (step setup client.held.state now fresh polls).state in
    let clock = happens_clock setup fresh before polls in
    let same : at now s ≡ s = at_once now s (omega (arith, clock)) in
    let due = is_woken before free woken in
    let few = ltb-true (counted is_single client.held.state.peers) 8 free in
    subst (λ (x : State). dues x < dues before) (sym same) (elim (law setup client.held.state now fresh) [
      | inl fewer ↦ fewer
      | inr other ↦ elim other [
        | inl none ↦ absurd (omega (arith, due, none))
        | inr many ↦ absurd (omega (arith, few, many))
      ]
    ])

needed_leaves : IsLess → (client : Client) (now : ℕ) (m : Moment) → IsNeeded now client m → dues (state_at (stepped client m.now m.fresh m.call) now) < dues (state_at client now)
needed_leaves law client now m is =
    subst (λ (n : ℕ). dues (state_at (stepped client n m.fresh m.call) now) < dues (state_at client now)) (sym is.now_is)
    (subst (λ (c : Call). dues (state_at (stepped client now m.fresh c) now) < dues (state_at client now)) (sym is.polled)
    (poll_leaves law client now m.fresh is.woken is.free))

left : IsLess → (client : Client) (now : ℕ) (ms : List Moment) → AreNeeded client now ms → length ms + dues (state_at (after_all client ms) now) ≤ dues (state_at client now)
left law client now [] are = omega arith
left law client now (m ∷ earlier) are =
    let one = needed_leaves law (after_all client earlier) now m are.0 in
    let more = left law client now earlier are.1 in
    omega (arith, one, more)

few_dues : (s : State) → dues s ≤ 1 + length s.peers
few_dues s =
    let few = counted_few s.clock s.peers in
    let main : bit (is_active s.phase && is_due s.clock s.task) ≤ 1 = cond_both {A = ℕ} (is_active s.phase && is_due s.clock s.task) 1 0 (λ (n : ℕ). n ≤ 1) (λ _. omega arith) (λ _. omega arith) in
    let peers : (if is_allocated s.phase then counted (is_due_of s.clock) s.peers else 0) ≤ length s.peers = cond_both {A = ℕ} (is_allocated s.phase) (counted (is_due_of s.clock) s.peers) 0 (λ (n : ℕ). n ≤ length s.peers) (λ _. few) (λ _. omega arith) in
    omega (arith, main, peers)

pub few_polls : IsLess → (client : Client) (now : ℕ) (ms : List Moment) → AreNeeded client now ms → length ms ≤ 1 + length client.held.state.peers
few_polls law client now ms are =
    let sum = left law client now ms are in
    let few = few_dues (state_at client now) in
    omega (arith, sum, few)
