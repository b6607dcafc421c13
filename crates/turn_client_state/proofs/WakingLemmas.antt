-- A poll before the moment of the next wake does nothing.
use Rattle.std.proofs.Common.{◌≡◌, ℕ, ◌+◌, ◌<◌, inl, inr, ◌⊎◌, Bool, true, false, ◌&&◌, ◌||◌, List, [], ◌∷◌, Option, None, Some, find, drop, get_or, refl, sym, ap, ◌∙◌, arith, subst, ltb-true, ltb-false, lt-ltb, le-leb, leb-true, leb-false}
use Rattle.std.specs.List.{list_any}
use Rattle.std.specs.Prelude.{not, is_some, nat_lt, nat_le, min, max, if◌then◌else◌}
use Rattle.std.specs.Option.{option_map_or}
use Rattle.std.proofs.lemmas.Bool.{cond_both, cond-true, cond-false, cases_Bool, and_left, and_right, and_from, and_parts, not-true, true≢false}
use Rattle.turn_client_machine.specs.Clients.{Endpoint, seconds, Setup, State, is_allocated, is_active}
use Rattle.turn_client_machine.specs.declared.peers.Peer.{Peer}
use Rattle.turn_client_machine.specs.declared.requests.Kind.{Kind}
use Rattle.turn_client_machine.specs.declared.tasks.Pending.{Pending}
use Rattle.turn_client_machine.specs.declared.tasks.Task.{Task}
use Rattle.turn_client_machine.specs.declared.phases.Phase.{Phase}
use Rattle.turn_client_machine.specs.declared.phases.Phase.TheVariants.{Quiet, Asking, Allocated, Closing, Ended}
use Rattle.turn_client_machine.specs.Events.{asks, nothing}
use Rattle.turn_client_machine.specs.Tasks.{is_due, is_expired, may_send, request_now, sent_task, turned, turn_output}
use Rattle.turn_client_machine.specs.Responses.{changed_first, ends, given_up}
use Rattle.turn_client_machine.specs.Steps.{Step, keeps, counted, is_free, is_under_way, is_single, is_together, is_fit, is_due_of, is_next, kind_in, silent_in, kind_of, own_task, takes_along, others_at, turned_of, output_of, turns, turns_peer, turns_with, peers_polled, polled}
use Rattle.turn_client_state.specs.Waking.{sooner, peer_wake, soonest, wake, is_before}

not_le : (n m : ℕ) → m < n → nat_le n m ≡ false
not_le n m less = elim (cases_Bool (nat_le n m)) [
  | inl here ↦ let le = leb-true n m here in absurd (omega (arith, le, less))
  | inr fails ↦ fails
]

before_both : (moment : ℕ) (one other : Option ℕ) → is_before moment (sooner one other) ≡ true → (is_before moment one ≡ true) × (is_before moment other ≡ true)
before_both moment None other is = (refl, is)
before_both moment (Some n) None is = (is, refl)
before_both moment (Some n) (Some m) is =
    let less = ltb-true moment (min n m) is in
    (lt-ltb moment n (omega (arith, less)), lt-ltb moment m (omega (arith, less)))

none_free : (free way expired : Bool) → (free || way) ≡ false → expired ≡ false → (free || (way || expired)) ≡ false
none_free true way expired is fails = absurd cc
none_free false true expired is fails = absurd cc
none_free false false expired is fails = fails

-- a peer that waits isn't next
waits : (free : Bool) (clock : ℕ) (p : Peer) → is_due clock p.task ≡ false → is_next free clock p ≡ false
waits free clock p fails =
    and_right (free || (is_single p || is_expired clock p.task)) (is_due_of clock p) (and_right (not p.over) (is_due clock p.task) fails)

held_back : (free : Bool) (clock : ℕ) (p : Peer) → (free || is_single p) ≡ false → clock < max p.task.due p.task.deadline → is_next free clock p ≡ false
held_back free clock p fails less = elim (cases_Bool (is_due clock p.task)) [
  | inl here ↦ let due = leb-true p.task.due clock here in
      and_left (free || (is_single p || is_expired clock p.task)) (is_due_of clock p) (none_free free (is_single p) (is_expired clock p.task) fails (not_le p.task.deadline clock (omega (arith, less, due))))
  | inr wait ↦ waits free clock p wait
]

peer_rests : (free : Bool) (clock : ℕ) (p : Peer) → is_before clock (peer_wake free p) ≡ true → is_next free clock p ≡ false
peer_rests free clock p before =
    cond_both p.over None (Some (if free || is_single p then p.task.due else max p.task.due p.task.deadline)) (λ (o : Option ℕ). is_before clock o ≡ true → is_next free clock p ≡ false)
    (λ over _. and_right (free || (is_single p || is_expired clock p.task)) (is_due_of clock p) (and_left (not p.over) (is_due clock p.task) (ap not over)))
    (λ _ later. cond_both (free || is_single p) p.task.due (max p.task.due p.task.deadline) (λ (n : ℕ). nat_lt clock n ≡ true → is_next free clock p ≡ false)
    (λ _ less. waits free clock p (not_le p.task.due clock (ltb-true clock p.task.due less)))
    (λ fails less. held_back free clock p fails (ltb-true clock (max p.task.due p.task.deadline) less)) later)
    before

no_peer : (free : Bool) (clock : ℕ) (ps : List Peer) → is_before clock (soonest free ps) ≡ true → find (is_next free clock) ps ≡ None
no_peer free clock [] before = refl
no_peer free clock (p ∷ ps) before =
    let both = before_both clock (peer_wake free p) (soonest free ps) before in
    cond-false (is_next free clock p) (Some p) (find (is_next free clock) ps) (peer_rests free clock p both.0) ∙ no_peer free clock ps both.1

calm : (setup : Setup) (fresh : ℕ) (s : State) → (is_active s.phase && is_due s.clock s.task) ≡ false
    → polled setup fresh s ≡ (if is_allocated s.phase then peers_polled setup fresh (is_free s.peers) s else keeps s)
calm setup fresh s fails = cond-false (is_active s.phase && is_due s.clock s.task) (turns setup fresh s) (if is_allocated s.phase then peers_polled setup fresh (is_free s.peers) s else keeps s) fails

not_due : (s : State) → is_before s.clock (Some s.task.due) ≡ true → (is_active s.phase && is_due s.clock s.task) ≡ false
not_due s before = and_right (is_active s.phase) (is_due s.clock s.task) (not_le s.task.due s.clock (ltb-true s.clock s.task.due before))

pub rests : (setup : Setup) (fresh : ℕ) (s : State) → is_before s.clock (wake s) ≡ true → polled setup fresh s ≡ keeps s
rests setup fresh s before =
    cond_both (is_allocated s.phase) (sooner (Some s.task.due) (soonest (is_free s.peers) s.peers)) (if is_active s.phase then Some s.task.due else None) (λ (o : Option ℕ). is_before s.clock o ≡ true → polled setup fresh s ≡ keeps s)
    (λ here it. let both = before_both s.clock (Some s.task.due) (soonest (is_free s.peers) s.peers) it in
    calm setup fresh s (not_due s both.0)
    ∙ cond-true (is_allocated s.phase) (peers_polled setup fresh (is_free s.peers) s) (keeps s) here
    ∙ ap (λ (o : Option Peer). option_map_or (turns_peer setup fresh (is_free s.peers) s) o (keeps s)) (no_peer (is_free s.peers) s.clock s.peers both.1))
    (λ fails it. cond_both (is_active s.phase) (Some s.task.due) None (λ (o : Option ℕ). is_before s.clock o ≡ true → polled setup fresh s ≡ keeps s)
    (λ _ its. calm setup fresh s (not_due s its) ∙ cond-false (is_allocated s.phase) (peers_polled setup fresh (is_free s.peers) s) (keeps s) fails)
    (λ quiet _. calm setup fresh s (and_left (is_active s.phase) (is_due s.clock s.task) quiet) ∙ cond-false (is_allocated s.phase) (peers_polled setup fresh (is_free s.peers) s) (keeps s) fails) it)
    before

-- ---- At that moment or later it does something

before_either : (moment : ℕ) (one other : Option ℕ) → is_before moment (sooner one other) ≡ false → (is_before moment one ≡ false) ⊎ (is_before moment other ≡ false)
before_either moment None other is = inr is
before_either moment (Some n) None is = inl is
before_either moment (Some n) (Some m) is = elim (cases_Bool (nat_lt moment n)) [
  | inr fails ↦ inl fails
  | inl here ↦ elim (cases_Bool (nat_lt moment m)) [
    | inr fails ↦ inr fails
    | inl there ↦ let one = ltb-true moment n here in let two = ltb-true moment m there in absurd (true≢false (sym (lt-ltb moment (min n m) (omega (arith, one, two))) ∙ is))
  ]
]

due_by : (clock : ℕ) (t : Task) → nat_lt clock t.due ≡ false → is_due clock t ≡ true
due_by clock t is = le-leb t.due clock (ltb-false clock t.due is)

-- a turn of a task that is due sends a request, or changes when it is due
turn_works : (setup : Setup) (clock fresh : ℕ) (kind : Kind) (challenge : Option ℕ) (others : List Endpoint) (t : Task) → is_due clock t ≡ true → is_expired clock t ≡ false
    → (turned setup clock fresh kind challenge t).due ≡ t.due → turn_output setup clock fresh kind challenge others t ≡ nothing → ⊥
turn_works setup clock fresh kind challenge others t due fit same none = elim (cases_Bool (may_send setup t)) [
  | inl here ↦ let sent : asks (request_now clock fresh kind challenge t) others ≡ nothing = sym (cond-true (may_send setup t) (asks (request_now clock fresh kind challenge t) others) nothing here) ∙ none in absurd cc
  | inr fails ↦
      let is : t.deadline ≡ t.due = ap (λ (x : Task). x.due) (sym (cond-false (may_send setup t) (sent_task setup clock (request_now clock fresh kind challenge t) t) (record t { due = t.deadline }) fails)) ∙ same in
      let early = leb-true t.due clock due in
      let late = leb-false t.deadline clock fit in
      omega (arith, is, early, late)
]

task_works : (setup : Setup) (fresh : ℕ) (s : State) → is_active s.phase ≡ true → is_due s.clock s.task ≡ true → turns setup fresh s ≡ keeps s → ⊥
task_works setup fresh s active due same =
    let ended : Step = keeps (ends (silent_in s.violated s.phase) s) in
    let sent : Step = record {
      state = record s { task = turned setup s.clock fresh (kind_in s.phase) s.challenge s.task };
      output = turn_output setup s.clock fresh (kind_in s.phase) s.challenge [] s.task;
    } in
    elim (cases_Bool (is_expired s.clock s.task)) [
      | inl here ↦ let over : ended ≡ keeps s = sym (cond-true (is_expired s.clock s.task) ended sent here) ∙ same in
          true≢false (sym active ∙ ap (λ (x : Step). is_active x.state.phase) (sym over))
      | inr fails ↦ let on : sent ≡ keeps s = sym (cond-false (is_expired s.clock s.task) ended sent fails) ∙ same in
          turn_works setup s.clock fresh (kind_in s.phase) s.challenge [] s.task due fails (ap (λ (x : Step). x.state.task.due) on) (ap (λ (x : Step). x.output) on)
    ]

-- the element that a look-up finds, if its change changes nothing
unchanged : (test : Peer → Bool) (change : Peer → Peer) (ps : List Peer) (p : Peer) → find test ps ≡ Some p → changed_first test change ps ≡ ps → (test p ≡ true) × (change p ≡ p)
unchanged test change [] p found same = absurd cc
unchanged test change (q ∷ qs) p found same = elim (cases_Bool (test q)) [
  | inl here ↦
      let is : Some q ≡ Some p = sym (cond-true (test q) (Some q) (find test qs) here) ∙ found in
      let it : q ≡ p = cc in
      let list : change q ∷ qs ≡ q ∷ qs = sym (cond-true (test q) (change q ∷ qs) (q ∷ changed_first test change qs) here) ∙ same in
      (subst (λ (x : Peer). test x ≡ true) it here, subst (λ (x : Peer). change x ≡ x) it (ap (λ (xs : List Peer). get_or xs 0 q) list))
  | inr fails ↦
      let list : q ∷ changed_first test change qs ≡ q ∷ qs = sym (cond-false (test q) (change q ∷ qs) (q ∷ changed_first test change qs) fails) ∙ same in
      unchanged test change qs p (sym (cond-false (test q) (Some q) (find test qs) fails) ∙ found) (ap (λ (xs : List Peer). drop 1 xs) list)
]

first_works : (setup : Setup) (fresh : ℕ) (free : Bool) (s : State) (p : Peer) → find (is_next free s.clock) s.peers ≡ Some p → takes_along setup s.clock s.peers p ≡ false → turns_with setup fresh free false s p ≡ keeps s → ⊥
first_works setup fresh free s p found alone same =
    let it = unchanged (is_next free s.clock) (turned_of false setup s.clock fresh s.challenge) s.peers p found (ap (λ (x : Step). x.state.peers) same) in
    let due = (and_parts (free || (is_single p || is_expired s.clock p.task)) (is_due_of s.clock p) it.0).1 in
    let parts = and_parts (not p.over) (is_due s.clock p.task) due in
    let on : Peer = record p { task = turned setup s.clock fresh (kind_of p) s.challenge (own_task p); shared = false } in
    let output : output_of setup s.clock fresh s.challenge [] p ≡ nothing = ap (λ (x : Step). x.output) same in
    elim (cases_Bool (is_expired s.clock p.task)) [
      | inl here ↦ let over : given_up 0 p ≡ p = sym (cond-true (is_expired s.clock p.task) (given_up 0 p) on here) ∙ it.1 in
          true≢false (sym parts.0 ∙ ap (λ (q : Peer). not q.over) (sym over))
      | inr fails ↦ let kept : on ≡ p = sym (cond-false (is_expired s.clock p.task) (given_up 0 p) on fails) ∙ it.1 in
          turn_works setup s.clock fresh (kind_of p) s.challenge [] (own_task p) parts.1 fails (ap (λ (q : Peer). q.task.due) kept)
          (sym (cond-false (is_expired s.clock p.task) nothing (turn_output setup s.clock fresh (kind_of p) s.challenge [] (own_task p)) fails) ∙ output)
    ]

none_pending : (o : Option Pending) → is_some o ≡ false → option_map_or (λ (q : Pending). q.sends) o 0 ≡ 0
none_pending None is = refl
none_pending (Some q) is = absurd (true≢false is)

none_own : (shared : Bool) (o : Option Pending) → is_some o ≡ false → is_some (if shared then None else o) ≡ false
none_own shared o is = cond_both shared None o (λ (x : Option Pending). is_some x ≡ false) (λ _. refl) (λ _. is)

-- a request that names others is sent
along_works : (setup : Setup) (fresh : ℕ) (free : Bool) (s : State) (p : Peer) → takes_along setup s.clock s.peers p ≡ true → turns_with setup fresh free true s p ≡ keeps s → ⊥
along_works setup fresh free s p along same =
    let fit = (and_parts (is_fit s.clock p && nat_lt 1 (counted (is_fit s.clock) s.peers)) ((nat_lt 0 setup.most_sends && nat_lt 1 setup.most_named) && not (list_any is_together s.peers)) along) in
    let one = (and_parts (is_fit s.clock p) (nat_lt 1 (counted (is_fit s.clock) s.peers)) fit.0).0 in
    let some = (and_parts (nat_lt 0 setup.most_sends) (nat_lt 1 setup.most_named) (and_parts (nat_lt 0 setup.most_sends && nat_lt 1 setup.most_named) (not (list_any is_together s.peers)) fit.1).0).0 in
    let idle = and_parts (not (is_under_way p)) (not (p.wants || p.shared) && (not (is_expired s.clock p.task) && is_due_of (s.clock + seconds 30) p)) one in
    let early = (and_parts (not (is_expired s.clock p.task)) (is_due_of (s.clock + seconds 30) p) (and_parts (not (p.wants || p.shared)) (not (is_expired s.clock p.task) && is_due_of (s.clock + seconds 30) p) idle.1).1).0 in
    let others = others_at setup fresh free true s in
    let may : may_send setup (own_task p) ≡ true = ap (λ (n : ℕ). nat_lt n setup.most_sends) (none_pending (own_task p).pending (none_own p.shared p.task.pending (not-true (is_under_way p) idle.0))) ∙ some in
    let r = request_now s.clock fresh (kind_of p) s.challenge (own_task p) in
    let sent : asks r others ≡ nothing =
    sym (cond-false (is_expired s.clock p.task) nothing (turn_output setup s.clock fresh (kind_of p) s.challenge others (own_task p)) (not-true (is_expired s.clock p.task) early)
    ∙ cond-true (may_send setup (own_task p)) (asks r others) nothing may) ∙ ap (λ (x : Step). x.output) same in
    absurd cc

peer_works : (setup : Setup) (fresh : ℕ) (free : Bool) (s : State) (p : Peer) → find (is_next free s.clock) s.peers ≡ Some p → turns_peer setup fresh free s p ≡ keeps s → ⊥
peer_works setup fresh free s p found same = elim (cases_Bool (takes_along setup s.clock s.peers p)) [
  | inl along ↦ along_works setup fresh free s p along (ap (λ (b : Bool). turns_with setup fresh free b s p) (sym along) ∙ same)
  | inr alone ↦ first_works setup fresh free s p found alone (ap (λ (b : Bool). turns_with setup fresh free b s p) (sym alone) ∙ same)
]

next_by : (free way expired : Bool) → (free || way) ≡ true → (free || (way || expired)) ≡ true
next_by true way expired is = refl
next_by false true expired is = refl
next_by false false expired is = absurd cc

next_late : (free way : Bool) → (free || (way || true)) ≡ true
next_late true way = refl
next_late false true = refl
next_late false false = refl

peer_next : (free : Bool) (clock : ℕ) (p : Peer) → is_before clock (peer_wake free p) ≡ false → is_next free clock p ≡ true
peer_next free clock p later =
    cond_both p.over None (Some (if free || is_single p then p.task.due else max p.task.due p.task.deadline)) (λ (o : Option ℕ). is_before clock o ≡ false → is_next free clock p ≡ true)
    (λ _ is. absurd cc)
    (λ on it. cond_both (free || is_single p) p.task.due (max p.task.due p.task.deadline) (λ (n : ℕ). nat_lt clock n ≡ false → is_next free clock p ≡ true)
    (λ here is. and_from (free || (is_single p || is_expired clock p.task)) (is_due_of clock p) (next_by free (is_single p) (is_expired clock p.task) here)
    (and_from (not p.over) (is_due clock p.task) (ap not on) (due_by clock p.task is)))
    (λ _ is. let most = ltb-false clock (max p.task.due p.task.deadline) is in
    and_from (free || (is_single p || is_expired clock p.task)) (is_due_of clock p)
    (ap (λ (b : Bool). free || (is_single p || b)) (le-leb p.task.deadline clock (omega (arith, most))) ∙ next_late free (is_single p))
    (and_from (not p.over) (is_due clock p.task) (ap not on) (le-leb p.task.due clock (omega (arith, most)))))
    it)
    later

some_peer : (free : Bool) (clock : ℕ) (ps : List Peer) → is_before clock (soonest free ps) ≡ false → (p : Peer) × (find (is_next free clock) ps ≡ Some p)
some_peer free clock [] is = absurd cc
some_peer free clock (p ∷ ps) is = elim (cases_Bool (is_next free clock p)) [
  | inl here ↦ (p, cond-true (is_next free clock p) (Some p) (find (is_next free clock) ps) here)
  | inr fails ↦ elim (before_either clock (peer_wake free p) (soonest free ps) is) [
    | inl one ↦ absurd (true≢false (sym (peer_next free clock p one) ∙ fails))
    | inr rest ↦ let more = some_peer free clock ps rest in (more.0, cond-false (is_next free clock p) (Some p) (find (is_next free clock) ps) fails ∙ more.1)
  ]
]

due_works : (setup : Setup) (fresh : ℕ) (s : State) → is_active s.phase ≡ true → is_due s.clock s.task ≡ true → polled setup fresh s ≡ keeps s → ⊥
due_works setup fresh s active due same =
    task_works setup fresh s active due
    (sym (cond-true (is_active s.phase && is_due s.clock s.task) (turns setup fresh s) (if is_allocated s.phase then peers_polled setup fresh (is_free s.peers) s else keeps s) (and_from (is_active s.phase) (is_due s.clock s.task) active due)) ∙ same)

allocated_active : (phase : Phase) → is_allocated phase ≡ true → is_active phase ≡ true
allocated_active Quiet is = absurd cc
allocated_active Asking is = refl
allocated_active Allocated is = refl
allocated_active (Closing why) is = refl
allocated_active (Ended why) is = absurd cc

peers_work : (setup : Setup) (fresh : ℕ) (s : State) → is_allocated s.phase ≡ true → is_before s.clock (soonest (is_free s.peers) s.peers) ≡ false → polled setup fresh s ≡ keeps s → ⊥
peers_work setup fresh s allocated is same = elim (cases_Bool (is_active s.phase && is_due s.clock s.task)) [
  | inl here ↦ let both = and_parts (is_active s.phase) (is_due s.clock s.task) here in due_works setup fresh s both.0 both.1 same
  | inr fails ↦ let next = some_peer (is_free s.peers) s.clock s.peers is in
      peer_works setup fresh (is_free s.peers) s next.0 next.1
      (sym (calm setup fresh s fails
      ∙ cond-true (is_allocated s.phase) (peers_polled setup fresh (is_free s.peers) s) (keeps s) allocated
      ∙ ap (λ (o : Option Peer). option_map_or (turns_peer setup fresh (is_free s.peers) s) o (keeps s)) next.1) ∙ same)
]

pub works : (setup : Setup) (fresh : ℕ) (s : State) → is_before s.clock (wake s) ≡ false → polled setup fresh s ≡ keeps s → ⊥
works setup fresh s later same =
    cond_both (is_allocated s.phase) (sooner (Some s.task.due) (soonest (is_free s.peers) s.peers)) (if is_active s.phase then Some s.task.due else None) (λ (o : Option ℕ). is_before s.clock o ≡ false → ⊥)
    (λ here it. elim (before_either s.clock (Some s.task.due) (soonest (is_free s.peers) s.peers) it) [
      | inl own ↦ due_works setup fresh s (allocated_active s.phase here) (due_by s.clock s.task own) same
      | inr peers ↦ peers_work setup fresh s here peers same
    ])
    (λ _ it. cond_both (is_active s.phase) (Some s.task.due) None (λ (o : Option ℕ). is_before s.clock o ≡ false → ⊥)
    (λ active own. due_works setup fresh s active (due_by s.clock s.task own) same)
    (λ _ none. absurd cc) it)
    later
