-- Never are more than ten requests under way.
use Rattle.std.proofs.Common.{◌≡◌, ℕ, ◌+◌, ◌≤◌, inl, inr, Bool, true, false, ◌||◌, List, [], ◌∷◌, Option, map, refl, sym, ◌∙◌, arith, ltb-true, zero-le}
use Rattle.std.specs.List.{list_any}
use Rattle.std.specs.Prelude.{is_some, if◌then◌else◌}
use Rattle.std.proofs.lemmas.Bool.{cond_both, cond-true, cond-false, and_parts, or_cases, cases_Bool, false≢true, true≢false}
use Rattle.turn_client_machine.specs.Clients.{Setup, Peer, State, is_rested}
use Rattle.turn_client_machine.specs.Tasks.{is_expired, turned}
use Rattle.turn_client_machine.specs.Responses.{changed_first, changed_each, given_up}
use Rattle.turn_client_machine.specs.Events.{Event}
use Rattle.turn_client_machine.specs.Steps.{at, replaced, dropped, is_listed, counted, is_single, is_together, is_free, is_next, is_fit, is_due_of, kind_of, own_task, turned_of}
use Rattle.turn_client_machine.specs.Runs.{Timed, run}
use Rattle.turn_client_machine.specs.Bounds.{requests_at_once}
use Rattle.turn_client_machine.proofs.NumbersLemmas.{NamesKeep, PeersKeep, happens_peers}

-- one changed element counts for no more than it did, or for one more
pub count_one : {X : Type 0} (test : X → Bool) (x y : X) (xs ys : List X) → (test y ≡ true → test x ≡ true) → counted test ys ≤ counted test xs → counted test (y ∷ ys) ≤ counted test (x ∷ xs)
count_one test x y xs ys calm le = elim (cases_Bool (test y)) [
  | inl after ↦
      let one = cond-true {A = ℕ} (test y) (1 + counted test ys) (counted test ys) after in
      let two = cond-true {A = ℕ} (test x) (1 + counted test xs) (counted test xs) (calm after) in
      omega (arith, one, two, le)
  | inr after ↦
      let one = cond-false {A = ℕ} (test y) (1 + counted test ys) (counted test ys) after in
      cond_both {A = ℕ} (test x) (1 + counted test xs) (counted test xs) (λ (n : ℕ). counted test (y ∷ ys) ≤ n) (λ _. omega (arith, one, le)) (λ _. omega (arith, one, le))
]

count_mapped : {X : Type 0} (test : X → Bool) (change : X → X) → ((x : X) → test (change x) ≡ true → test x ≡ true) → (xs : List X) → counted test (map {B = X} change xs) ≤ counted test xs
count_mapped test change calm [] = zero-le
count_mapped test change calm (x ∷ xs) = count_one test x (change x) xs (map change xs) (calm x) (count_mapped test change calm xs)

pub count_calm : {X : Type 0} (test next : X → Bool) (change : X → X) → ((x : X) → next x ≡ true → test (change x) ≡ true → test x ≡ true) → (xs : List X) → counted test (changed_first next change xs) ≤ counted test xs
count_calm test next change calm [] = zero-le
count_calm test next change calm (x ∷ xs) =
    cond_both (next x) (change x ∷ xs) (x ∷ changed_first next change xs) (λ ys. counted test ys ≤ counted test (x ∷ xs))
    (λ here. count_one test x (change x) xs xs (calm x here) (omega arith))
    (λ _. count_one test x x xs (changed_first next change xs) (λ is. is) (count_calm test next change calm xs))

pub count_each : {X : Type 0} (test next : X → Bool) (change : X → X) → ((x : X) → test (change x) ≡ true → test x ≡ true) → (xs : List X) → counted test (changed_each next change xs) ≤ counted test xs
count_each test next change calm [] = zero-le
count_each test next change calm (x ∷ xs) =
    cond_both (next x) (change x) x (λ y. counted test (y ∷ changed_each next change xs) ≤ counted test (x ∷ xs))
    (λ _. count_one test x (change x) xs (changed_each next change xs) (calm x) (count_each test next change calm xs))
    (λ _. count_one test x x xs (changed_each next change xs) (λ is. is) (count_each test next change calm xs))

count_more : {X : Type 0} (test next : X → Bool) (change : X → X) (xs : List X) → counted test (changed_first next change xs) ≤ 1 + counted test xs
count_more test next change [] = zero-le
count_more test next change (x ∷ xs) =
    cond_both (next x) (change x ∷ xs) (x ∷ changed_first next change xs) (λ ys. counted test ys ≤ 1 + counted test (x ∷ xs))
    (λ _. cond_both {A = ℕ} (test (change x)) (1 + counted test xs) (counted test xs) (λ (n : ℕ). n ≤ 1 + counted test (x ∷ xs))
    (λ _. cond_both {A = ℕ} (test x) (1 + counted test xs) (counted test xs) (λ (n : ℕ). 1 + counted test xs ≤ 1 + n) (λ _. omega arith) (λ _. omega arith))
    (λ _. cond_both {A = ℕ} (test x) (1 + counted test xs) (counted test xs) (λ (n : ℕ). counted test xs ≤ 1 + n) (λ _. omega arith) (λ _. omega arith)))
    (λ _. let more = count_more test next change xs in
    cond_both {A = ℕ} (test x) (1 + counted test xs) (counted test xs) (λ (n : ℕ). counted test (x ∷ changed_first next change xs) ≤ 1 + n)
    (λ is. let one = cond-true {A = ℕ} (test x) (1 + counted test (changed_first next change xs)) (counted test (changed_first next change xs)) is in omega (arith, more, one))
    (λ isnt. let one = cond-false {A = ℕ} (test x) (1 + counted test (changed_first next change xs)) (counted test (changed_first next change xs)) isnt in omega (arith, more, one)))

-- if no new request may be sent, none is
busy_calm : (along : Bool) (setup : Setup) (clock fresh : ℕ) (challenge : Option ℕ) (p : Peer) → is_next false clock p ≡ true → is_single (turned_of along setup clock fresh challenge p) ≡ true → is_single p ≡ true
busy_calm along setup clock fresh challenge p next =
    cond_both (is_expired clock p.task) (given_up 0 p) (record p { task = turned setup clock fresh (kind_of p) challenge (own_task p); shared = along }) (λ (q : Peer). is_single q ≡ true → is_single p ≡ true)
    (λ _ is. absurd (false≢true is))
    (λ fit _. elim (or_cases (is_single p) (is_expired clock p.task) (and_parts (is_single p || is_expired clock p.task) (is_due_of clock p) next).0) [
      | inl is ↦ is
      | inr late ↦ absurd (true≢false (sym late ∙ fit))
    ])

abbrev Few : List Peer → Type 0
Few peers = counted is_single peers ≤ 8

-- a further peer's request isn't for it alone
joined_calm : (setup : Setup) (clock fresh : ℕ) (challenge : Option ℕ) (p : Peer) → is_single (turned_of true setup clock fresh challenge p) ≡ true → is_single p ≡ true
joined_calm setup clock fresh challenge p = cond_both (is_expired clock p.task) (given_up 0 p) (record p { task = turned setup clock fresh (kind_of p) challenge (own_task p); shared = true }) (λ (q : Peer). is_single q ≡ true → is_single p ≡ true)
    (λ _ is. absurd (false≢true is))
    (λ _ is. absurd (false≢true (and_parts (is_some (turned setup clock fresh (kind_of p) challenge (own_task p)).pending) false is).1))

turned_few : (along : Bool) (setup : Setup) (clock fresh : ℕ) (challenge : Option ℕ) (ps : List Peer) (free : Bool) → is_free ps ≡ free → Few ps → Few (changed_first (is_next free clock) (turned_of along setup clock fresh challenge) ps)
turned_few along setup clock fresh challenge ps true free few =
    let less = ltb-true (counted is_single ps) 8 free in
    let more = count_more is_single (is_next true clock) (turned_of along setup clock fresh challenge) ps in
    omega (arith, less, more)
turned_few along setup clock fresh challenge ps false busy few =
    let le = count_calm is_single (is_next false clock) (turned_of along setup clock fresh challenge) (busy_calm along setup clock fresh challenge) ps in
    omega (arith, le, few)

few_keep : (setup : Setup) → PeersKeep setup Few
few_keep setup = record {
  mapped = λ change same calm ps few. let le = count_mapped is_single change (λ p. (calm p).0) ps in omega (arith, le, few);
  changed = λ test change same calm ps few. let le = count_calm is_single test change (λ p _. (calm p).0) ps in omega (arith, le, few);
  changed_all = λ test change same calm ps few. let le = count_each is_single test change (λ p. (calm p).0) ps in omega (arith, le, few);
  turned = λ along clock fresh challenge ps. turned_few along setup clock fresh challenge ps (is_free ps) refl;
  joins = λ clock fresh challenge ps few. let le = count_calm is_single (is_fit clock) (turned_of true setup clock fresh challenge) (λ p _. joined_calm setup clock fresh challenge p) ps in omega (arith, le, few);
}

few_named : (setup : Setup) (state : State) (event : Event) → NamesKeep setup state event Few
few_named setup state event = record {
  grown = λ wants address named unknown can none few. few;
  replaced_by = λ wants address named unknown can few. let le = count_calm is_single (is_rested state.clock) (replaced state.clock wants address) (λ p _ is. absurd (false≢true is)) state.peers in omega (arith, le, few);
  dropped_by = λ address is few. let le = count_calm is_single (is_listed address) (dropped state.clock) (λ p _ is. absurd (false≢true is)) state.peers in omega (arith, le, few);
}

run_few : (setup : Setup) (events : List Timed) → Few (run setup events).peers
run_few setup [] = zero-le
run_few setup (timed ∷ earlier) = let s = at timed.now (run setup earlier) in happens_peers Few setup (few_keep setup) timed.fresh s timed.event (few_named setup s timed.event) (run_few setup earlier)

pub run_at_once : (setup : Setup) (events : List Timed) → requests_at_once (run setup events) ≤ 10
run_at_once setup events =
    let few = run_few setup events in
    let peers = (run setup events).peers in
    cond_both {A = ℕ} (is_some (run setup events).task.pending) 1 0 (λ (n : ℕ). n + (counted is_single peers + (if list_any is_together peers then 1 else 0)) ≤ 10)
    (λ _. cond_both {A = ℕ} (list_any is_together peers) 1 0 (λ (n : ℕ). 1 + (counted is_single peers + n) ≤ 10) (λ _. omega (arith, few)) (λ _. omega (arith, few)))
    (λ _. cond_both {A = ℕ} (list_any is_together peers) 1 0 (λ (n : ℕ). 0 + (counted is_single peers + n) ≤ 10) (λ _. omega (arith, few)) (λ _. omega (arith, few)))
