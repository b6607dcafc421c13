-- Reservations: a run with them is a run of the machine; a token lasts 30 seconds and serves once.
use Rattle.std.proofs.Common.{inr, ◌≡◌, ℕ, ◌+◌, ◌<◌, ◌≤◌, Bool, true, false, not, cond, List, [], ◌∷◌, filter, find, Option, None, Some, refl, sym, ap, ◌∙◌, subst, eqb-true, eq-eqb, ltb-true, zero-le, arith}
use Rattle.std.specs.List.{AllByRecursion, list_any}
use Rattle.std.specs.Option.{option_map_or}
use Rattle.std.specs.Prelude.{◌≢◌, ◌==◌, ◌&&◌, if◌then◌else◌, max, count_by, length, nat_lt, is_some, IsSomeAnd}
use Rattle.std.proofs.lemmas.Bool.{cond_both, cond-true, cond-false, and_parts, and_from, false_from_ne_true, lt-ltb}
use Rattle.std.proofs.lemmas.List.Sums.{length-filter, count_by-le-length}
use Rattle.stun_endpoints.specs.declared.endpoints.Endpoint.{Endpoint}
use Rattle.stun_endpoints.specs.declared.endpoints.FiveTuple.{FiveTuple}
use Rattle.stun_endpoints.specs.Endpoints.{is_tuple}
use Rattle.turn_machine.specs.Relays.{seconds, Setup, Rules, State, is_of, is_owned}
use Rattle.turn_machine.specs.Events.{Offer, Want, allocate, asks, allocated, refused, Output, answers}
use Rattle.turn_machine.specs.Times.{at, granted_for}
use Rattle.turn_machine.specs.Opening.{opened}
use Rattle.turn_machine.specs.Rows.{has_any}
use Rattle.turn_machine.specs.Steps.{Step, step, keeping, is_again, answers_again, serves_new, serves}
use Rattle.turn_machine.specs.Runs.{run, history}
use Rattle.turn_machine.specs.Examples.{outputs}
use Rattle.turn_machine.specs.Granting.{IsFit, Has, given_of}
use Rattle.turn_machine.specs.Refusals.{IsAgain}
use Rattle.turn_machine.specs.Reservations.{live_at, IsBelowQuota, held_for, made_by, IsReserved}
use Rattle.turn_machine.specs.Reserving.{Reservation, OuterState, Outer, plain, reserves, claims, is_held, held_at, is_users_held, is_token, has_place, can_reserve, pair_want, reserved_offer, reserved_want, no_want, inner, is_success, is_opening, reservation, held_after, is_reserved_by, token_for, outer_step, OuterTimed, outer_run, inner_run, outer_outputs}
use Rattle.stun_endpoints.proofs.AddressesLemmas.{tuple_is_itself}
use Rattle.turn_machine.proofs.ListsLemmas.{none_any, some_any, some_map, left_false, right_false, count_cons, count_none, count_filter}
use Rattle.turn_machine.proofs.AgainLemmas.{is_again_of}
use Rattle.turn_machine.proofs.GrantingLemmas.{one_granted, unmet}
use Rattle.turn_machine.proofs.CasesLemmas.{serve_cases}

pub state_is : (setup : Setup) (events : List OuterTimed) → (outer_run setup events).state ≡ run setup (inner_run setup events)
state_is setup [] = refl
state_is setup (t ∷ events) =
    ap (λ (s : State). (step setup t.rules s t.now (inner setup (at t.now (outer_run setup events).state) (held_at t.now (outer_run setup events)) t.outer)).state) (state_is setup events)

pub outputs_are : (setup : Setup) (events : List OuterTimed) → outer_outputs setup events ≡ outputs (history setup (inner_run setup events))
outputs_are setup [] = refl
outputs_are setup (t ∷ events) =
    let h = outer_run setup events in
    let event = inner setup (at t.now h.state) (held_at t.now h) t.outer in
    ap (λ (s : State). (step setup t.rules s t.now event).output ∷ outer_outputs setup events) (state_is setup events)
    ∙ ap (λ (l : List Output). (step setup t.rules (run setup (inner_run setup events)) t.now event).output ∷ l) (outputs_are setup events)

-- ---- Bounds

abbrev IsFew : Setup → List Reservation → Type 0
IsFew setup held = (user : ℕ) → count_by (is_users_held user) held ≤ setup.most_of_user

one_more : (b : Bool) (n most : ℕ) → (b ≡ true → n < most) → n ≤ most → cond b 1 0 + n ≤ most
one_more true n most less le = let l = less refl in omega (arith, l)
one_more false n most less le = omega (arith, le)

not_true : (b : Bool) → not b ≡ true → b ≡ false
not_true true is = absurd cc
not_true false is = refl

-- what is reserved had a place, and a token that no other had
has_both : (setup : Setup) (user : ℕ) (next : Option Endpoint) (token : ℕ) (held : List Reservation) → can_reserve setup user next token held ≡ true
    → (has_place setup user held ≡ true) × (list_any (is_token token) held ≡ false)
has_both setup user next token held can =
    let both = (and_parts (is_some next) (has_place setup user held && not (list_any (is_token token) held)) can).1 in
    let parts = and_parts (has_place setup user held) (not (list_any (is_token token) held)) both in
    (parts.0, not_true (list_any (is_token token) held) parts.1)

reserved_few : (setup : Setup) (now : ℕ) (tuple : FiveTuple) (user id : ℕ) (lifetime : Option ℕ) (want : Want) (next : Option Endpoint) (token : ℕ) (held : List Reservation) → nat_lt (count_by (is_users_held user) held) setup.most_of_user ≡ true → IsFew setup held
    → IsFew setup (reservation now (reserves tuple user id lifetime want next token) next held)
reserved_few setup now tuple user id lifetime want None token held room few other = few other
reserved_few setup now tuple user id lifetime want (Some address) token held room few other =
    let r : Reservation = record { token = token; user = user; tuple = tuple; id = id; family = want.family; address = address; expires_at = now + seconds 30 } in
    subst (λ (n : ℕ). n ≤ setup.most_of_user) (sym (count_cons (is_users_held other) r held))
    (one_more (user == other) (count_by (is_users_held other) held) setup.most_of_user
    (λ same. subst (λ (u : ℕ). count_by (is_users_held u) held < setup.most_of_user) (eqb-true user other same) (ltb-true (count_by (is_users_held user) held) setup.most_of_user room)) (few other))

filtered_few : (setup : Setup) (keep : Reservation → Bool) (held : List Reservation) → IsFew setup held → IsFew setup (filter keep held)
filtered_few setup keep held few user = let fewer = count_filter (is_users_held user) keep held in let f = few user in omega (arith, fewer, f)

after_few : (setup : Setup) (state : State) (outer : Outer) (output : Output) (held : List Reservation) → IsFew setup held → IsFew setup (held_after setup state outer output held)
after_few setup state (plain event) output held few = few
after_few setup state (reserves tuple user id lifetime want next token) output held few =
    cond_both (is_opening tuple state output && can_reserve setup user next token held) (reservation state.clock (reserves tuple user id lifetime want next token) next held) held (IsFew setup)
    (λ both.
    let can = (and_parts (is_opening tuple state output) (can_reserve setup user next token held) both).1 in
    let place = (has_both setup user next token held can).0 in
    reserved_few setup state.clock tuple user id lifetime want next token held (and_parts (nat_lt (count_by (is_users_held user) held) setup.most_of_user) (nat_lt (length held) setup.most_reservations) place).0 few) (λ _. few)
after_few setup state (claims tuple user id lifetime token number) output held few =
    cond_both (is_opening tuple state output) (filter (λ r. not (is_token token r)) held) held (IsFew setup) (λ _. filtered_few setup (λ r. not (is_token token r)) held few) (λ _. few)

pub held_few : (setup : Setup) (events : List OuterTimed) (user : ℕ) → count_by (is_users_held user) (outer_run setup events).held ≤ setup.most_of_user
held_few setup [] user = zero-le
held_few setup (t ∷ events) user =
    let h = outer_run setup events in
    after_few setup (at t.now h.state) t.outer (step setup t.rules h.state t.now (inner setup (at t.now h.state) (held_at t.now h) t.outer)).output (held_at t.now h) (filtered_few setup (is_held (max h.state.clock t.now)) h.held (held_few setup events)) user

filtered_shorter : (keep : Reservation → Bool) (held : List Reservation) → length (filter keep held) ≤ length held
filtered_shorter keep held = let is = length-filter keep held in let less = count_by-le-length keep held in omega (arith, is, less)

reserved_bounded : (most now : ℕ) (tuple : FiveTuple) (user id : ℕ) (lifetime : Option ℕ) (want : Want) (next : Option Endpoint) (token : ℕ) (held : List Reservation) → length held < most → length held ≤ most
    → length (reservation now (reserves tuple user id lifetime want next token) next held) ≤ most
reserved_bounded most now tuple user id lifetime want None token held room short = short
reserved_bounded most now tuple user id lifetime want (Some address) token held room short = room

-- the places are enough
pub after_bounded : (setup : Setup) (state : State) (outer : Outer) (output : Output) (held : List Reservation) → length held ≤ setup.most_reservations → length (held_after setup state outer output held) ≤ setup.most_reservations
after_bounded setup state (plain event) output held short = short
after_bounded setup state (reserves tuple user id lifetime want next token) output held short =
    cond_both (is_opening tuple state output && can_reserve setup user next token held) (reservation state.clock (reserves tuple user id lifetime want next token) next held) held (λ (l : List Reservation). length l ≤ setup.most_reservations)
    (λ both.
    let can = (and_parts (is_opening tuple state output) (can_reserve setup user next token held) both).1 in
    let place = (has_both setup user next token held can).0 in
    let room = (and_parts (nat_lt (count_by (is_users_held user) held) setup.most_of_user) (nat_lt (length held) setup.most_reservations) place).1 in
    reserved_bounded setup.most_reservations state.clock tuple user id lifetime want next token held (ltb-true (length held) setup.most_reservations room) short) (λ _. short)
after_bounded setup state (claims tuple user id lifetime token number) output held short =
    cond_both (is_opening tuple state output) (filter (λ r. not (is_token token r)) held) held (λ (l : List Reservation). length l ≤ setup.most_reservations)
    (λ _. let fewer = filtered_shorter (λ r. not (is_token token r)) held in omega (arith, fewer, short)) (λ _. short)

pub held_bounded : (setup : Setup) (events : List OuterTimed) → length (outer_run setup events).held ≤ setup.most_reservations
held_bounded setup [] = zero-le
held_bounded setup (t ∷ events) =
    let h = outer_run setup events in
    let fewer = filtered_shorter (is_held (max h.state.clock t.now)) h.held in
    let short = held_bounded setup events in
    after_bounded setup (at t.now h.state) t.outer (step setup t.rules h.state t.now (inner setup (at t.now h.state) (held_at t.now h) t.outer)).output (held_at t.now h) (omega (arith, fewer, short))

-- ---- Each token is one reservation's

abbrev AreDistinct : List Reservation → Type 0
AreDistinct held = (token : ℕ) → count_by (is_token token) held ≤ 1

reserved_distinct : (now : ℕ) (tuple : FiveTuple) (user id : ℕ) (lifetime : Option ℕ) (want : Want) (next : Option Endpoint) (token : ℕ) (held : List Reservation) → list_any (is_token token) held ≡ false → AreDistinct held
    → AreDistinct (reservation now (reserves tuple user id lifetime want next token) next held)
reserved_distinct now tuple user id lifetime want None token held unused distinct other = distinct other
reserved_distinct now tuple user id lifetime want (Some address) token held unused distinct other =
    let r : Reservation = record { token = token; user = user; tuple = tuple; id = id; family = want.family; address = address; expires_at = now + seconds 30 } in
    subst (λ (n : ℕ). n ≤ 1) (sym (count_cons (is_token other) r held))
    (one_more (token == other) (count_by (is_token other) held) 1
    (λ same. subst (λ (n : ℕ). count_by (is_token n) held < 1) (eqb-true token other same) (let none = count_none (is_token token) held unused in omega (arith, none))) (distinct other))

filtered_distinct : (keep : Reservation → Bool) (held : List Reservation) → AreDistinct held → AreDistinct (filter keep held)
filtered_distinct keep held distinct token = let fewer = count_filter (is_token token) keep held in let d = distinct token in omega (arith, fewer, d)

after_distinct : (setup : Setup) (state : State) (outer : Outer) (output : Output) (held : List Reservation) → AreDistinct held → AreDistinct (held_after setup state outer output held)
after_distinct setup state (plain event) output held distinct = distinct
after_distinct setup state (reserves tuple user id lifetime want next token) output held distinct =
    cond_both (is_opening tuple state output && can_reserve setup user next token held) (reservation state.clock (reserves tuple user id lifetime want next token) next held) held AreDistinct
    (λ both.
    let can = (and_parts (is_opening tuple state output) (can_reserve setup user next token held) both).1 in
    reserved_distinct state.clock tuple user id lifetime want next token held (has_both setup user next token held can).1 distinct) (λ _. distinct)
after_distinct setup state (claims tuple user id lifetime token number) output held distinct =
    cond_both (is_opening tuple state output) (filter (λ r. not (is_token token r)) held) held AreDistinct (λ _. filtered_distinct (λ r. not (is_token token r)) held distinct) (λ _. distinct)

pub held_distinct : (setup : Setup) (events : List OuterTimed) (token : ℕ) → count_by (is_token token) (outer_run setup events).held ≤ 1
held_distinct setup [] token = zero-le
held_distinct setup (t ∷ events) token =
    let h = outer_run setup events in
    after_distinct setup (at t.now h.state) t.outer (step setup t.rules h.state t.now (inner setup (at t.now h.state) (held_at t.now h) t.outer)).output (held_at t.now h) (filtered_distinct (is_held (max h.state.clock t.now)) h.held (held_distinct setup events)) token

-- ---- What is fit is reserved, for 30 seconds

abbrev OneAnswer : Setup → FiveTuple → (user id : ℕ) → (lifetime : Option ℕ) → Want → Offer → State → Output
OneAnswer setup tuple user id lifetime want offer s =
    let granted = granted_for lifetime setup.greatest_lifetime in
    answers tuple (allocated (given_of (opened tuple user id (s.clock + seconds granted) want.family s offer) ∷ []) granted [])

none_has : (token : ℕ) (held : List Reservation) → AllByRecursion (λ r. r.token ≢ token) held → AllByRecursion (λ r. is_token token r ≡ false) held
none_has token [] each = tt
none_has token (r ∷ rs) each = (false_from_ne_true (is_token token r) (λ same. each.0 (eqb-true r.token token same)), none_has token rs each.1)

pub reserved : (setup : Setup) (rules : Rules) (h : OuterState) (now : ℕ) (tuple : FiveTuple) (user id : ℕ) (lifetime : Option ℕ) (want : Want) (offer : Offer) (next : Endpoint) (token : ℕ)
    → let s = at now h.state in let held = live_at s.clock h.held in
    let done = outer_step setup rules h now (reserves tuple user id lifetime want (Some next) token) in
    IsFit setup tuple user want offer s → IsBelowQuota setup user held → length held < setup.most_reservations → AllByRecursion (λ r. r.token ≢ token) held
    → (r : Reservation) × IsReserved s.clock tuple user id want next token r × (done.holding.held ≡ r ∷ held) × (done.token ≡ Some token) × (done.step ≡ step setup rules h.state now (asks tuple user (allocate id lifetime (want ∷ []))))
reserved setup rules h now tuple user id lifetime want offer next token fit room places unused =
    let s = at now h.state in
    let held = held_at now h in
    let can : can_reserve setup user (Some next) token held ≡ true =
    and_from (has_place setup user held) (not (list_any (is_token token) held))
    (and_from (nat_lt (count_by (is_users_held user) held) setup.most_of_user) (nat_lt (length held) setup.most_reservations) (lt-ltb (count_by (is_users_held user) held) setup.most_of_user room) (lt-ltb (length held) setup.most_reservations places))
    (ap not (none_any (is_token token) held (none_has token held unused))) in
    let want_is : pair_want setup user want (Some next) token held ≡ want = ap (λ (o : Option Offer). record { family = want.family; ready = o }) (cond-true (can_reserve setup user (Some next) token held) want.ready None can) in
    let event = inner setup s held (reserves tuple user id lifetime want (Some next) token) in
    let same : step setup rules h.state now event ≡ step setup rules h.state now (asks tuple user (allocate id lifetime (want ∷ []))) = ap (λ (w : Want). step setup rules h.state now (asks tuple user (allocate id lifetime (w ∷ [])))) want_is in
    let reply : (step setup rules h.state now event).output ≡ OneAnswer setup tuple user id lifetime want offer s =
    ap (λ (x : Step). x.output) same
    ∙ ap (λ (x : Step). x.output) (one_granted setup rules s tuple user id lifetime want offer fit) in
    let outer = reserves tuple user id lifetime want (Some next) token in
    let r : Reservation = record { token = token; user = user; tuple = tuple; id = id; family = want.family; address = next; expires_at = s.clock + seconds 30 } in
    let opening : is_opening tuple s (step setup rules h.state now event).output ≡ true =
    and_from (not (has_any tuple s)) (is_success (step setup rules h.state now event).output) (ap not (none_any (is_of tuple) s.relays fit.free)) (ap is_success reply) in
    let kept : held_after setup s outer (step setup rules h.state now event).output held ≡ r ∷ held =
    cond-true (is_opening tuple s (step setup rules h.state now event).output && can_reserve setup user (Some next) token held) (r ∷ held) held (and_from (is_opening tuple s (step setup rules h.state now event).output) (can_reserve setup user (Some next) token held) opening can) in
    let found : find (is_reserved_by tuple user id) (r ∷ held) ≡ Some r = cond-true (is_reserved_by tuple user id r) (Some r) (find (is_reserved_by tuple user id) held) (and_from (is_tuple tuple tuple && (user == user)) (id == id) (and_from (is_tuple tuple tuple) (user == user) (tuple_is_itself tuple) (eq-eqb user user refl)) (eq-eqb id id refl)) in (
      r,
      record { token_is = refl; whose = (refl, refl, refl); socket = (refl, refl); until_is = refl },
      kept,
      ap (λ (l : List Reservation). token_for outer (step setup rules h.state now event).output l) kept
          ∙ (cond-true (is_success (step setup rules h.state now event).output) (option_map_or (λ (x : Reservation). Some x.token) (find (is_reserved_by tuple user id) (r ∷ held)) None) None (ap is_success reply)
          ∙ ap (λ (o : Option Reservation). option_map_or (λ (x : Reservation). Some x.token) o None) found),
      same,
    )

-- ---- A token serves its user, once

pub claimed : (setup : Setup) (rules : Rules) (h : OuterState) (now : ℕ) (tuple : FiveTuple) (user id : ℕ) (lifetime : Option ℕ) (token number : ℕ) (r : Reservation)
    → let s = at now h.state in let held = live_at s.clock h.held in
    let done = outer_step setup rules h now (claims tuple user id lifetime token (Some number)) in
    held_for user token held ≡ Some r → IsFit setup tuple user (reserved_want (Some number) r) (reserved_offer r number) s
    → (done.step ≡ step setup rules h.state now (asks tuple user (allocate id lifetime (reserved_want (Some number) r ∷ [])))) × (done.holding.held ≡ filter (λ x. not (x.token == token)) held)
claimed setup rules h now tuple user id lifetime token number r found fit =
    let s = at now h.state in
    let held = held_at now h in
    let event = inner setup s held (claims tuple user id lifetime token (Some number)) in
    let same : step setup rules h.state now event ≡ step setup rules h.state now (asks tuple user (allocate id lifetime (reserved_want (Some number) r ∷ []))) =
    ap (λ (o : Option Reservation). step setup rules h.state now (asks tuple user (allocate id lifetime (option_map_or (reserved_want (Some number)) o (no_want setup tuple s) ∷ [])))) found in
    let reply : (step setup rules h.state now event).output ≡ OneAnswer setup tuple user id lifetime (reserved_want (Some number) r) (reserved_offer r number) s =
    ap (λ (x : Step). x.output) same
    ∙ ap (λ (x : Step). x.output) (one_granted setup rules s tuple user id lifetime (reserved_want (Some number) r) (reserved_offer r number) fit) in
    let opening : is_opening tuple s (step setup rules h.state now event).output ≡ true =
    and_from (not (has_any tuple s)) (is_success (step setup rules h.state now event).output) (ap not (none_any (is_of tuple) s.relays fit.free)) (ap is_success reply) in (
      same,
      cond-true (is_opening tuple s (step setup rules h.state now event).output) (filter (λ x. not (is_token token x)) held) held opening,
    )

pub not_claimed : (setup : Setup) (rules : Rules) (h : OuterState) (now : ℕ) (tuple : FiveTuple) (user id : ℕ) (lifetime : Option ℕ) (token : ℕ) (number : Option ℕ) → let s = at now h.state in held_for user token (live_at s.clock h.held) ≡ None
    → (outer_step setup rules h now (claims tuple user id lifetime token number)).holding.state.relays ≡ s.relays
not_claimed setup rules h now tuple user id lifetime token number none =
    let s = at now h.state in
    let w = no_want setup tuple s in
    ap (λ (o : Option Reservation). (step setup rules h.state now (asks tuple user (allocate id lifetime (option_map_or (reserved_want number) o w ∷ [])))).state.relays) none
    ∙ serve_cases setup rules tuple user (allocate id lifetime (w ∷ [])) s (λ x. x.state.relays ≡ s.relays) (λ _ _ _. refl) (λ _. refl)
    (λ _ _. ap (λ (x : State). x.relays) (unmet setup tuple user id (s.clock + seconds (granted_for lifetime setup.greatest_lifetime)) w s (inr refl)))

-- ---- What opens no allocation changes no reservation

no_opening : (tuple : FiveTuple) (s : State) (output : Output) → is_success output ≡ false → is_opening tuple s output ≡ false
no_opening tuple s output isnt = right_false (not (has_any tuple s)) (is_success output) isnt

none_held : (setup : Setup) (s : State) (outer : Outer) (output : Output) (held : List Reservation) → is_success output ≡ false → held_after setup s outer output held ≡ held
none_held setup s (plain event) output held isnt = refl
none_held setup s (reserves tuple user id lifetime want next token) output held isnt =
    cond-false (is_opening tuple s output && can_reserve setup user next token held) (reservation s.clock (reserves tuple user id lifetime want next token) next held) held
    (left_false (is_opening tuple s output) (can_reserve setup user next token held) (no_opening tuple s output isnt))
none_held setup s (claims tuple user id lifetime token number) output held isnt = cond-false (is_opening tuple s output) (filter (λ r. not (is_token token r)) held) held (no_opening tuple s output isnt)

no_token : (outer : Outer) (output : Output) (held : List Reservation) → is_success output ≡ false → token_for outer output held ≡ None
no_token (plain event) output held isnt = refl
no_token (reserves tuple user id lifetime want next token) output held isnt = cond-false (is_success output) (option_map_or (λ r. Some r.token) (find (is_reserved_by tuple user id) held) None) None isnt
no_token (claims tuple user id lifetime token number) output held isnt = refl

pub refused_reserve_nothing : (setup : Setup) (rules : Rules) (h : OuterState) (now : ℕ) (outer : Outer) (tuple : FiveTuple) (code : ℕ) → let done = outer_step setup rules h now outer in
    done.step.output ≡ answers tuple (refused code) → (done.holding.held ≡ live_at (at now h.state).clock h.held) × (done.token ≡ None)
refused_reserve_nothing setup rules h now outer tuple code is =
    let done = outer_step setup rules h now outer in
    let isnt : is_success done.step.output ≡ false = ap is_success is in
    (none_held setup (at now h.state) outer done.step.output (held_at now h) isnt, no_token outer done.step.output done.holding.held isnt)

open_already : (tuple : FiveTuple) (s : State) (output : Output) → Has tuple s → is_opening tuple s output ≡ false
open_already tuple s output has = left_false (not (has_any tuple s)) (is_success output) (ap not (some_any (is_of tuple) s.relays has))

pub claimed_again : (setup : Setup) (rules : Rules) (h : OuterState) (now : ℕ) (tuple : FiveTuple) (user id : ℕ) (lifetime : Option ℕ) (token : ℕ) (number : Option ℕ) → let s = at now h.state in Has tuple s
    → (outer_step setup rules h now (claims tuple user id lifetime token number)).holding.held ≡ live_at s.clock h.held
claimed_again setup rules h now tuple user id lifetime token number has =
    let s = at now h.state in
    let output = (outer_step setup rules h now (claims tuple user id lifetime token number)).step.output in
    cond-false (is_opening tuple s output) (filter (λ r. not (is_token token r)) (held_at now h)) (held_at now h) (open_already tuple s output has)

again_success : (setup : Setup) (rules : Rules) (tuple : FiveTuple) (user id : ℕ) (lifetime : Option ℕ) (wants : List Want) (s : State) → IsAgain tuple user id s → is_success (serves setup rules tuple user (allocate id lifetime wants) s).output ≡ true
again_success setup rules tuple user id lifetime wants s again =
    let r = allocate id lifetime wants in
    ap (λ (x : Step). is_success x.output) (cond-true (is_again tuple user r s) (keeping s (answers_again setup tuple r s)) (serves_new setup rules tuple user r s) (is_again_of tuple user id s again))

pub repeated : (setup : Setup) (rules : Rules) (h : OuterState) (now : ℕ) (tuple : FiveTuple) (user id : ℕ) (lifetime : Option ℕ) (want : Want) (next : Option Endpoint) (token : ℕ)
    → let s = at now h.state in let held = live_at s.clock h.held in
    let done = outer_step setup rules h now (reserves tuple user id lifetime want next token) in
    IsAgain tuple user id s → (done.holding.held ≡ held) × ((r : Reservation) → made_by tuple user id held ≡ Some r → done.token ≡ Some r.token)
repeated setup rules h now tuple user id lifetime want next token again =
    let s = at now h.state in
    let held = held_at now h in
    let outer = reserves tuple user id lifetime want next token in
    let done = outer_step setup rules h now outer in
    let output = done.step.output in
    let has = some_map (λ a. (is_owned tuple user a ≡ true) × (a.transaction_id ≡ id)) (λ a. is_of tuple a ≡ true) (λ a both. (and_parts (is_of tuple a) (a.user == user) both.0).0) s.relays again in
    let kept : held_after setup s outer output held ≡ held =
    cond-false (is_opening tuple s output && can_reserve setup user next token held) (reservation s.clock outer next held) held (left_false (is_opening tuple s output) (can_reserve setup user next token held) (open_already tuple s output has)) in (
      kept,
      λ r found. ap (λ (l : List Reservation). token_for outer output l) kept
          ∙ (cond-true (is_success output) (option_map_or (λ (x : Reservation). Some x.token) (find (is_reserved_by tuple user id) held) None) None (again_success setup rules tuple user id lifetime (pair_want setup user want next token held ∷ []) s again)
          ∙ ap (λ (o : Option Reservation). option_map_or (λ (x : Reservation). Some x.token) o None) found),
    )

-- ---- A token is shown to its own user

own_token : (answered : Bool) (made : Option Reservation) (shown : ℕ) → (if answered then option_map_or (λ (r : Reservation). Some r.token) made None else None) ≡ Some shown → IsSomeAnd made (λ r. r.token ≡ shown)
own_token true (Some r) shown e = cc
own_token true None shown e = absurd cc
own_token false made shown e = absurd cc

pub token_is_own : (setup : Setup) (rules : Rules) (h : OuterState) (now : ℕ) (tuple : FiveTuple) (user id : ℕ) (lifetime : Option ℕ) (want : Want) (next : Option Endpoint) (token shown : ℕ)
    → let done = outer_step setup rules h now (reserves tuple user id lifetime want next token) in
    done.token ≡ Some shown → IsSomeAnd (made_by tuple user id done.holding.held) (λ r. r.token ≡ shown)
token_is_own setup rules h now tuple user id lifetime want next token shown e =
    let done = outer_step setup rules h now (reserves tuple user id lifetime want next token) in
    own_token (is_success done.step.output) (find (is_reserved_by tuple user id) done.holding.held) shown e
