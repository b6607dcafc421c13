-- Which sockets a request uses: the numbers of the others don't matter.
use Rattle.std.proofs.Common.{◌≡◌, ℕ, ◌+◌, ◌≤◌, Bool, true, false, not, cond, List, [], ◌∷◌, ◌++◌, map, filter, max, Option, None, Some, ◌⊎◌, inl, inr, refl, sym, ap, subst, ◌∙◌, arith}
use Rattle.std.specs.List.{list_any}
use Rattle.std.specs.Option.{option_map, option_map_or}
use Rattle.std.specs.Prelude.{◌&&◌, ◌||◌, ◌==◌, nat_le, nat_lt, find, is_some, if◌then◌else◌}
use Rattle.std.proofs.Math.Nat.{max-eq_left, le-max_left}
use Rattle.std.proofs.lemmas.Bool.{leb-false, cond_both}
use Rattle.stun_endpoints.specs.declared.endpoints.Endpoint.{Endpoint}
use Rattle.stun_endpoints.specs.declared.endpoints.FiveTuple.{FiveTuple}
use Rattle.stun_grammar.specs.Attributes.{Attribute}
use Rattle.turn_attrs.specs.Turn.{XOR_RELAYED_ADDRESS}
use Rattle.turn_machine.specs.Relays.{seconds, Setup, Rules, State, has_room, has_quota}
use Rattle.turn_machine.specs.Events.{Offer, Want, Missing, Given as GivenAddress, allocate, asks, answers, allocated}
use Rattle.turn_machine.specs.Opening.{number_for, can_open, with_relay, opens_one, opens, has_of, given_to, missing_to, allocation_answer}
use Rattle.turn_machine.specs.Rows.{row, has_any, is_offered, is_ready, allocate_rows}
use Rattle.turn_machine.specs.Steps.{Step, keeping, refuses, allocates, is_again, serves, step}
use Rattle.turn_machine.specs.Times.{at, over_at, granted_for, left_of}
use Rattle.turn_machine.specs.Reserving.{Reservation, OuterState, Outer, plain, reserves, claims, is_claim, held_at, can_reserve, pair_want, reserved_want, no_want, held_after, token_for, OuterStep, outer_step}
use Rattle.turn_allocations.specs.declared.answer.Answer.{Answer}
use Rattle.turn_allocations.specs.declared.answer.Answer.TheVariants.{Allocated, Refreshed, Done, Refused}
use Rattle.turn_allocations.specs.declared.answer.Given.{Given}
use Rattle.turn_allocations.specs.declared.answer.Refusal.{Refusal}
use Rattle.turn_allocations.specs.declared.families.Families.{Families}
use Rattle.turn_allocations.specs.declared.request.Want.{Want as Wish}
use Rattle.turn_allocations.specs.declared.request.Want.TheVariants.{No, Unready, Ready}
use Rattle.turn_allocations.specs.Answers.{answer_of, given_in, given_list, missing_in, missing_list}
use Rattle.turn_allocations.specs.Requests.{has_numbers, number_in, numbers_in, wants_in, wants_of}
use Rattle.turn_server.specs.declared.action.Opened.{Opened}
use Rattle.turn_server.specs.Acting.{opened_as, opened_of, opened_one, opened_in}
use Rattle.turn_server.specs.Actions.{number_of, numbers_of}
use Rattle.turn_server.specs.Answers.{address_attribute, given_attributes, missing_attribute, relayed_attributes}
use Rattle.turn_reservations.specs.Calls.{over_at as tokens_over_at}
use Rattle.turn_reservations.specs.Held.{family_number}
use Rattle.turn_reservations.specs.Requests.{number_of as number_in_family, socket_of, number_for as reserved_number}
use Rattle.turn_server.specs.Wanted.{Wanted, opening, reserving, claiming, other, server_at, outer_of}

-- ---- Numbers that are alike: the same, or both no greater than the next

abbrev pub IsAlike : (next n m : ℕ) → Type 0
IsAlike next n m = (n ≡ m) ⊎ ((n ≤ next) × (m ≤ next))

number_alike : (next n m above : ℕ) → IsAlike next n m → next ≤ above → max above n ≡ max above m
number_alike next n m above (inl same) more = ap (max above) same
number_alike next n m above (inr both) more =
    let first : n ≤ above = omega (arith, both.0, more) in
    let second : m ≤ above = omega (arith, both.1, more) in
    max-eq_left first ∙ sym (max-eq_left second)

abbrev AreReady : ℕ → Option Offer → Option Offer → Type 0
AreReady next None None = Unit {0}
AreReady next (Some o) (Some p) = (o.address ≡ p.address) × IsAlike next o.number p.number
AreReady next _ _ = ⊥

abbrev AreWants : ℕ → List Want → List Want → Type 0
AreWants next [] [] = Unit {0}
AreWants next (w ∷ ws) (v ∷ vs) = (w.family ≡ v.family) × (AreReady next w.ready v.ready × AreWants next ws vs)
AreWants next _ _ = ⊥

both_wants : (next : ℕ) (ws vs more others : List Want) → AreWants next ws vs → AreWants next more others → AreWants next (ws ++ more) (vs ++ others)
both_wants next [] [] more others each rest = rest
both_wants next (w ∷ ws) (v ∷ vs) more others each rest = (each.0, (each.1.0, both_wants next ws vs more others each.1.1 rest))
both_wants next [] (v ∷ vs) more others each rest = absurd each
both_wants next (w ∷ ws) [] more others each rest = absurd each

one_want : (next : ℕ) (is_open : Bool) (family n m : ℕ) (wish : Wish) → IsAlike next n m → AreWants next (wants_in is_open family n wish) (wants_in is_open family m wish)
one_want next is_open family n m No alike = tt
one_want next is_open family n m Unready alike = (refl, (tt, tt))
one_want next true family n m (Ready address) alike = (refl, ((refl, alike), tt))
one_want next false family n m (Ready address) alike = (refl, (tt, tt))

-- ---- What the machine does with wants that are alike

module _ (setup : Setup) (tuple : FiveTuple) (user id expires_at next : ℕ) where
  -- a relayed address of a family under this number, if one can be opened
  abbrev opened_under : (family number : ℕ) → Endpoint → State → State
  opened_under family number address s =
      if can_open setup tuple user (record { family = family; ready = None }) s
      then record {
        clock = s.clock;
        next = number + 1;
        relays = record {
          tuple = tuple;
          user = user;
          transaction_id = id;
          family = family;
          number = number;
          address = address;
          expires_at = expires_at;
          permissions = [];
          channels = [];
        } ∷ s.relays;
      } else s

  one_opens : (f g : ℕ) (r q : Option Offer) → f ≡ g → AreReady next r q → (s : State) → next ≤ s.next
      → opens_one setup tuple user id expires_at (record { family = f; ready = r }) s ≡ opens_one setup tuple user id expires_at (record { family = g; ready = q }) s
  one_opens f g None None same each s above = ap (λ (h : ℕ). opens_one setup tuple user id expires_at (record { family = h; ready = None }) s) same
  one_opens f g (Some o) (Some p) same each s above =
      let number : number_for s o ≡ number_for s p = number_alike next o.number p.number s.next each.1 above in
      λ i. opened_under (same i) (number i) (each.0 i) s
  one_opens f g None (Some p) same each s above = absurd each
  one_opens f g (Some o) None same each s above = absurd each

  above_ready : (family : ℕ) (ready : Option Offer) (s : State) → next ≤ s.next → next ≤ (option_map_or (with_relay tuple user id expires_at family s) ready s).next
  above_ready family None s above = above
  above_ready family (Some o) s above = let more = le-max_left s.next o.number in omega (arith, more, above)

  above_one : (w : Want) (s : State) → next ≤ s.next → next ≤ (opens_one setup tuple user id expires_at w s).next
  above_one w s above =
      cond_both (can_open setup tuple user w s) (option_map_or (with_relay tuple user id expires_at w.family s) w.ready s) s (λ (x : State). next ≤ x.next)
      (λ _. above_ready w.family w.ready s above) (λ _. above)

  opens_alike : (ws vs : List Want) → AreWants next ws vs → (s : State) → next ≤ s.next → opens setup tuple user id expires_at ws s ≡ opens setup tuple user id expires_at vs s
  opens_alike [] [] each s above = refl
  opens_alike (w ∷ ws) (v ∷ vs) each s above =
      opens_alike ws vs each.1.1 (opens_one setup tuple user id expires_at w s) (above_one w s above)
      ∙ ap (opens setup tuple user id expires_at vs) (one_opens w.family v.family w.ready v.ready each.0 each.1.0 s above)
  opens_alike [] (v ∷ vs) each s above = absurd each
  opens_alike (w ∷ ws) [] each s above = absurd each

module _ (setup : Setup) (tuple : FiveTuple) (next : ℕ) where
  offered_alike : (ws vs : List Want) → AreWants next ws vs → list_any (is_offered setup) ws ≡ list_any (is_offered setup) vs
  offered_alike [] [] each = refl
  offered_alike (w ∷ ws) (v ∷ vs) each = λ i. setup.has_family (each.0 i) || offered_alike ws vs each.1.1 i
  offered_alike [] (v ∷ vs) each = absurd each
  offered_alike (w ∷ ws) [] each = absurd each

  some_alike : (r q : Option Offer) → AreReady next r q → is_some r ≡ is_some q
  some_alike None None each = refl
  some_alike (Some o) (Some p) each = refl
  some_alike None (Some p) each = absurd each
  some_alike (Some o) None each = absurd each

  ready_alike : (ws vs : List Want) → AreWants next ws vs → list_any (is_ready setup) ws ≡ list_any (is_ready setup) vs
  ready_alike [] [] each = refl
  ready_alike (w ∷ ws) (v ∷ vs) each = λ i. (setup.has_family (each.0 i) && some_alike w.ready v.ready each.1.0 i) || ready_alike ws vs each.1.1 i
  ready_alike [] (v ∷ vs) each = absurd each
  ready_alike (w ∷ ws) [] each = absurd each

  abbrev reason : Want → Missing
  reason w = record { family = w.family; code = if setup.has_family w.family then 508 else 440 }

  one_missing : (b : Bool) (w v : Want) (ws vs : List Want) → reason w ≡ reason v → map reason ws ≡ map reason vs → map reason (cond b (w ∷ ws) ws) ≡ map reason (cond b (v ∷ vs) vs)
  one_missing true w v ws vs same rest = λ i. same i ∷ rest i
  one_missing false w v ws vs same rest = rest

  missing_alike : (ws vs : List Want) (s : State) → AreWants next ws vs → missing_to setup tuple ws s ≡ missing_to setup tuple vs s
  missing_alike [] [] s each = refl
  missing_alike (w ∷ ws) (v ∷ vs) s each =
      let left : List Want → List Want = filter (λ (x : Want). not (has_of tuple x.family s)) in
      one_missing (not (has_of tuple w.family s)) w v (left ws) (left vs) (λ i. record { family = each.0 i; code = if setup.has_family (each.0 i) then 508 else 440 }) (missing_alike ws vs s each.1.1)
      ∙ ap (λ (f : ℕ). map reason (cond (not (has_of tuple f s)) (v ∷ left vs) (left vs))) each.0
  missing_alike [] (v ∷ vs) s each = absurd each
  missing_alike (w ∷ ws) [] s each = absurd each

  rows_alike : (user : ℕ) (ws vs : List Want) (s : State) → AreWants next ws vs → allocate_rows setup s tuple user ws ≡ allocate_rows setup s tuple user vs
  rows_alike user ws vs s each =
      λ i. row (has_any tuple s) 437
      (row (not (offered_alike ws vs each i)) 440
      (row (not (has_quota setup user s)) 486
      (row (not (has_room setup s)) 508
      (row (not (ready_alike ws vs each i)) 508 None))))

  allocates_alike : (user id lifetime : ℕ) (ws vs : List Want) (s : State) → AreWants next ws vs → next ≤ s.next → allocates setup tuple user id lifetime ws s ≡ allocates setup tuple user id lifetime vs s
  allocates_alike user id lifetime ws vs s each above =
      let expires_at = s.clock + seconds lifetime in
      ap (λ (after : State). keeping after (answers tuple (allocation_answer setup tuple lifetime ws after))) (opens_alike setup tuple user id expires_at next ws vs each s above)
      ∙ (let after = opens setup tuple user id expires_at vs s in
      ap (λ (missing : List Missing). keeping after (answers tuple (allocated (given_to tuple after) lifetime missing))) (missing_alike ws vs after each))

  serves_alike : (rules : Rules) (user id : ℕ) (lifetime : Option ℕ) (ws vs : List Want) (s : State) → AreWants next ws vs → next ≤ s.next
      → serves setup rules tuple user (allocate id lifetime ws) s ≡ serves setup rules tuple user (allocate id lifetime vs) s
  serves_alike rules user id lifetime ws vs s each above =
      λ i. if is_again tuple user (allocate id lifetime ws) s
      then keeping s (answers tuple (allocated (given_to tuple s) (left_of tuple s) (missing_alike ws vs s each i)))
      else option_map_or (refuses tuple s) (rows_alike user ws vs s each i) (allocates_alike user id (granted_for lifetime setup.greatest_lifetime) ws vs s each above i)

-- ---- The step of a request, if the sockets that it uses get numbers that are alike

module _ (setup : Setup) (rules : Rules) (state : State) (now : ℕ) (tuple : FiveTuple) (user : ℕ) where
  wants_alike : (id : ℕ) (lifetime : Option ℕ) (ws vs : List Want) → AreWants state.next ws vs → step setup rules state now (asks tuple user (allocate id lifetime ws)) ≡ step setup rules state now (asks tuple user (allocate id lifetime vs))
  wants_alike id lifetime ws vs each =
      ap (λ (done : Step). record done { closes = over_at now state ++ done.closes })
      (serves_alike setup tuple state.next rules user id lifetime ws vs (at now state) each (omega arith))

-- what a step of the machine leaves of the reservations
abbrev outer_done : Setup → OuterState → (now : ℕ) → Outer → Step → OuterStep
outer_done setup h now outer after =
    let kept = held_after setup (at now h.state) outer after.output (held_at now h) in
    record {
      holding = record { state = after.state; held = kept };
      step = after;
      token = token_for outer after.output kept;
      over = tokens_over_at now h;
    }

ready_if : (next : ℕ) (b : Bool) (r q : Option Offer) → AreReady next r q → AreReady next (cond b r None) (cond b q None)
ready_if next true r q each = each
ready_if next false r q each = tt

ready_same : (next : ℕ) (r : Option Offer) → AreReady next r r
ready_same next None = tt
ready_same next (Some o) = (refl, inl refl)

socket_alike : (next : ℕ) (is_open : Bool) (n m : ℕ) (address : Option Endpoint) → IsAlike next n m → AreReady next (socket_of is_open n address) (socket_of is_open m address)
socket_alike next is_open n m None alike = tt
socket_alike next true n m (Some address) alike = (refl, alike)
socket_alike next false n m (Some address) alike = tt

family_alike : (next : ℕ) (family : ℕ) (n m : Families ℕ) → IsAlike next n.ipv4 m.ipv4 → IsAlike next n.ipv6 m.ipv6 → IsAlike next (number_in_family family n) (number_in_family family m)
family_alike next family n m ipv4 ipv6 = by (family == 1)
  where
    by : (b : Bool) → IsAlike next (cond b n.ipv4 n.ipv6) (cond b m.ipv4 m.ipv6)
    by true = ipv4
    by false = ipv6

module _ (setup : Setup) (rules : Rules) (h : OuterState) (now : ℕ) (tuple : FiveTuple) (user id : ℕ) (lifetime : Option ℕ) where
  pair_alike : (family : ℕ) (r q : Option Offer) (pair_next : Option Endpoint) (token : ℕ) → AreReady h.state.next r q
      → outer_step setup rules h now (reserves tuple user id lifetime (record { family = family; ready = r }) pair_next token) ≡ outer_step setup rules h now (reserves tuple user id lifetime (record { family = family; ready = q }) pair_next token)
  pair_alike family r q None token each =
      ap (outer_done setup h now (reserves tuple user id lifetime (record { family = family; ready = q }) None token))
      (wants_alike setup rules h.state now tuple user id lifetime (pair_want setup user (record { family = family; ready = r }) None token (held_at now h) ∷ []) (pair_want setup user (record { family = family; ready = q }) None token (held_at now h) ∷ []) (refl, (ready_if h.state.next (can_reserve setup user None token (held_at now h)) r q each, tt)))
  pair_alike family r q (Some address) token each =
      ap (outer_done setup h now (reserves tuple user id lifetime (record { family = family; ready = q }) (Some address) token))
      (wants_alike setup rules h.state now tuple user id lifetime (pair_want setup user (record { family = family; ready = r }) (Some address) token (held_at now h) ∷ []) (pair_want setup user (record { family = family; ready = q }) (Some address) token (held_at now h) ∷ []) (refl, (ready_if h.state.next (can_reserve setup user (Some address) token (held_at now h)) r q each, tt)))

  claimed_alike : (is_open : Bool) (n m : Families ℕ) (found : Option Reservation) (unready : Want) → IsAlike h.state.next n.ipv4 m.ipv4 → IsAlike h.state.next n.ipv6 m.ipv6
      → AreWants h.state.next (option_map_or (reserved_want (reserved_number is_open n found)) found unready ∷ []) (option_map_or (reserved_want (reserved_number is_open m found)) found unready ∷ [])
  claimed_alike is_open n m None unready ipv4 ipv6 = (refl, (ready_same h.state.next unready.ready, tt))
  claimed_alike true n m (Some r) unready ipv4 ipv6 = (refl, ((refl, family_alike h.state.next r.family n m ipv4 ipv6), tt))
  claimed_alike false n m (Some r) unready ipv4 ipv6 = (refl, (tt, tt))

  claim_alike : (token : ℕ) (is_open : Bool) (n m : Families ℕ) → IsAlike h.state.next n.ipv4 m.ipv4 → IsAlike h.state.next n.ipv6 m.ipv6
      → let found = find (is_claim user token) (held_at now h) in
      outer_step setup rules h now (claims tuple user id lifetime token (reserved_number is_open n found)) ≡ outer_step setup rules h now (claims tuple user id lifetime token (reserved_number is_open m found))
  claim_alike token is_open n m ipv4 ipv6 =
      let found = find (is_claim user token) (held_at now h) in
      let unready = no_want setup tuple (at now h.state) in
      ap (outer_done setup h now (claims tuple user id lifetime token (reserved_number is_open m found)))
      (wants_alike setup rules h.state now tuple user id lifetime (option_map_or (reserved_want (reserved_number is_open n found)) found unready ∷ []) (option_map_or (reserved_want (reserved_number is_open m found)) found unready ∷ [])
      (claimed_alike is_open n m found unready ipv4 ipv6))

pub request_alike : (setup : Setup) (rules : Rules) (h : OuterState) (now : ℕ) (tuple : FiveTuple) (user : ℕ) (wanted : Wanted) (n m : Families ℕ) → IsAlike h.state.next n.ipv4 m.ipv4 → IsAlike h.state.next n.ipv6 m.ipv6
    → outer_step setup rules h now (outer_of tuple user (server_at now h) n wanted) ≡ outer_step setup rules h now (outer_of tuple user (server_at now h) m wanted)
request_alike setup rules h now tuple user (other request) n m ipv4 ipv6 = refl
request_alike setup rules h now tuple user (opening id lifetime wants) n m ipv4 ipv6 =
    let is_open = has_numbers (at now h.state) in
    let next = h.state.next in
    let each = both_wants next (wants_in is_open 1 n.ipv4 wants.ipv4) (wants_in is_open 1 m.ipv4 wants.ipv4) (wants_in is_open 2 n.ipv6 wants.ipv6) (wants_in is_open 2 m.ipv6 wants.ipv6)
    (one_want next is_open 1 n.ipv4 m.ipv4 wants.ipv4 ipv4) (one_want next is_open 2 n.ipv6 m.ipv6 wants.ipv6 ipv6) in
    ap (outer_done setup h now (plain (asks tuple user (allocate id lifetime (wants_of is_open m wants)))))
    (wants_alike setup rules h.state now tuple user id lifetime (wants_of is_open n wants) (wants_of is_open m wants) each)
request_alike setup rules h now tuple user (reserving r) n m ipv4 ipv6 =
    let is_open = has_numbers (at now h.state) in
    let family = family_number r.family in
    pair_alike setup rules h now tuple user r.id r.lifetime family (socket_of is_open (number_in_family family n) r.address) (socket_of is_open (number_in_family family m) r.address) r.next r.token
    (socket_alike h.state.next is_open (number_in_family family n) (number_in_family family m) r.address (family_alike h.state.next family n m ipv4 ipv6))
request_alike setup rules h now tuple user (claiming c) n m ipv4 ipv6 =
    claim_alike setup rules h now tuple user c.id c.lifetime c.token (has_numbers (at now h.state)) n m ipv4 ipv6

-- ---- The relayed addresses of a client, by family

module _ (test : GivenAddress → Bool) where
  kept_first : (c : Bool) (x y : GivenAddress) → test y ≡ false → find test (cond c (y ∷ x ∷ []) (x ∷ y ∷ [])) ≡ find test (x ∷ [])
  kept_first true x y not_y = ap (λ (b : Bool). cond b (Some y) (find test (x ∷ []))) not_y
  kept_first false x y not_y = ap (λ (b : Bool). cond (test x) (Some x) (cond b (Some y) None)) not_y

  kept_second : (c : Bool) (x y : GivenAddress) → test x ≡ false → find test (cond c (y ∷ x ∷ []) (x ∷ y ∷ [])) ≡ find test (y ∷ [])
  kept_second true x y not_x = ap (λ (b : Bool). cond (test y) (Some y) (cond b (Some x) None)) not_x
  kept_second false x y not_x = ap (λ (b : Bool). cond b (Some x) (find test (y ∷ []))) not_x

found_one : (b : Bool) (number : ℕ) (address : Endpoint) (family : ℕ) → option_map opened_as (cond b (Some (record { family = family; number = number; address = address })) None) ≡ cond b (Some (record { number = number; relayed = address })) None
found_one true number address family = refl
found_one false number address family = refl

abbrev is_new : (next family : ℕ) → GivenAddress → Bool
is_new next family g = (g.family == family) && nat_le next g.number

opened_first : (next : ℕ) (ipv4 ipv6 : Option Given) → opened_of next 1 (given_list (record { ipv4 = ipv4; ipv6 = ipv6 })) ≡ opened_one next ipv4
opened_first next None None = refl
opened_first next None (Some h) = refl
opened_first next (Some g) None = found_one (nat_le next g.number) g.number g.address 1
opened_first next (Some g) (Some h) =
    ap (option_map opened_as) (kept_first (is_new next 1) (nat_lt g.number h.number) (given_in 1 g) (given_in 2 h) refl)
    ∙ found_one (nat_le next g.number) g.number g.address 1

opened_second : (next : ℕ) (ipv4 ipv6 : Option Given) → opened_of next 2 (given_list (record { ipv4 = ipv4; ipv6 = ipv6 })) ≡ opened_one next ipv6
opened_second next None None = refl
opened_second next (Some g) None = refl
opened_second next None (Some h) = found_one (nat_le next h.number) h.number h.address 2
opened_second next (Some g) (Some h) =
    ap (option_map opened_as) (kept_second (is_new next 2) (nat_lt g.number h.number) (given_in 1 g) (given_in 2 h) refl)
    ∙ found_one (nat_le next h.number) h.number h.address 2

-- ---- The numbers that a response shows are as good as those of the answer

number_shown : (b : Bool) (next : ℕ) (g : Given) → nat_le next g.number ≡ b → IsAlike next g.number (number_of (cond b (Some (record { number = g.number; relayed = g.address })) None))
number_shown true next g is = inl refl
number_shown false next g is = let below = leb-false next g.number is in inr (omega (arith, below), omega arith)

one_shown : (next : ℕ) (given : Option Given) → IsAlike next (number_in given) (number_of (opened_one next given))
one_shown next None = inl refl
one_shown next (Some g) = number_shown (nat_le next g.number) next g refl

pub first_shown : (next : ℕ) (answer : Answer) → IsAlike next (numbers_in answer).ipv4 (numbers_of (opened_in next (answer_of answer))).ipv4
first_shown next (Allocated given lifetime missing) =
    subst (λ (o : Option Opened). IsAlike next (number_in given.ipv4) (number_of o)) (sym (opened_first next given.ipv4 given.ipv6)) (one_shown next given.ipv4)
first_shown next (Refreshed lifetime) = inl refl
first_shown next Done = inl refl
first_shown next (Refused refusal) = inl refl

pub second_shown : (next : ℕ) (answer : Answer) → IsAlike next (numbers_in answer).ipv6 (numbers_of (opened_in next (answer_of answer))).ipv6
second_shown next (Allocated given lifetime missing) =
    subst (λ (o : Option Opened). IsAlike next (number_in given.ipv6) (number_of o)) (sym (opened_second next given.ipv4 given.ipv6)) (one_shown next given.ipv6)
second_shown next (Refreshed lifetime) = inl refl
second_shown next Done = inl refl
second_shown next (Refused refusal) = inl refl

-- ---- The attributes of the relayed addresses

module _ (id : ℕ) where
  abbrev spelled : GivenAddress → Attribute
  spelled g = address_attribute XOR_RELAYED_ADDRESS id g.address

  ordered_first : (c : Bool) (g h : Given) → map spelled (filter (λ (x : GivenAddress). x.family == 1) (cond c (given_in 2 h ∷ given_in 1 g ∷ []) (given_in 1 g ∷ given_in 2 h ∷ []))) ≡ given_attributes id (Some g)
  ordered_first true g h = refl
  ordered_first false g h = refl

  ordered_second : (c : Bool) (g h : Given) → map spelled (filter (λ (x : GivenAddress). x.family == 2) (cond c (given_in 2 h ∷ given_in 1 g ∷ []) (given_in 1 g ∷ given_in 2 h ∷ []))) ≡ given_attributes id (Some h)
  ordered_second true g h = refl
  ordered_second false g h = refl

  pub relayed_by_family : (given : Families (Option Given)) → given_attributes id given.ipv4 ++ given_attributes id given.ipv6 ≡ relayed_attributes id (given_list given)
  relayed_by_family given = by given.ipv4 given.ipv6
    where
      by : (ipv4 ipv6 : Option Given) → given_attributes id ipv4 ++ given_attributes id ipv6 ≡ relayed_attributes id (given_list (record { ipv4 = ipv4; ipv6 = ipv6 }))
      by None None = refl
      by (Some g) None = refl
      by None (Some h) = refl
      by (Some g) (Some h) = λ i. sym (ordered_first (nat_lt g.number h.number) g h) i ++ sym (ordered_second (nat_lt g.number h.number) g h) i

pub missing_by_family : (missing : Families (Option Refusal)) → map missing_attribute (missing_in 1 missing.ipv4) ++ map missing_attribute (missing_in 2 missing.ipv6) ≡ map missing_attribute (missing_list missing)
missing_by_family missing = by missing.ipv4 missing.ipv6
  where
    by : (ipv4 ipv6 : Option Refusal) → map missing_attribute (missing_in 1 ipv4) ++ map missing_attribute (missing_in 2 ipv6) ≡ map missing_attribute (missing_in 1 ipv4 ++ missing_in 2 ipv6)
    by None ipv6 = refl
    by (Some refusal) ipv6 = refl
