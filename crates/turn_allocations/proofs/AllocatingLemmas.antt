-- What an Allocate request opens, one family after the other.
use Rattle.std.proofs.Common.{◌≡◌, ℕ, ◌+◌, ◌-◌, ◌/◌, ◌<◌, ◌≤◌, Bool, true, false, not, cond, List, [], ◌∷◌, ◌++◌, map, find, length, Option, None, Some, refl, sym, ap, ◌∙◌, subst, arith, rules, inl, inr, eq-eqb, min}
use Rattle.std.specs.List.{AllByRecursion, list_any}
use Rattle.std.specs.Option.{option_map_or}
use Rattle.std.specs.Prelude.{◌&&◌, ◌||◌, ◌==◌, nat_le, is_some, IfSome, IfNone}
use Rattle.std.proofs.Math.Nat.{max-eq_right}
use Rattle.std.proofs.lemmas.Bool.{cond_both, cond-true, cond-false, and_parts, and_from, and_right, cases_Bool}
use Rattle.std.proofs.lemmas.List.{append-nil, length-set}
use Rattle.stun_endpoints.specs.declared.endpoints.Ip.{Ip}
use Rattle.stun_endpoints.specs.declared.endpoints.Endpoint.{Endpoint}
use Rattle.stun_endpoints.specs.declared.endpoints.FiveTuple.{FiveTuple}
use Rattle.stun_endpoints.specs.Endpoints.{is_ip, is_endpoint, is_tuple}
use Rattle.turn_slots.specs.Numbers.{rounds}
use Rattle.turn_machine.specs.Lists.{times}
use Rattle.turn_machine.specs.Relays.{seconds, Relay, Setup, Rules, State, is_of, is_for, has_room, has_quota}
use Rattle.turn_machine.specs.Events.{Offer, Want as MachineWant, Missing, allocate, answers}
use Rattle.turn_machine.specs.Opening.{number_for, with_relay, can_open, opens_one, opens, has_of, missing_to, allocation_answer}
use Rattle.turn_machine.specs.Rows.{allocate_rows}
use Rattle.turn_machine.specs.Times.{granted_for, first_end, earlier_of, left_of}
use Rattle.turn_machine.specs.Steps.{Step, keeping, allocates, refuses, is_again, serves_new, serves}
use Rattle.turn_relays.specs.Relayed.{Table, state_of, Holds, Each, opened, Opens, IsClosed}
use Rattle.turn_relays.specs.Following.{listed, ListFollowsSlots}
use Rattle.turn_relays.specs.Listing.{ListHasSlots}
use Rattle.turn_allocations.specs.declared.answer.Refusal.{Refusal}
use Rattle.turn_allocations.specs.declared.answer.Answer.{Answer}
use Rattle.turn_allocations.specs.declared.answer.Answer.TheVariants.{Refused}
use Rattle.turn_allocations.specs.declared.families.Families.{Families}
use Rattle.turn_allocations.specs.declared.request.Want.{Want}
use Rattle.turn_allocations.specs.declared.request.Want.TheVariants.{No, Unready, Ready}
use Rattle.turn_allocations.specs.Answers.{code_of, answer_of}
use Rattle.turn_allocations.specs.Clients.{lifetime_max, is_sound, AreSound, Becomes}
use Rattle.turn_allocations.specs.Ending.{Numbers}
use Rattle.turn_allocations.specs.Requests.{offer_of, wants_in, wants_of, numbers_in, number_to, OpensOf, Grants}
use Rattle.turn_allocations.specs.Serving.{Serves}

-- ---- Tests of a list

differ : (b : Bool) → b ≡ true → b ≡ false → ⊥
differ true is also = absurd cc
differ false is also = absurd cc

none_passes : {X : Type 0} (p : X → Bool) (xs : List X) → AllByRecursion (λ x. p x ≡ false) xs → list_any p xs ≡ false
none_passes p [] each = refl
none_passes p (x ∷ xs) each = ap (λ (b : Bool). b || list_any p xs) each.0 ∙ none_passes p xs each.1

each_fails : {X : Type 0} (p : X → Bool) (xs : List X) → list_any p xs ≡ false → AllByRecursion (λ x. not (p x) ≡ true) xs
each_fails p [] none = tt
each_fails p (x ∷ xs) none =
    let parts = neither (p x) (list_any p xs) none in
    (ap not parts.0, each_fails p xs parts.1)
  where
    neither : (a b : Bool) → (a || b) ≡ false → (a ≡ false) × (b ≡ false)
    neither true b is = absurd cc
    neither false b is = (refl, is)

not_true : (b : Bool) → not b ≡ true → b ≡ false
not_true true is = absurd cc
not_true false is = refl

-- whether one can be opened, of its four tests
pub can_is : (setup : Setup) (tuple : FiveTuple) (user family : ℕ) (ready : Option Offer) (s : State) (a b c d : Bool)
    → a ≡ setup.has_family family → b ≡ has_quota setup user s → c ≡ has_room setup s → has_of tuple family s ≡ not d
    → (((a && b) && c) && d) ≡ can_open setup tuple user (record { family = family; ready = ready }) s
can_is setup tuple user family ready s a b c d first second third fourth =
    turned a b c d
    ∙ λ i. first i && (second i && (third i && (sym (not_twice d) ∙ ap not (sym fourth)) i))
  where
    not_twice : (x : Bool) → not (not x) ≡ x
    not_twice true = refl
    not_twice false = refl

    turned : (a b c d : Bool) → (((a && b) && c) && d) ≡ (a && (b && (c && d)))
    turned true true true d = refl
    turned true true false d = refl
    turned true false c d = refl
    turned false b c d = refl

-- what no relayed address of the list passes, none in a slot does
pub each_slot_fails : ListHasSlots → (t : Table) (p : Relay → Bool) → list_any p (state_of t).relays ≡ false → Each t (λ r. p r ≡ false)
each_slot_fails has t p none slot r there =
    not_true (p r) (has.each t.slots (λ a. not (p a)) (each_fails p (state_of t).relays none) slot r there)

-- a look-up finds one that passes, if there is one
pub found_any : ListFollowsSlots → ListHasSlots → (t : Table) (p : Relay → Bool) (found : Option ℕ)
    → IfSome found (λ slot. (r : Relay) × Holds t slot r × (p r ≡ true)) → IfNone found (Each t (λ r. p r ≡ false))
    → list_any p (state_of t).relays ≡ is_some found
found_any follows has t p None some none = none_passes p (state_of t).relays (follows.missing t.slots p none)
found_any follows has t p (Some slot) some none = elim (cases_Bool (list_any p (state_of t).relays)) [
  | inl yes_it ↦ yes_it
  | inr no_it ↦ absurd (differ (p some.0) some.2 (each_slot_fails has t p no_it slot some.0 some.1))
]

-- a table with a free slot, and with numbers left, opens what is asked of it
pub opens_it : ListHasSlots → (old new : Table) (its : ℕ → Relay) (limit : ℕ) (found : Option ℕ)
    → IfSome found (λ n. (slot : ℕ) × Opens slot (its n) old new) → IfNone found (IsClosed old × (new ≡ old))
    → length (state_of old).relays < limit → length old.slots ≡ limit → old.openings < rounds
    → (n : ℕ) × (slot : ℕ) × Opens slot (its n) old new
opens_it has old new its limit (Some n) some none few room last = (n, some.0, some.1)
opens_it has old new its limit None some none few room last = absurd (elim none.0 [
  | inl full ↦ let all = has.full old.slots full in omega (arith, all, few, room)
  | inr all ↦ omega (arith, all, last)
])

-- ---- One family

module _ (setup : Setup) (tuple : FiveTuple) (user id expires_at : ℕ) where
  pub opens_append : (some others : List MachineWant) (s : State) → opens setup tuple user id expires_at (some ++ others) s ≡ opens setup tuple user id expires_at others (opens setup tuple user id expires_at some s)
  opens_append [] others s = refl
  opens_append (w ∷ some) others s = opens_append some others (opens_one setup tuple user id expires_at w s)

  -- the state stays, or has one relayed address more
  opens_cases : (is_open : Bool) (family number : ℕ) (want : Want) (s : State) (P : State → Type 0) → P s → ((offer : Offer) → P (with_relay tuple user id expires_at family s offer))
      → P (opens setup tuple user id expires_at (wants_in is_open family number want) s)
  opens_cases is_open family number No s P same more = same
  opens_cases is_open family number Unready s P same more =
      cond_both (can_open setup tuple user (record { family = family; ready = None }) s) s s P (λ _. same) (λ _. same)
  opens_cases true family number (Ready address) s P same more =
      let offer : Offer = record { number = number; address = address } in
      cond_both (can_open setup tuple user (record { family = family; ready = Some offer }) s) (with_relay tuple user id expires_at family s offer) s P (λ _. more offer) (λ _. same)
  opens_cases false family number (Ready address) s P same more =
      cond_both (can_open setup tuple user (record { family = family; ready = None }) s) s s P (λ _. same) (λ _. same)

  -- another family's is found as before
  pub number_stays : (is_open : Bool) (family other number : ℕ) (want : Want) (s : State) → (family == other) ≡ false
      → number_to tuple other (opens setup tuple user id expires_at (wants_in is_open family number want) s) ≡ number_to tuple other s
  number_stays is_open family other number want s apart =
      opens_cases is_open family number want s (λ after. number_to tuple other after ≡ number_to tuple other s) refl
      (λ offer. ap (λ (o : Option Relay). option_map_or (λ a. a.number) o 0)
      (cond-false (is_tuple tuple tuple && (family == other)) (Some (record { tuple = tuple; user = user; transaction_id = id; family = family; number = number_for s offer; address = offer.address; expires_at = expires_at; permissions = []; channels = [] })) (find (is_for tuple other) s.relays)
      (and_right (is_tuple tuple tuple) (family == other) apart)))

  -- the client can't have one: nothing is opened
  barred_opens : (family number : ℕ) (address : Endpoint) (s : State)
      → can_open setup tuple user (record { family = family; ready = Some (record { number = number; address = address }) }) s ≡ false
      → opens setup tuple user id expires_at (wants_in true family number (Ready address)) s ≡ s
  barred_opens family number address s cannot =
      cond-false (can_open setup tuple user (record { family = family; ready = Some (record { number = number; address = address }) }) s)
      (with_relay tuple user id expires_at family s (record { number = number; address = address })) s cannot

  stays_of : (family : ℕ) (want : Want) (t : Table) → ((number : ℕ) → opens setup tuple user id expires_at (wants_in true family number want) (state_of t) ≡ state_of t) → OpensOf setup tuple user id expires_at family want t t
  stays_of family want t same = record {
    state_is = sym (same (number_to tuple family (state_of t)));
    slots = refl;
    clock = refl;
    openings = omega arith;
  }

  pub barred_of : (family : ℕ) (want : Want) (address : Endpoint) (t : Table) → want ≡ Ready address → ((ready : Option Offer) → can_open setup tuple user (record { family = family; ready = ready }) (state_of t) ≡ false) → OpensOf setup tuple user id expires_at family want t t
  barred_of family want address t is cannot =
      subst (λ (w : Want). OpensOf setup tuple user id expires_at family w t t) (sym is)
      (stays_of family (Ready address) t (λ number. barred_opens family number address (state_of t) (cannot (Some (record { number = number; address = address })))))

  ip_is_itself : (a : Ip) → is_ip a a ≡ true
  ip_is_itself a = and_from (a.family == a.family) (a.number == a.number) (eq-eqb a.family a.family refl) (eq-eqb a.number a.number refl)

  endpoint_is_itself : (a : Endpoint) → is_endpoint a a ≡ true
  endpoint_is_itself a = and_from (is_ip a.ip a.ip) (a.port == a.port) (ip_is_itself a.ip) (eq-eqb a.port a.port refl)

  tuple_is_itself : (a : FiveTuple) → is_tuple a a ≡ true
  tuple_is_itself a =
      and_from (is_endpoint a.client a.client) (is_endpoint a.server a.server && (a.transport == a.transport)) (endpoint_is_itself a.client)
      (and_from (is_endpoint a.server a.server) (a.transport == a.transport) (endpoint_is_itself a.server) (eq-eqb a.transport a.transport refl))

  module _ (follows : ListFollowsSlots) (family : ℕ) (address : Endpoint) (old new : Table) (n slot : ℕ)
      (below : Each old (λ r. r.number < old.next))
      (o : Opens slot (opened (record { tuple = tuple; family = family }) user id address expires_at n) old new) where
    abbrev its : ℕ → Relay
    its m = opened (record { tuple = tuple; family = family }) user id address expires_at m

    listed_is : listed new.slots ≡ its n ∷ listed old.slots
    listed_is =
        ap (λ (t : Table). listed t.slots) o.state
        ∙ follows.opened old.slots slot (its n) o.within o.free
        (λ at other there. let less = below at other there in let least = o.number in omega (arith, less, least))

    state_after : state_of new ≡ record { clock = old.clock; next = n + 1; relays = its n ∷ listed old.slots }
    state_after = λ i. record {
      clock = ap (λ (t : Table). t.clock) o.state i;
      next = ap (λ (t : Table). t.next) o.state i;
      relays = listed_is i;
    }

    is_its : is_for tuple family (its n) ≡ true
    is_its = and_from (is_tuple tuple tuple) (family == family) (tuple_is_itself tuple) (eq-eqb family family refl)

    number_after : number_to tuple family (state_of new) ≡ n
    number_after =
        ap (λ (rs : List Relay). option_map_or (λ a. a.number) (find (is_for tuple family) rs) 0) listed_is
        ∙ ap (λ (r : Option Relay). option_map_or (λ a. a.number) r 0) (cond-true (is_for tuple family (its n)) (Some (its n)) (find (is_for tuple family) (listed old.slots)) is_its)

    opened_state : can_open setup tuple user (record { family = family; ready = Some (record { number = n; address = address }) }) (state_of old) ≡ true
        → state_of new ≡ opens setup tuple user id expires_at (wants_in true family n (Ready address)) (state_of old)
    opened_state can =
        state_after
        ∙ (ap (λ (m : ℕ). record { clock = old.clock; next = m + 1; relays = its m ∷ listed old.slots }) (sym (max-eq_right {n = old.next} {m = n} o.number))
        ∙ sym (cond-true (can_open setup tuple user (record { family = family; ready = Some (record { number = n; address = address }) }) (state_of old))
        (with_relay tuple user id expires_at family (state_of old) (record { number = n; address = address })) (state_of old) can))

    pub opened_of : ((ready : Option Offer) → can_open setup tuple user (record { family = family; ready = ready }) (state_of old) ≡ true) → OpensOf setup tuple user id expires_at family (Ready address) old new
    opened_of can = record {
      state_is =
          opened_state (can (Some (record { number = n; address = address })))
          ∙ ap (λ (m : ℕ). opens setup tuple user id expires_at (wants_in true family m (Ready address)) (state_of old)) (sym number_after);
      slots = ap (λ (t : Table). length t.slots) o.state ∙ length-set old.slots slot (Some (its n));
      clock = ap (λ (t : Table). t.clock) o.state;
      openings = let e = ap (λ (t : Table). t.openings) o.state in omega (arith, e);
    }

    pub opened_sound : AreSound old → ((family == 1) || (family == 2)) ≡ true → expires_at ≤ old.clock + seconds lifetime_max → AreSound new
    opened_sound sound is_family soon =
        subst (λ (rs : List Relay). AllByRecursion (λ r. is_sound new.clock r ≡ true) rs) (sym listed_is)
        (subst (λ (clock : ℕ). AllByRecursion (λ r. is_sound clock r ≡ true) (its n ∷ listed old.slots)) (sym (ap (λ (t : Table). t.clock) o.state))
        (and_from ((family == 1) || (family == 2)) (nat_le expires_at (old.clock + seconds lifetime_max)) is_family (le_is expires_at (old.clock + seconds lifetime_max) soon), sound))
      where
        le_is : (a b : ℕ) → a ≤ b → nat_le a b ≡ true
        le_is a b le = search rules

-- ---- Both families

module _ (setup : Setup) (tuple : FiveTuple) (user id lifetime : ℕ) (wants : Families Want) (old mid new : Table) (expires_at : ℕ) (a : Answer)
    (until_is : expires_at ≡ old.clock + seconds lifetime)
    (first : OpensOf setup tuple user id expires_at 1 wants.ipv4 old mid)
    (second : OpensOf setup tuple user id expires_at 2 wants.ipv6 mid new)
    (shown : numbers_in a ≡ record { ipv4 = number_to tuple 1 (state_of new); ipv6 = number_to tuple 2 (state_of new) })
    (answer_is : answer_of a ≡ allocation_answer setup tuple lifetime (wants_of true (numbers_in a) wants) (state_of new)) where
  -- one family after the other, with the numbers that the answer shows
  first_number : (numbers_in a).ipv4 ≡ number_to tuple 1 (state_of mid)
  first_number =
      ap (λ (n : Families ℕ). n.ipv4) shown
      ∙ (ap (number_to tuple 1) second.state_is
      ∙ number_stays setup tuple user id expires_at true 2 1 (number_to tuple 2 (state_of new)) wants.ipv6 (state_of mid) refl)

  first_is : opens setup tuple user id expires_at (wants_in true 1 (numbers_in a).ipv4 wants.ipv4) (state_of old) ≡ state_of mid
  first_is = ap (λ (n : ℕ). opens setup tuple user id expires_at (wants_in true 1 n wants.ipv4) (state_of old)) first_number ∙ sym first.state_is

  second_is : opens setup tuple user id expires_at (wants_in true 2 (numbers_in a).ipv6 wants.ipv6) (state_of mid) ≡ state_of new
  second_is = ap (λ (n : ℕ). opens setup tuple user id expires_at (wants_in true 2 n wants.ipv6) (state_of mid)) (ap (λ (n : Families ℕ). n.ipv6) shown) ∙ sym second.state_is

  both_are : opens setup tuple user id (old.clock + seconds lifetime) (wants_of true (numbers_in a) wants) (state_of old) ≡ state_of new
  both_are =
      ap (λ (u : ℕ). opens setup tuple user id u (wants_of true (numbers_in a) wants) (state_of old)) (sym until_is)
      ∙ (opens_append setup tuple user id expires_at (wants_in true 1 (numbers_in a).ipv4 wants.ipv4) (wants_in true 2 (numbers_in a).ipv6 wants.ipv6) (state_of old)
      ∙ (ap (opens setup tuple user id expires_at (wants_in true 2 (numbers_in a).ipv6 wants.ipv6)) first_is ∙ second_is))

  pub grants_both : Grants setup tuple user id lifetime wants old new a
  grants_both = record {
    becomes = record { state_is = sym both_are; slots = second.slots ∙ first.slots };
    answered =
        ap (λ (s : State). answers tuple (allocation_answer setup tuple lifetime (wants_of true (numbers_in a) wants) s)) both_are
        ∙ ap (answers tuple) (sym answer_is);
  }

-- ---- What a client has none of

module _ (setup : Setup) (tuple : FiveTuple) (s : State) (family : ℕ) (ready : Option Offer) where
  abbrev want : MachineWant
  want = record { family = family; ready = ready }

  abbrev reason : Bool → List Missing
  reason supported = record { family = family; code = cond supported 508 440 } ∷ []

  missing_if : missing_to setup tuple (want ∷ []) s ≡ cond (not (has_of tuple family s)) (reason (setup.has_family family)) []
  missing_if =
      cond_both (not (has_of tuple family s)) (want ∷ []) [] (λ ws. map (λ (w : MachineWant). record { family = w.family; code = cond (setup.has_family w.family) 508 440 }) ws ≡ cond (not (has_of tuple family s)) (reason (setup.has_family family)) [])
      (λ is. sym (cond-true (not (has_of tuple family s)) (reason (setup.has_family family)) [] is))
      (λ isnt. sym (cond-false (not (has_of tuple family s)) (reason (setup.has_family family)) [] isnt))

  pub none_missing : has_of tuple family s ≡ true → missing_to setup tuple (want ∷ []) s ≡ []
  none_missing has = missing_if ∙ cond-false (not (has_of tuple family s)) (reason (setup.has_family family)) [] (ap not has)

  pub some_missing : (supported : Bool) → has_of tuple family s ≡ false → setup.has_family family ≡ supported → missing_to setup tuple (want ∷ []) s ≡ reason supported
  some_missing supported has_none is =
      missing_if
      ∙ (cond-true (not (has_of tuple family s)) (reason (setup.has_family family)) [] (ap not has_none) ∙ ap reason is)

pub missing_asked_is : (setup : Setup) (tuple : FiveTuple) (s : State) (is_open : Bool) (family number : ℕ) (want : Want) (list : List Missing) → (want ≡ No → ⊥)
    → ((ready : Option Offer) → list ≡ missing_to setup tuple (record { family = family; ready = ready } ∷ []) s)
    → list ≡ missing_to setup tuple (wants_in is_open family number want) s
missing_asked_is setup tuple s is_open family number No list asked is = absurd (asked refl)
missing_asked_is setup tuple s is_open family number Unready list asked is = is None
missing_asked_is setup tuple s is_open family number (Ready address) list asked is = is (offer_of is_open number address)

-- ---- The time that is left

earlier_least : (end : ℕ) (other : Option ℕ) → earlier_of end other ≤ end
earlier_least end None = omega arith
earlier_least end (Some other) = omega arith

first_soon : (tuple : FiveTuple) (clock : ℕ) (rs : List Relay) → AllByRecursion (λ r. is_sound clock r ≡ true) rs → (end : ℕ) → first_end tuple rs ≡ Some end → end ≤ clock + seconds lifetime_max
first_soon tuple clock [] sound end is = absurd cc
first_soon tuple clock (r ∷ rs) sound end first =
    cond_both (is_of tuple r) (Some (earlier_of r.expires_at (first_end tuple rs))) (first_end tuple rs) (λ o. o ≡ Some end → end ≤ clock + seconds lifetime_max)
    (λ _ is.
    let same : earlier_of r.expires_at (first_end tuple rs) ≡ end = cc in
    let least = earlier_least r.expires_at (first_end tuple rs) in
    let soon : r.expires_at ≤ clock + seconds lifetime_max = le_of r.expires_at (clock + seconds lifetime_max) (and_parts ((r.family == 1) || (r.family == 2)) (nat_le r.expires_at (clock + seconds lifetime_max)) sound.0).1 in
    omega (arith, same, least, soon))
    (λ _ is. first_soon tuple clock rs sound.1 end is) first
  where
    le_of : (x y : ℕ) → nat_le x y ≡ true → x ≤ y
    le_of x y is = search rules

pub left_is : (tuple : FiveTuple) (t : Table) (end : ℕ) → AreSound t → first_end tuple (state_of t).relays ≡ Some end
    → min ((end - t.clock) / 1_000_000_000) 4_294_967_295 ≡ left_of tuple (state_of t)
left_is tuple t end sound is =
    let soon = first_soon tuple t.clock (state_of t).relays sound end is in
    small end t.clock soon
    ∙ ap (λ (o : Option ℕ). option_map_or (λ e. (e - t.clock) / seconds 1) o 0) (sym is)
  where
    small : (end clock : ℕ) → end ≤ clock + seconds lifetime_max → min ((end - clock) / 1_000_000_000) 4_294_967_295 ≡ (end - clock) / 1_000_000_000
    small end clock soon = omega arith

-- ---- What a request leaves

module _ (setup : Setup) (rules : Rules) (tuple : FiveTuple) (user id : ℕ) (lifetime : Option ℕ) (wants : List MachineWant) (old new : Table) (ended : Numbers) (a : Answer) where
  serves_as : (s : Step) → serves setup rules tuple user (allocate id lifetime wants) (state_of old) ≡ s → s.output ≡ answers tuple (answer_of a) → s.closes ≡ [] → Becomes old new s.state
      → Serves setup rules tuple user (allocate id lifetime wants) old new ended ended a
  serves_as s is output closes becomes = record {
    answered = ap (λ (x : Step). x.output) is ∙ output;
    done = record {
      becomes = record { state_is = becomes.state_is ∙ ap (λ (x : Step). x.state) (sym is); slots = becomes.slots };
      closes = record {
        room = refl;
        numbers = λ n. ap (times n) (sym (append-nil ended.numbers) ∙ ap (λ (ns : List ℕ). ended.numbers ++ ns) (sym (ap (λ (x : Step). x.closes) is ∙ closes)));
      };
    };
  }

  serves_next : is_again tuple user (allocate id lifetime wants) (state_of old) ≡ false → (code : Option ℕ) → allocate_rows setup (state_of old) tuple user wants ≡ code
      → serves setup rules tuple user (allocate id lifetime wants) (state_of old)
      ≡ option_map_or (refuses tuple (state_of old)) code (allocates setup tuple user id (granted_for lifetime setup.greatest_lifetime) wants (state_of old))
  serves_next new_one code is =
      cond-false (is_again tuple user (allocate id lifetime wants) (state_of old)) (keeping (state_of old) (answers tuple (allocation_answer setup tuple (left_of tuple (state_of old)) wants (state_of old)))) (serves_new setup rules tuple user (allocate id lifetime wants) (state_of old)) new_one
      ∙ ap (λ (o : Option ℕ). option_map_or (refuses tuple (state_of old)) o (allocates setup tuple user id (granted_for lifetime setup.greatest_lifetime) wants (state_of old))) is

pub serves_refused : (setup : Setup) (rules : Rules) (tuple : FiveTuple) (user id : ℕ) (lifetime : Option ℕ) (wants : List MachineWant) (t : Table) (ended : Numbers) (refusal : Refusal)
    → is_again tuple user (allocate id lifetime wants) (state_of t) ≡ false
    → allocate_rows setup (state_of t) tuple user wants ≡ Some (code_of refusal)
    → Serves setup rules tuple user (allocate id lifetime wants) t t ended ended (Refused refusal)
serves_refused setup rules tuple user id lifetime wants t ended refusal new_one is =
    serves_as setup rules tuple user id lifetime wants t t ended (Refused refusal)
    (refuses tuple (state_of t) (code_of refusal))
    (serves_next setup rules tuple user id lifetime wants t t ended (Refused refusal) new_one (Some (code_of refusal)) is)
    refl refl (record { state_is = refl; slots = refl })
