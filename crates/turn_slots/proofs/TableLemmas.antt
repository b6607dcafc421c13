-- What is kept beside the entries of a table.
use Rattle.std.proofs.Common.{◌≡◌, ℕ, ◌+◌, ◌%◌, ◌<◌, ◌≤◌, Bool, true, false, List, [], ◌∷◌, Option, None, Some, length, get_or, set, map, count_by, suc, zero, sym, ap, subst, refl, ◌∙◌, inl, inr, arith}
use Rattle.std.specs.Prelude.{◌==◌, ◌&&◌, nat_lt, if◌then◌else◌}
use Rattle.std.specs.Option.{IfSome, IfNone}
use Rattle.std.proofs.lemmas.Bool.{cases_lt, cond-true, cond-false, lt-ltb, le-ltb, eq-eqb, ne_eqb, eqb-true}
use Rattle.std.proofs.lemmas.List.{get_or-set_same, get_or-set_other, length-set, length-map, get_or-map, get_or_past, map-set}
use Rattle.std.proofs.lemmas.List.Sums.{sum_by-set, sum_by-cons, get_or-le-sum_by, count_by-le-length}
use Rattle.stun_endpoints.specs.declared.endpoints.Ip.{Ip}
use Rattle.stun_endpoints.specs.declared.endpoints.Endpoint.{Endpoint}
use Rattle.stun_endpoints.specs.Endpoints.{is_ip, is_endpoint, is_tuple}
use Rattle.turn_slots.specs.Tables.{AreHeld, IsTable, IsPlaceOf, key_at, deadline_at}
use Rattle.turn_slots.specs.Users.{UserId, is_user}
use Rattle.turn_slots.specs.Slots.{Entry}
use Rattle.stun_endpoints.specs.declared.endpoints.FiveTuple.{FiveTuple}
use Rattle.turn_slots.specs.Relays.{RelayKey, is_relay}
use Rattle.turn_slots.specs.Numbers.{places, rounds}
use Rattle.turn_slots.specs.Groups.{Partition, number_in}
use Rattle.turn_slots.specs.Keys.{IsFullOf, is_key, has_key_at}
use Rattle.turn_slots.specs.Deadlines.{never}
use Rattle.turn_slots.proofs.RingsLemmas.{same_or_not}
use Rattle.turn_slots.proofs.MovesLemmas.{one_if}
use Rattle.turn_slots.proofs.KeysLemmas.{none_or_some, none_isnt, some_same, is_there}

-- ---- Keys and users that are equal by the test

false_isnt : false ≡ true → ⊥
false_isnt e = cc

both_true : (a b : Bool) → (a && b) ≡ true → (a ≡ true) × (b ≡ true)
both_true true b e = (refl, e)
both_true false b e = absurd (false_isnt e)

ip_same : (a b : Ip) → is_ip a b ≡ true → a ≡ b
ip_same a b e =
    let parts = both_true (a.family == b.family) (a.number == b.number) e in
    let f = eqb-true a.family b.family parts.0 in
    let n = eqb-true a.number b.number parts.1 in
    ap (λ (z : ℕ). record { family = z; number = a.number }) f ∙ ap (λ (z : ℕ). record { family = b.family; number = z }) n

endpoint_same : (a b : Endpoint) → is_endpoint a b ≡ true → a ≡ b
endpoint_same a b e =
    let parts = both_true (is_ip a.ip b.ip) (a.port == b.port) e in
    let i = ip_same a.ip b.ip parts.0 in
    let p = eqb-true a.port b.port parts.1 in
    ap (λ (z : Ip). record { ip = z; port = a.port }) i ∙ ap (λ (z : ℕ). record { ip = b.ip; port = z }) p

pub tuple_same : (a b : FiveTuple) → is_tuple a b ≡ true → a ≡ b
tuple_same a b e =
    let parts = both_true (is_endpoint a.client b.client) (is_endpoint a.server b.server && (a.transport == b.transport)) e in
    let rest = both_true (is_endpoint a.server b.server) (a.transport == b.transport) parts.1 in
    let c = endpoint_same a.client b.client parts.0 in
    let s = endpoint_same a.server b.server rest.0 in
    let t = eqb-true a.transport b.transport rest.1 in
    ap (λ (z : Endpoint). record { client = z; server = a.server; transport = a.transport }) c
    ∙ (ap (λ (z : Endpoint). record { client = b.client; server = z; transport = a.transport }) s
    ∙ ap (λ (z : ℕ). record { client = b.client; server = b.server; transport = z }) t)

pub user_same : (a b : UserId) → is_user a b ≡ true → a ≡ b
user_same a b e =
    let parts = both_true (a.high == b.high) (a.low == b.low) e in
    let h = eqb-true a.high b.high parts.0 in
    let l = eqb-true a.low b.low parts.1 in
    ap (λ (z : ℕ). record { high = z; low = a.low }) h ∙ ap (λ (z : ℕ). record { high = b.high; low = z }) l

pub user_itself : (a : UserId) → is_user a a ≡ true
user_itself a = rw (eq-eqb a.high a.high refl) (eq-eqb a.low a.low refl)

pub tuple_itself : (a : FiveTuple) → is_tuple a a ≡ true
tuple_itself a =
    rw (eq-eqb a.client.ip.family a.client.ip.family refl, eq-eqb a.client.ip.number a.client.ip.number refl, eq-eqb a.client.port a.client.port refl, eq-eqb a.server.ip.family a.server.ip.family refl, eq-eqb a.server.ip.number a.server.ip.number refl, eq-eqb a.server.port a.server.port refl)
    (eq-eqb a.transport a.transport refl)

pub relay_same : (a b : RelayKey) → is_relay a b ≡ true → a ≡ b
relay_same a b e =
    let parts = both_true (is_tuple a.tuple b.tuple) (a.family == b.family) e in
    let c = tuple_same a.tuple b.tuple parts.0 in
    let f = eqb-true a.family b.family parts.1 in
    ap (λ (z : FiveTuple). record { tuple = z; family = a.family }) c ∙ ap (λ (z : ℕ). record { tuple = b.tuple; family = z }) f

pub relay_itself : (a : RelayKey) → is_relay a a ≡ true
relay_itself a = rw (tuple_itself a.tuple) (eq-eqb a.family a.family refl)

-- ---- A list that is made of the entries

pub map_at : {X : Type 0} (f : Option Entry → X) (xs : List (Option Entry)) (i : ℕ) → get_or (map f xs) i (f None) ≡ f (get_or xs i None)
map_at f xs i = elim (cases_lt i (length xs)) [
  | inl lt ↦ get_or-map f xs i None (f None) lt
  | inr ge ↦ get_or_past (map f xs) i (f None) (subst (λ (z : ℕ). z ≤ i) (sym (length-map xs f)) ge) ∙ ap f (sym (get_or_past xs i None ge))
]

-- ---- The slot of a key

module _ (entries : List (Option Entry)) (keys : List (Option RelayKey)) (are : keys ≡ map key_at entries)
    (key : RelayKey) (slot : ℕ) where
  keys_at : get_or keys slot None ≡ key_at (get_or entries slot None)
  keys_at = ap (λ (z : List (Option RelayKey)). get_or z slot None) are ∙ map_at key_at entries slot

  key_is : has_key_at is_relay keys slot key ≡ is_key is_relay key (key_at (get_or entries slot None))
  key_is = ap (is_key is_relay key) keys_at

  pub key_found : has_key_at is_relay keys slot key ≡ true → (e : Entry) × (get_or entries slot None ≡ Some e) × (is_relay key e.key ≡ true)
  key_found is = elim (none_or_some (get_or entries slot None)) [
    | inl none ↦ absurd (false_isnt (sym (ap (λ (o : Option Entry). is_key is_relay key (key_at o)) none) ∙ (sym key_is ∙ is)))
    | inr it ↦ (it.0, it.1, sym (ap (λ (o : Option Entry). is_key is_relay key (key_at o)) it.1) ∙ (sym key_is ∙ is))
  ]

  pub key_absent : has_key_at is_relay keys slot key ≡ false → (e : Entry) → get_or entries slot None ≡ Some e → is_relay key e.key ≡ false
  key_absent is e at = sym (ap (λ (o : Option Entry). is_key is_relay key (key_at o)) at) ∙ (sym key_is ∙ is)

  -- a slot is free for both or for neither
  pub key_free : get_or keys slot None ≡ None → get_or entries slot None ≡ None
  key_free free = elim (none_or_some (get_or entries slot None)) [
    | inl none ↦ none
    | inr it ↦ absurd (none_isnt it.0.key (sym free ∙ (keys_at ∙ ap key_at it.1)))
  ]

  pub key_there : (e : Entry) → get_or entries slot None ≡ Some e → get_or keys slot None ≡ Some e.key
  key_there e at = keys_at ∙ ap key_at at

  pub key_used : (k : RelayKey) → get_or keys slot None ≡ Some k → (e : Entry) × (get_or entries slot None ≡ Some e)
  key_used k at = elim (none_or_some (get_or entries slot None)) [
    | inl none ↦ absurd (none_isnt k (sym (keys_at ∙ ap key_at none) ∙ at))
    | inr it ↦ it
  ]

-- what follows from a fact about a result
pub if_some : {X : Type 0} {P Q : X → Type 0} (o : Option X) → ((x : X) → P x → Q x) → IfSome o P → IfSome o Q
if_some None f a = tt
if_some (Some x) f a = f x a

pub if_none : {X A B : Type 0} (o : Option X) → (A → B) → IfNone o A → IfNone o B
if_none None f a = f a
if_none (Some x) f a = tt

-- ---- How many members there are

pub number_some : (xs : List ℕ) (i g : ℕ) → i < length xs → get_or xs i 0 ≡ g → 0 < number_in g xs
number_some xs i g lt e =
    let one : one_if (get_or xs i 0) g ≡ 1 = cond-true (get_or xs i 0 == g) 1 0 (eq-eqb (get_or xs i 0) g e) in
    let le = get_or-le-sum_by (λ (z : ℕ). one_if z g) xs i 0 lt in
    omega (arith, one, le)

pub number_set : (q : ℕ) (xs : List ℕ) (m g : ℕ) → m < length xs → number_in q (set xs m g) + one_if (get_or xs m 0) q ≡ number_in q xs + one_if g q
number_set q xs m g lt = sum_by-set (λ (z : ℕ). one_if z q) xs m g 0 lt

abbrev low_one : (z n : ℕ) → ℕ
low_one z n = if nat_lt z n then 1 else 0

low_split : (z n : ℕ) → low_one z (n + 1) ≡ low_one z n + one_if z n
low_split z n = elim (cases_lt z n) [
  | inl lt ↦
      let a : low_one z (n + 1) ≡ 1 = cond-true (nat_lt z (n + 1)) 1 0 (lt-ltb z (n + 1) (omega (arith, lt))) in
      let b : low_one z n ≡ 1 = cond-true (nat_lt z n) 1 0 (lt-ltb z n lt) in
      let c : one_if z n ≡ 0 = cond-false (z == n) 1 0 (ne_eqb z n (λ e. absurd (omega (arith, lt, e)))) in
      omega (arith, a, b, c)
  | inr ge ↦
      let b : low_one z n ≡ 0 = cond-false (nat_lt z n) 1 0 (le-ltb z n ge) in
      elim (same_or_not z n) [
        | inl e ↦
            let a : low_one z (n + 1) ≡ 1 = cond-true (nat_lt z (n + 1)) 1 0 (lt-ltb z (n + 1) (omega (arith, e))) in
            let c : one_if z n ≡ 1 = cond-true (z == n) 1 0 (eq-eqb z n e) in
            omega (arith, a, b, c)
        | inr d ↦
            let a : low_one z (n + 1) ≡ 0 = cond-false (nat_lt z (n + 1)) 1 0 (le-ltb z (n + 1) (omega (arith, ge, d))) in
            let c : one_if z n ≡ 0 = cond-false (z == n) 1 0 (ne_eqb z n d) in
            omega (arith, a, b, c)
      ]
]

below_split : (n : ℕ) (xs : List ℕ) → count_by (λ z. nat_lt z (n + 1)) xs ≡ count_by (λ z. nat_lt z n) xs + number_in n xs
below_split n [] = refl
below_split n (x ∷ xs) =
    let rest = below_split n xs in
    let first = low_split x n in
    let a : count_by (λ z. nat_lt z (n + 1)) (x ∷ xs) ≡ low_one x (n + 1) + count_by (λ z. nat_lt z (n + 1)) xs = sum_by-cons (λ (z : ℕ). low_one z (n + 1)) x xs in
    let b : count_by (λ z. nat_lt z n) (x ∷ xs) ≡ low_one x n + count_by (λ z. nat_lt z n) xs = sum_by-cons (λ (z : ℕ). low_one z n) x xs in
    let c : number_in n (x ∷ xs) ≡ one_if x n + number_in n xs = sum_by-cons (λ (z : ℕ). one_if z n) x xs in
    omega (arith, rest, first, a, b, c)

-- groups that all have members are no more than the members
pub no_more_groups : (n : ℕ) (xs : List ℕ) → ((g : ℕ) → g < n → 0 < number_in g xs) → n ≤ count_by (λ z. nat_lt z n) xs
no_more_groups zero xs some = omega arith
no_more_groups (suc n) xs some =
    let rest = no_more_groups n xs (λ g lt. some g (omega (arith, lt))) in
    let one = some n (omega arith) in
    let split = below_split n xs in
    let e : count_by (λ z. nat_lt z (suc n)) xs ≡ count_by (λ z. nat_lt z (n + 1)) xs = ap (λ (k : ℕ). count_by (λ z. nat_lt z k) xs) (omega arith) in
    omega (arith, rest, one, split, e)

-- ---- The users' places

module _ (entries : List (Option Entry)) (users : List (Option UserId)) (holders : Partition) (h : AreHeld entries users holders) where
  abbrev place_of_slot : ℕ → ℕ
  place_of_slot slot = get_or holders.group_of slot 0

  pub held_low : (slot : ℕ) (e : Entry) → get_or entries slot None ≡ Some e → get_or holders.group_of slot 0 < length entries
  held_low slot e at = let size = h.users_size in let low = is_there users (place_of_slot slot) e.user (h.held slot e at) in omega (arith, size, low)

  -- while a slot is free, a place for a user is
  pub place_free : (slot : ℕ) → slot < length entries → get_or entries slot None ≡ None → IsFullOf users → ⊥
  place_free slot lt free full =
      let members = h.members in
      let size = h.users_size in
      let all : (g : ℕ) → g < length entries + 1 → 0 < number_in g holders.group_of = λ g low. elim (cases_lt g (length entries)) [
        | inl there ↦ let it = full g (omega (arith, there, size)) in h.used g it.0 it.1
        | inr last ↦ number_some holders.group_of slot g (omega (arith, members, lt)) (h.free slot lt free ∙ omega (arith, low, last))
      ] in
      let least = no_more_groups (length entries + 1) holders.group_of all in
      let most = count_by-le-length (λ (z : ℕ). nat_lt z (length entries + 1)) holders.group_of in
      absurd (omega (arith, least, most, members))

  -- a slot that was free is a user's
  pub opened_held : (slot : ℕ) → slot < length entries → get_or entries slot None ≡ None → (e : Entry) (place : ℕ) (users2 : List (Option UserId)) → IsPlaceOf e.user users place users2
      → (holders2 : Partition) → holders2 ≡ record { groups = holders.groups; group_of = set holders.group_of slot place } → AreHeld (set entries slot (Some e)) users2 holders2
  opened_held slot lt free e place users2 p holders2 e2 = subst (λ (z : Partition). AreHeld (set entries slot (Some e)) users2 z) (sym e2)
      (let members = h.members in
      let same_size = length-set entries slot (Some e) in
      let slot_in : slot < length holders.group_of = omega (arith, members, lt) in
      let old_group = h.free slot lt free in
      let place_low : place < length entries = let a = is_there users2 place e.user p.there in let b = p.size in let c = h.users_size in omega (arith, a, b, c) in
      record {
        groups = let g = h.groups in omega (arith, g, same_size);
        members = let a = length-set holders.group_of slot place in omega (arith, a, members, same_size);
        users_size = let a = p.size in let b = h.users_size in omega (arith, a, b, same_size);
        free = λ i low is. elim (same_or_not i slot) [
          | inl here ↦ absurd (none_isnt e (sym is ∙ (ap (λ (z : ℕ). get_or (set entries slot (Some e)) z None) here ∙ get_or-set_same entries slot (Some e) None lt)))
          | inr there ↦ get_or-set_other holders.group_of slot i place 0 there ∙ (h.free i (omega (arith, low, same_size)) (sym (get_or-set_other entries slot i (Some e) None there) ∙ is) ∙ sym same_size)
        ];
        held = λ i a at. elim (same_or_not i slot) [
          | inl here ↦
              let is_e : e ≡ a = some_same e a (sym (get_or-set_same entries slot (Some e) None lt) ∙ (ap (λ (z : ℕ). get_or (set entries slot (Some e)) z None) (sym here) ∙ at)) in
              let group : get_or (set holders.group_of slot place) i 0 ≡ place = ap (λ (z : ℕ). get_or (set holders.group_of slot place) z 0) here ∙ get_or-set_same holders.group_of slot place 0 slot_in in
              ap (λ (z : ℕ). get_or users2 z None) group ∙ (p.there ∙ ap (λ (z : Entry). Some z.user) is_e)
          | inr there ↦
              let old_at : get_or entries i None ≡ Some a = sym (get_or-set_other entries slot i (Some e) None there) ∙ at in
              let was = h.held i a old_at in
              let group : get_or (set holders.group_of slot place) i 0 ≡ get_or holders.group_of i 0 = get_or-set_other holders.group_of slot i place 0 there in
              ap (λ (z : ℕ). get_or users2 z None) group
              ∙ (elim (same_or_not (get_or holders.group_of i 0) place) [
                | inl same ↦ ap (λ (z : ℕ). get_or users2 z None) same ∙ (p.there ∙ ap Some (sym (p.fits a.user (ap (λ (z : ℕ). get_or users z None) (sym same) ∙ was))))
                | inr differs ↦ p.others (get_or holders.group_of i 0) differs ∙ was
              ])
        ];
        used = λ q u at. elim (same_or_not q place) [
          | inl same ↦ number_some (set holders.group_of slot place) slot q (let a = length-set holders.group_of slot place in omega (arith, a, slot_in)) (get_or-set_same holders.group_of slot place 0 slot_in ∙ sym same)
          | inr differs ↦
              let old_at : get_or users q None ≡ Some u = sym (p.others q differs) ∙ at in
              let was = h.used q u old_at in
              let low = is_there users q u old_at in
              let size = h.users_size in
              let moved = number_set q holders.group_of slot place slot_in in
              let from : one_if (get_or holders.group_of slot 0) q ≡ 0 = cond-false (get_or holders.group_of slot 0 == q) 1 0 (ne_eqb (get_or holders.group_of slot 0) q (λ f. absurd (omega (arith, f, old_group, low, size)))) in
              omega (arith, was, moved, from)
        ];
        one = λ a b u at_a at_b. elim (same_or_not a place) [
          | inl a_is ↦ elim (same_or_not b place) [
            | inl b_is ↦ a_is ∙ sym b_is
            | inr b_not ↦
                let same_u : u ≡ e.user = some_same u e.user (sym at_a ∙ (ap (λ (z : ℕ). get_or users2 z None) a_is ∙ p.there)) in
                let old_b : get_or users b None ≡ Some e.user = sym (p.others b b_not) ∙ (at_b ∙ ap Some same_u) in
                a_is ∙ h.one place b e.user (p.only b old_b) old_b
          ]
          | inr a_not ↦ elim (same_or_not b place) [
            | inl b_is ↦
                let same_u : u ≡ e.user = some_same u e.user (sym at_b ∙ (ap (λ (z : ℕ). get_or users2 z None) b_is ∙ p.there)) in
                let old_a : get_or users a None ≡ Some e.user = sym (p.others a a_not) ∙ (at_a ∙ ap Some same_u) in
                h.one a place e.user old_a (p.only a old_a) ∙ sym b_is
            | inr b_not ↦ h.one a b u (sym (p.others a a_not) ∙ at_a) (sym (p.others b b_not) ∙ at_b)
          ]
        ];
      })

  -- a slot is free again, and its user has no place if it was the last
  pub ended_held : (slot : ℕ) (e : Entry) → get_or entries slot None ≡ Some e → (users2 : List (Option UserId)) → length users2 ≡ length users
      → ((p : ℕ) → (p ≡ get_or holders.group_of slot 0 → ⊥) → get_or users2 p None ≡ get_or users p None)
      → (0 < number_in (get_or holders.group_of slot 0) (set holders.group_of slot (length entries)) → get_or users2 (get_or holders.group_of slot 0) None ≡ get_or users (get_or holders.group_of slot 0) None)
      → ((u : UserId) → get_or users2 (get_or holders.group_of slot 0) None ≡ Some u → 0 < number_in (get_or holders.group_of slot 0) (set holders.group_of slot (length entries)))
      → (holders2 : Partition) → holders2 ≡ record { groups = holders.groups; group_of = set holders.group_of slot (length entries) } → AreHeld (set entries slot None) users2 holders2
  ended_held slot e at users2 size2 others kept left holders2 e2 = subst (λ (z : Partition). AreHeld (set entries slot None) users2 z) (sym e2)
      (let members = h.members in
      let same_size = length-set entries slot None in
      let lt = is_there entries slot e at in
      let slot_in : slot < length holders.group_of = omega (arith, members, lt) in
      let place = get_or holders.group_of slot 0 in
      let place_low = held_low slot e at in
      let old_of : (p : ℕ) (u : UserId) → get_or users2 p None ≡ Some u → get_or users p None ≡ Some u = λ p u is. elim (same_or_not p (get_or holders.group_of slot 0)) [
        | inl here ↦ ap (λ (z : ℕ). get_or users z None) here ∙ (sym (kept (left u (ap (λ (z : ℕ). get_or users2 z None) (sym here) ∙ is))) ∙ (ap (λ (z : ℕ). get_or users2 z None) (sym here) ∙ is))
        | inr there ↦ sym (others p there) ∙ is
      ] in
      record {
        groups = let g = h.groups in omega (arith, g, same_size);
        members = let a = length-set holders.group_of slot (length entries) in omega (arith, a, members, same_size);
        users_size = let b = h.users_size in omega (arith, size2, b, same_size);
        free = λ i low is. elim (same_or_not i slot) [
          | inl here ↦ ap (λ (z : ℕ). get_or (set holders.group_of slot (length entries)) z 0) here ∙ (get_or-set_same holders.group_of slot (length entries) 0 slot_in ∙ sym same_size)
          | inr there ↦ get_or-set_other holders.group_of slot i (length entries) 0 there ∙ (h.free i (omega (arith, low, same_size)) (sym (get_or-set_other entries slot i None None there) ∙ is) ∙ sym same_size)
        ];
        held = λ i a is. elim (same_or_not i slot) [
          | inl here ↦ absurd (none_isnt a (sym (get_or-set_same entries slot None None lt) ∙ (ap (λ (z : ℕ). get_or (set entries slot None) z None) (sym here) ∙ is)))
          | inr there ↦
              let old_at : get_or entries i None ≡ Some a = sym (get_or-set_other entries slot i None None there) ∙ is in
              let was = h.held i a old_at in
              let i_in : i < length holders.group_of = let low = is_there entries i a old_at in omega (arith, low, members) in
              let group : get_or (set holders.group_of slot (length entries)) i 0 ≡ get_or holders.group_of i 0 = get_or-set_other holders.group_of slot i (length entries) 0 there in
              ap (λ (z : ℕ). get_or users2 z None) group
              ∙ (elim (same_or_not (get_or holders.group_of i 0) (get_or holders.group_of slot 0)) [
                | inl same ↦
                    let some = number_some (set holders.group_of slot (length entries)) i (get_or holders.group_of slot 0) (let a = length-set holders.group_of slot (length entries) in omega (arith, a, i_in)) (group ∙ same) in
                    ap (λ (z : ℕ). get_or users2 z None) same ∙ (kept some ∙ (ap (λ (z : ℕ). get_or users z None) (sym same) ∙ was))
                | inr differs ↦ others (get_or holders.group_of i 0) differs ∙ was
              ])
        ];
        used = λ q u is. elim (same_or_not q (get_or holders.group_of slot 0)) [
          | inl same ↦ subst (λ (z : ℕ). 0 < number_in z (set holders.group_of slot (length entries))) (sym same) (left u (ap (λ (z : ℕ). get_or users2 z None) (sym same) ∙ is))
          | inr differs ↦
              let was = h.used q u (old_of q u is) in
              let moved = number_set q holders.group_of slot (length entries) slot_in in
              let from : one_if (get_or holders.group_of slot 0) q ≡ 0 = cond-false (get_or holders.group_of slot 0 == q) 1 0 (ne_eqb (get_or holders.group_of slot 0) q (λ f. differs (sym f))) in
              omega (arith, was, moved, from)
        ];
        one = λ a b u at_a at_b. h.one a b u (old_of a u at_a) (old_of b u at_b);
      })

  -- an entry of the same user
  pub same_held : (slot : ℕ) (e a : Entry) → get_or entries slot None ≡ Some e → a.user ≡ e.user → AreHeld (set entries slot (Some a)) users holders
  same_held slot e a at same_user =
      let same_size = length-set entries slot (Some a) in
      let lt = is_there entries slot e at in
      record {
        groups = let g = h.groups in omega (arith, g, same_size);
        members = let m = h.members in omega (arith, m, same_size);
        users_size = let u = h.users_size in omega (arith, u, same_size);
        free = λ i low is. elim (same_or_not i slot) [
          | inl here ↦ absurd (none_isnt a (sym is ∙ (ap (λ (z : ℕ). get_or (set entries slot (Some a)) z None) here ∙ get_or-set_same entries slot (Some a) None lt)))
          | inr there ↦ h.free i (omega (arith, low, same_size)) (sym (get_or-set_other entries slot i (Some a) None there) ∙ is) ∙ sym same_size
        ];
        held = λ i b is. elim (same_or_not i slot) [
          | inl here ↦
              let is_a : a ≡ b = some_same a b (sym (get_or-set_same entries slot (Some a) None lt) ∙ (ap (λ (z : ℕ). get_or (set entries slot (Some a)) z None) (sym here) ∙ is)) in
              ap (λ (z : ℕ). get_or users (get_or holders.group_of z 0) None) here ∙ (h.held slot e at ∙ (ap Some (sym same_user) ∙ ap (λ (z : Entry). Some z.user) is_a))
          | inr there ↦ h.held i b (sym (get_or-set_other entries slot i (Some a) None there) ∙ is)
        ];
        used = h.used;
        one = h.one;
      }

-- ---- The table with another entry in a slot

pub table_set : (round round2 : ℕ) (entries : List (Option Entry)) (keys keys2 : List (Option RelayKey)) (users users2 : List (Option UserId)) (holders holders2 : Partition) (deadlines deadlines2 : List ℕ)
    → IsTable round entries keys users holders deadlines → round2 ≤ rounds → (slot : ℕ) → slot < length entries → (o : Option Entry)
    → keys2 ≡ set keys slot (key_at o) → deadlines2 ≡ set deadlines slot (deadline_at o) → AreHeld (set entries slot o) users2 holders2
    → ((e : Entry) → o ≡ Some e → (e.number % places ≡ slot) × (e.deadline < never) × ((j : ℕ) (b : Entry) → (j ≡ slot → ⊥) → get_or entries j None ≡ Some b → e.key ≡ b.key → ⊥))
    → IsTable round2 (set entries slot o) keys2 users2 holders2 deadlines2
table_set round round2 entries keys keys2 users users2 holders holders2 deadlines deadlines2 t bounded slot lt o keys_are deadlines_are held fits =
    let of_slot : (i : ℕ) (e : Entry) → i ≡ slot → get_or (set entries slot o) i None ≡ Some e → o ≡ Some e = λ i e here at. sym (get_or-set_same entries slot o None lt) ∙ (ap (λ (z : ℕ). get_or (set entries slot o) z None) (sym here) ∙ at) in
    let of_other : (i : ℕ) (e : Entry) → (i ≡ slot → ⊥) → get_or (set entries slot o) i None ≡ Some e → get_or entries i None ≡ Some e = λ i e there at. sym (get_or-set_other entries slot i o None there) ∙ at in
    record {
      few = let few = t.few in let size = length-set entries slot o in omega (arith, few, size);
      bounded = bounded;
      keys_are = keys_are ∙ (ap (λ (z : List (Option RelayKey)). set z slot (key_at o)) t.keys_are ∙ sym (map-set key_at entries slot o));
      deadlines_are = deadlines_are ∙ (ap (λ (z : List ℕ). set z slot (deadline_at o)) t.deadlines_are ∙ sym (map-set deadline_at entries slot o));
      users_are = held;
      one_key = λ i j a b at_i at_j same. elim (same_or_not i slot) [
        | inl i_is ↦ elim (same_or_not j slot) [
          | inl j_is ↦ i_is ∙ sym j_is
          | inr j_not ↦ absurd ((fits a (of_slot i a i_is at_i)).2 j b j_not (of_other j b j_not at_j) same)
        ]
        | inr i_not ↦ elim (same_or_not j slot) [
          | inl j_is ↦ absurd ((fits b (of_slot j b j_is at_j)).2 i a i_not (of_other i a i_not at_i) (sym same))
          | inr j_not ↦ t.one_key i j a b (of_other i a i_not at_i) (of_other j b j_not at_j) same
        ]
      ];
      numbered = λ i e at. elim (same_or_not i slot) [
        | inl here ↦ (fits e (of_slot i e here at)).0 ∙ sym here
        | inr there ↦ t.numbered i e (of_other i e there at)
      ];
      soon = λ i e at. elim (same_or_not i slot) [
        | inl here ↦ (fits e (of_slot i e here at)).1
        | inr there ↦ t.soon i e (of_other i e there at)
      ];
    }
