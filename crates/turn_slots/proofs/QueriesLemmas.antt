-- The deadlines of a table, the relayed addresses of a user, and the number of all.
use Rattle.std.proofs.Common.{◌≡◌, ℕ, ◌+◌, ◌-◌, ◌<◌, ◌≤◌, ◌^◌, Bool, true, false, not, List, [], ◌∷◌, Option, None, Some, length, get_or, map, replicate, count_by, cond, suc, zero, sym, ap, subst, refl, ◌∙◌, inl, inr, arith}
use Rattle.std.specs.Prelude.{◌==◌}
use Rattle.std.proofs.lemmas.Bool.{cases_lt, eq-eqb, ne_eqb}
use Rattle.std.proofs.lemmas.List.{length-map, length-replicate, get_or-replicate, get_or-map, get_or_past}
use Rattle.std.proofs.lemmas.List.Sums.{sum_by-cons}
use Rattle.turn_slots.specs.Tables.{IsTable, key_at, deadline_at}
use Rattle.turn_slots.specs.Relays.{RelayKey}
use Rattle.turn_slots.specs.Users.{UserId, is_user}
use Rattle.turn_slots.specs.Slots.{Entry, is_users, is_live}
use Rattle.turn_slots.specs.Groups.{Partition, number_in}
use Rattle.turn_slots.specs.Keys.{is_key, has_key_at}
use Rattle.turn_slots.specs.Deadlines.{never, IsLeast}
use Rattle.turn_slots.proofs.KeysLemmas.{none_or_some, none_isnt, some_same, is_there, true_or_false}
use Rattle.turn_slots.proofs.TableLemmas.{user_same, user_itself, held_low}

false_true : false ≡ true → ⊥
false_true e = cc

-- ---- Counts

-- as many pass one test as the other, if the elements pass alike
counts_agree : {X Y : Type 0} (f : X → Bool) (g : Y → Bool) (dx : X) (dy : Y) (xs : List X) (ys : List Y) → length xs ≡ length ys → ((i : ℕ) → i < length xs → f (get_or xs i dx) ≡ g (get_or ys i dy)) → count_by f xs ≡ count_by g ys
counts_agree f g dx dy [] [] size alike = refl
counts_agree f g dx dy [] (y ∷ ys) size alike = absurd (omega arith)
counts_agree f g dx dy (x ∷ xs) [] size alike = absurd (omega arith)
counts_agree f g dx dy (x ∷ xs) (y ∷ ys) size alike =
    sum_by-cons (λ z. cond (f z) 1 0) x xs
    ∙ (ap (λ (n : ℕ). cond (f x) 1 0 + n) (counts_agree f g dx dy xs ys (omega arith) (λ i lt. alike (suc i) (omega (arith, lt))))
    ∙ (ap (λ (b : Bool). cond b 1 0 + count_by g ys) (alike 0 (omega arith)) ∙ sym (sum_by-cons (λ z. cond (g z) 1 0) y ys)))

count_false : {X : Type 0} (xs : List X) → count_by (λ x. false) xs ≡ 0
count_false [] = refl
count_false (x ∷ xs) = sum_by-cons (λ z. 0) x xs ∙ (ap (λ (n : ℕ). 0 + n) (count_false xs) ∙ omega arith)

one_or_none : (b : Bool) → cond {A = ℕ} b 1 0 + cond (not b) 1 0 ≡ 1
one_or_none true = refl
one_or_none false = refl

count_split : {X : Type 0} (f : X → Bool) (xs : List X) → count_by f xs + count_by (λ x. not (f x)) xs ≡ length xs
count_split f [] = refl
count_split f (x ∷ xs) =
    let a = sum_by-cons (λ z. cond (f z) 1 0) x xs in
    let b = sum_by-cons (λ z. cond (not (f z)) 1 0) x xs in
    let rest = count_split f xs in
    let one = one_or_none (f x) in
    omega (arith, a, b, rest, one)

module _ (round : ℕ) (entries : List (Option Entry)) (keys : List (Option RelayKey)) (users : List (Option UserId)) (holders : Partition) (deadlines : List ℕ)
    (t : IsTable round entries keys users holders deadlines) where
  -- ---- Deadlines

  deadlines_size : length deadlines ≡ length entries
  deadlines_size = ap length t.deadlines_are ∙ length-map entries deadline_at

  deadline_is : (slot : ℕ) → slot < length entries → get_or deadlines slot 0 ≡ deadline_at (get_or entries slot None)
  deadline_is slot lt = ap (λ (z : List ℕ). get_or z slot 0) t.deadlines_are ∙ get_or-map deadline_at entries slot None 0 lt

  deadline_of : (slot : ℕ) (e : Entry) → get_or entries slot None ≡ Some e → get_or deadlines slot 0 ≡ e.deadline
  deadline_of slot e at = deadline_is slot (is_there entries slot e at) ∙ ap deadline_at at

  deadline_free : (slot : ℕ) → slot < length entries → get_or entries slot None ≡ None → get_or deadlines slot 0 ≡ never
  deadline_free slot lt free = deadline_is slot lt ∙ ap deadline_at free

  pub least_below : (least : ℕ) → (0 < length deadlines → IsLeast least deadlines) → (slot : ℕ) (e : Entry) → get_or entries slot None ≡ Some e → least ≤ e.deadline
  least_below least is slot e at =
      let size = deadlines_size in
      let lt = is_there entries slot e at in
      let le = (is (omega (arith, size, lt))).below slot (omega (arith, size, lt)) in
      let same = deadline_of slot e at in
      omega (arith, le, same)

  pub all_free : (least : ℕ) → (0 < length deadlines → IsLeast least deadlines) → least ≡ never → (slot : ℕ) → slot < length entries → get_or entries slot None ≡ None
  all_free least is last slot lt = elim (none_or_some (get_or entries slot None)) [
    | inl none ↦ none
    | inr it ↦ absurd (let le = least_below least is slot it.0 it.1 in let soon = t.soon slot it.0 it.1 in omega (arith, le, soon, last))
  ]

  pub none_at_never : (least : ℕ) → (0 < length deadlines → IsLeast least deadlines) → least ≡ never → (slot : ℕ) (e : Entry) → get_or entries slot None ≡ Some e → ⊥
  none_at_never least is last slot e at = let le = least_below least is slot e at in let soon = t.soon slot e at in absurd (omega (arith, le, soon, last))

  some_deadline : (least : ℕ) → (length deadlines ≡ 0 → least ≡ never) → (least ≡ never → ⊥) → 0 < length deadlines
  some_deadline least none isnt = elim (cases_lt 0 (length deadlines)) [ inl some ↦ some | inr empty ↦ absurd (isnt (none (omega (arith, empty)))) ]

  -- a slot whose deadline is this one, which isn't the last of all, holds a relayed address
  holds_at : (slot least : ℕ) → slot < length deadlines → get_or deadlines slot 0 ≡ least → (least ≡ never → ⊥) → (e : Entry) × (get_or entries slot None ≡ Some e) × (e.deadline ≡ least)
  holds_at slot least lt is isnt = elim (none_or_some (get_or entries slot None)) [
    | inl free ↦ absurd (isnt (sym is ∙ deadline_free slot (let size = deadlines_size in omega (arith, size, lt)) free))
    | inr it ↦ (it.0, it.1, sym (deadline_of slot it.0 it.1) ∙ is)
  ]

  pub some_due : (least : ℕ) → (0 < length deadlines → IsLeast least deadlines) → (length deadlines ≡ 0 → least ≡ never) → (least ≡ never → ⊥)
      → (slot : ℕ) × (e : Entry) × (get_or entries slot None ≡ Some e) × (e.deadline ≡ least)
  some_due least is none isnt =
      let there = (is (some_deadline least none isnt)).among in
      let it = holds_at there.0 least there.1 there.2 isnt in
      (there.0, it.0, it.1, it.2)

  pub first_due : (least first now : ℕ) → (0 < length deadlines → IsLeast least deadlines) → (length deadlines ≡ 0 → least ≡ never) → (least ≡ never → ⊥) → least ≤ now
      → first < length deadlines → IsLeast (get_or deadlines first 0) deadlines
      → (e : Entry) × (get_or entries first None ≡ Some e) × (e.deadline ≤ now) × ((slot : ℕ) (a : Entry) → get_or entries slot None ≡ Some a → e.deadline ≤ a.deadline)
  first_due least first now is none isnt come lt first_least =
      let real = is (some_deadline least none isnt) in
      let there = real.among in
      let one_way = first_least.below there.0 there.1 in
      let other_way = real.below first lt in
      let same : get_or deadlines first 0 ≡ least = let at = there.2 in omega (arith, one_way, other_way, at) in
      let it = holds_at first least lt same isnt in
      let due = it.2 in
      (it.0, it.1, omega (arith, due, come), λ slot a at. let le = least_below least is slot a at in omega (arith, due, le))

  -- ---- Users

  user_found : (user : UserId) (place : ℕ) → has_key_at is_user users place user ≡ true → get_or users place None ≡ Some user
  user_found user place is = elim (none_or_some (get_or users place None)) [
    | inl none ↦ absurd (false_true (sym (ap (is_key is_user user) none) ∙ is))
    | inr it ↦ it.1 ∙ ap Some (sym (user_same user it.0 (sym (ap (is_key is_user user) it.1) ∙ is)))
  ]

  pub whose : (user : UserId) (place : ℕ) → has_key_at is_user users place user ≡ true → (slot : ℕ) → slot < length holders.group_of → get_or holders.group_of slot 0 ≡ place
      → (e : Entry) × (get_or entries slot None ≡ Some e) × (is_user user e.user ≡ true)
  whose user place is slot lt group =
      let h = t.users_are in
      let members = h.members in
      let key = user_found user place is in
      elim (none_or_some (get_or entries slot None)) [
        | inl free ↦ absurd (
            let low = is_there users place user key in
            let size = h.users_size in
            let last = h.free slot (omega (arith, lt, members)) free in
            omega (arith, low, size, last, group))
        | inr it ↦
            let e : Some user ≡ Some it.0.user = sym key ∙ (ap (λ (z : ℕ). get_or users z None) (sym group) ∙ h.held slot it.0 it.1) in
            (it.0, it.1, subst (λ (u : UserId). is_user user u ≡ true) (some_same user it.0.user e) (user_itself user))
      ]

  pub at_place : (user : UserId) (place : ℕ) → has_key_at is_user users place user ≡ true → (slot : ℕ) (e : Entry) → get_or entries slot None ≡ Some e → is_user user e.user ≡ true → get_or holders.group_of slot 0 ≡ place
  at_place user place is slot e at same =
      let h = t.users_are in
      h.one (get_or holders.group_of slot 0) place user (h.held slot e at ∙ ap Some (sym (user_same user e.user same))) (user_found user place is)

  pub none_of : (user : UserId) (place : ℕ) → has_key_at is_user users place user ≡ true → ((slot : ℕ) → slot < length holders.group_of → get_or holders.group_of slot 0 ≡ place → ⊥)
      → (slot : ℕ) (e : Entry) → get_or entries slot None ≡ Some e → is_user user e.user ≡ false
  none_of user place is none slot e at = elim (true_or_false (is_user user e.user)) [
    | inl same ↦ absurd (none slot (let h = t.users_are in let members = h.members in let lt = is_there entries slot e at in omega (arith, lt, members)) (at_place user place is slot e at same))
    | inr differs ↦ differs
  ]

  pub none_anywhere : (user : UserId) → ((place : ℕ) → has_key_at is_user users place user ≡ false) → (slot : ℕ) (e : Entry) → get_or entries slot None ≡ Some e → is_user user e.user ≡ false
  none_anywhere user none slot e at =
      let h = t.users_are in
      sym (ap (is_key is_user user) (h.held slot e at)) ∙ none (get_or holders.group_of slot 0)

  pub count_there : (user : UserId) (place : ℕ) → has_key_at is_user users place user ≡ true → number_in place holders.group_of ≡ count_by (is_users user) entries
  count_there user place is =
      let h = t.users_are in
      let members = h.members in
      counts_agree (λ z. z == place) (is_users user) 0 None holders.group_of entries members (λ i lt.
      elim (none_or_some (get_or entries i None)) [
        | inl free ↦
            ne_eqb (get_or holders.group_of i 0) place (λ e.
            let last = h.free i (omega (arith, lt, members)) free in
            let low = is_there users place user (user_found user place is) in
            let size = h.users_size in
            absurd (omega (arith, last, low, size, e)))
            ∙ sym (ap (is_users user) free)
        | inr it ↦ elim (true_or_false (is_user user it.0.user)) [
          | inl same ↦ eq-eqb (get_or holders.group_of i 0) place (at_place user place is i it.0 it.1 same) ∙ sym (ap (is_users user) it.1 ∙ same)
          | inr differs ↦
              ne_eqb (get_or holders.group_of i 0) place (λ e.
              let mine = whose user place is i lt e in
              let again : mine.0 ≡ it.0 = some_same mine.0 it.0 (sym mine.1 ∙ it.1) in
              false_true (sym differs ∙ subst (λ (a : Entry). is_user user a.user ≡ true) again mine.2))
              ∙ sym (ap (is_users user) it.1 ∙ differs)
        ]
      ])

  pub count_nowhere : (user : UserId) → ((place : ℕ) → has_key_at is_user users place user ≡ false) → 0 ≡ count_by (is_users user) entries
  count_nowhere user none =
      let all = counts_agree (λ (o : Option Entry). false) (is_users user) None None entries entries refl (λ i lt.
      elim (none_or_some (get_or entries i None)) [
        | inl free ↦ sym (ap (is_users user) free)
        | inr it ↦ sym (ap (is_users user) it.1 ∙ none_anywhere user none i it.0 it.1)
      ]) in
      sym (count_false entries) ∙ all

  -- ---- How many there are

  pub live_count : length entries - number_in (length entries) holders.group_of ≡ count_by is_live entries
  live_count =
      let h = t.users_are in
      let members = h.members in
      let free_count = counts_agree (λ z. z == length entries) (λ o. not (is_live o)) 0 None holders.group_of entries members (λ i lt.
      elim (none_or_some (get_or entries i None)) [
        | inl free ↦ eq-eqb (get_or holders.group_of i 0) (length entries) (h.free i (omega (arith, lt, members)) free) ∙ sym (ap (λ (o : Option Entry). not (is_live o)) free)
        | inr it ↦
            ne_eqb (get_or holders.group_of i 0) (length entries) (λ e. let low = held_low entries users holders h i it.0 it.1 in absurd (omega (arith, low, e)))
            ∙ sym (ap (λ (o : Option Entry). not (is_live o)) it.1)
      ]) in
      let all = count_split is_live entries in
      omega (arith, free_count, all)

-- ---- At the start

map_replicate : {X Y : Type 0} (f : X → Y) (n : ℕ) (x : X) → map f (replicate n x) ≡ replicate n (f x)
map_replicate f zero x = refl
map_replicate f (suc n) x = ap (λ (z : List _). f x ∷ z) (map_replicate f n x)

none_in : {X : Type 0} (n i : ℕ) (x : X) → get_or (replicate n None) i None ≡ Some x → ⊥
none_in n i x is = elim (cases_lt i n) [
  | inl lt ↦ none_isnt x (sym (get_or-replicate n i None None lt) ∙ is)
  | inr ge ↦ none_isnt x (sym (get_or_past (replicate {A = Option _} n None) i None (subst (λ (z : ℕ). z ≤ i) (sym (length-replicate {A = Option _} n None)) ge)) ∙ is)
]

pub fresh_table : (n : ℕ) → n < 2 ^ 24 → (entries : List (Option Entry)) → entries ≡ replicate n None → (keys : List (Option RelayKey)) → keys ≡ replicate n None
    → (users : List (Option UserId)) → users ≡ replicate n None → (holders : Partition) → holders ≡ record { groups = n + 1; group_of = replicate n (n + 1 - 1) }
    → (deadlines : List ℕ) → deadlines ≡ replicate n never → IsTable 0 entries keys users holders deadlines
fresh_table n few entries entries_are keys keys_are users users_are holders holders_are deadlines deadlines_are =
    subst (λ (z : List (Option Entry)). IsTable 0 z keys users holders deadlines) (sym entries_are)
    (subst (λ (z : List (Option UserId)). IsTable 0 (replicate n None) keys z holders deadlines) (sym users_are)
    (subst (λ (z : Partition). IsTable 0 (replicate n None) keys (replicate n None) z deadlines) (sym holders_are)
    (let size : length (replicate {A = Option Entry} n None) ≡ n = length-replicate {A = Option Entry} n None in
    record {
      few = omega (arith, size, few);
      bounded = omega arith;
      keys_are = keys_are ∙ sym (map_replicate key_at n None);
      deadlines_are = deadlines_are ∙ sym (map_replicate deadline_at n None);
      users_are = record {
        groups = omega (arith, size);
        members = length-replicate n (n + 1 - 1) ∙ sym size;
        users_size = length-replicate {A = Option UserId} n None ∙ sym size;
        free = λ slot lt is. get_or-replicate n slot (n + 1 - 1) 0 (omega (arith, lt, size)) ∙ omega (arith, size);
        held = λ slot e at. absurd (none_in n slot e at);
        used = λ place u at. absurd (none_in n place u at);
        one = λ p q u at. absurd (none_in n p u at);
      };
      one_key = λ i j a b at. absurd (none_in n i a at);
      numbered = λ slot e at. absurd (none_in n slot e at);
      soon = λ slot e at. absurd (none_in n slot e at);
    })))
