-- Relayed addresses: the entries of the slots with what is kept besides.
use Rattle.std.proofs.Common.{◌≡◌, ℕ, ◌+◌, ◌*◌, ◌<◌, ◌^◌, zero, suc, Bool, true, false, cond, List, [], ◌∷◌, length, Option, None, Some, get_or, set, replicate, refl, sym, ap, ◌∙◌, subst, eq-eqb, eqb-true, ne_eqb, arith, inl, inr}
use Rattle.std.specs.Prelude.{◌⊎◌, ◌==◌, ◌&&◌, ◌%◌, is_some, count_by}
use Rattle.std.specs.Option.{IfSome, IfNone, option_map, option_map_or}
use Rattle.std.proofs.lemmas.Bool.{and_parts, false≢true}
use Rattle.std.proofs.lemmas.List.Sums.{sum_by-cons}
use Rattle.stun_endpoints.specs.Endpoints.{is_tuple}
use Rattle.turn_slots.specs.declared.relay_key.RelayKey.{RelayKey}
use Rattle.turn_slots.specs.declared.users.UserId.{UserId}
use Rattle.turn_slots.specs.declared.slots.Entry.{Entry}
use Rattle.turn_slots.specs.Relays.{is_relay}
use Rattle.turn_slots.specs.Users.{is_user, user_number}
use Rattle.std.proofs.lemmas.List.{length-replicate, length-set}
use Rattle.turn_slots.specs.Slots.{State, without, is_live, is_users as has_user}
use Rattle.turn_slots.specs.Numbers.{places}
use Rattle.turn_slots.specs.Deadlines.{never}
use Rattle.turn_slots.proofs.TableLemmas.{relay_itself}
use Rattle.turn_relays.specs.Tables.{IsTable}
use Rattle.turn_machine.specs.Relays.{Relay, is_for, is_users, is_at}
use Rattle.turn_relays.specs.Newest.{newest_first}
use Rattle.turn_relays.proofs.NewestLemmas.{passes, newest_count, newest_length}
use Rattle.turn_relays.specs.Relayed.{Grants, Table, grants_of, relay_of, joined, relays_in, number_of}

-- the table that the fields are
abbrev pub table_of : (clock next : ℕ) → State → List (Option Grants) → Table
table_of clock next s ks = record { clock = clock; next = next; openings = s.round; secret = s.secret; slots = relays_in s.entries ks }

-- ---- A slot

pub relay_at : (es : List (Option Entry)) (ks : List (Option Grants)) (i : ℕ) → get_or (relays_in es ks) i None ≡ joined (get_or es i None) (get_or ks i None)
relay_at [] ks i = refl
relay_at (None ∷ es) [] zero = refl
relay_at (Some e ∷ es) [] zero = refl
relay_at (e ∷ es) [] (suc i) = relay_at es [] i
relay_at (e ∷ es) (k ∷ ks) zero = refl
relay_at (e ∷ es) (k ∷ ks) (suc i) = relay_at es ks i

pub relays_size : (es : List (Option Entry)) (ks : List (Option Grants)) → length (relays_in es ks) ≡ length es
relays_size [] ks = refl
relays_size (e ∷ es) [] = ap suc (relays_size es [])
relays_size (e ∷ es) (k ∷ ks) = ap suc (relays_size es ks)

pub relays_set : (es : List (Option Entry)) (ks : List (Option Grants)) (i : ℕ) (e : Option Entry) (k : Option Grants) → length ks ≡ length es → relays_in (set es i e) (set ks i k) ≡ set (relays_in es ks) i (joined e k)
relays_set [] [] i e k size = refl
relays_set [] (x ∷ ks) i e k size = absurd (omega (arith, size))
relays_set (y ∷ es) [] i e k size = absurd (omega (arith, size))
relays_set (y ∷ es) (x ∷ ks) zero e k size = refl
relays_set (y ∷ es) (x ∷ ks) (suc i) e k size = ap (λ (rs : List (Option Relay)). joined y x ∷ rs) (relays_set es ks i e k (omega (arith, size)))

some_of : {X : Type 0} (o : Option X) → is_some o ≡ true → (x : X) × (o ≡ Some x)
some_of None is = absurd cc
some_of (Some x) is = (x, refl)

pub kept_beside : (e : Entry) (o : Option Entry) (k : Option Grants) → is_some o ≡ is_some k → o ≡ Some e → (g : Grants) × (k ≡ Some g)
kept_beside e o k beside is = some_of k (sym beside ∙ ap is_some is)

pub joined_is : (e : Entry) (g : Grants) (o : Option Entry) (k : Option Grants) → o ≡ Some e → k ≡ Some g → joined o k ≡ Some (relay_of e g)
joined_is e g o k is too = ap (λ (z : Option Entry). joined z k) is ∙ ap (λ (z : Option Grants). joined (Some e) z) too

-- a slot with an entry has a relayed address
pub relay_there : (es : List (Option Entry)) (ks : List (Option Grants)) → ((i : ℕ) → is_some (get_or es i None) ≡ is_some (get_or ks i None))
    → (i : ℕ) (e : Entry) → get_or es i None ≡ Some e → (g : Grants) × (get_or ks i None ≡ Some g) × (get_or (relays_in es ks) i None ≡ Some (relay_of e g))
relay_there es ks beside i e at =
    let kept = kept_beside e (get_or es i None) (get_or ks i None) (beside i) at in
    (kept.0, kept.1, relay_at es ks i ∙ joined_is e kept.0 (get_or es i None) (get_or ks i None) at kept.1)

pub record From (o : Option Entry) (k : Option Grants) (r : Relay) : Type 0 where
  pub e : Entry
  pub g : Grants
  pub entry : o ≡ Some e
  pub kept : k ≡ Some g
  pub relay : relay_of e g ≡ r

pub none_isnt : {X : Type 0} (x : X) → None ≡ Some x → ⊥
none_isnt x is = cc

some_is : {X : Type 0} (x y : X) → Some x ≡ Some y → x ≡ y
some_is x y is = cc

joined_from : (o : Option Entry) (k : Option Grants) (r : Relay) → joined o k ≡ Some r → From o k r
joined_from None k r is = absurd cc
joined_from (Some e) None r is = absurd cc
joined_from (Some e) (Some g) r is = record { e = e; g = g; entry = refl; kept = refl; relay = some_is (relay_of e g) r is }

-- and a relayed address is that of an entry
pub relay_from : (es : List (Option Entry)) (ks : List (Option Grants)) (i : ℕ) (r : Relay) → get_or (relays_in es ks) i None ≡ Some r → From (get_or es i None) (get_or ks i None) r
relay_from es ks i r at = joined_from (get_or es i None) (get_or ks i None) r (sym (relay_at es ks i) ∙ at)

-- ---- Keys and users

bool_iff : (x y : Bool) → (x ≡ true → y ≡ true) → (y ≡ true → x ≡ true) → x ≡ y
bool_iff true y to from = sym (to refl)
bool_iff false true to from = from refl
bool_iff false false to from = refl

turned : (a b : ℕ) → (a == b) ≡ (b == a)
turned a b = bool_iff (a == b) (b == a) (λ is. eq-eqb b a (sym (eqb-true a b is))) (λ is. eq-eqb a b (sym (eqb-true b a is)))

pub for_key : (key : RelayKey) (e : Entry) (g : Grants) → is_for key.tuple key.family (relay_of e g) ≡ is_relay key e.key
for_key key e g = ap (λ (b : Bool). is_tuple key.tuple e.key.tuple && b) (turned e.key.family key.family)

pub for_user : (user other : UserId) → user.low < 2 ^ 128 → other.low < 2 ^ 128 → (user_number other == user_number user) ≡ is_user user other
for_user user other low also =
    bool_iff (user_number other == user_number user) (is_user user other)
    (λ is.
    let same = eqb-true (user_number other) (user_number user) is in
    let high : user.high ≡ other.high = omega (arith, same, low, also) in
    let rest : user.low ≡ other.low = omega (arith, same, low, also) in
    rw (eq-eqb user.high other.high high) (eq-eqb user.low other.low rest))
    (λ is.
    let parts = and_parts (user.high == other.high) (user.low == other.low) is in
    let high = eqb-true user.high other.high parts.0 in
    let rest = eqb-true user.low other.low parts.1 in
    eq-eqb (user_number other) (user_number user) (omega (arith, high, rest)))

-- ---- Counts

count_cons : {X : Type 0} (p : X → Bool) (x : X) (xs : List X) → count_by p (x ∷ xs) ≡ cond (p x) 1 0 + count_by p xs
count_cons p x xs = sum_by-cons (λ y. cond (p y) 1 0) x xs

-- a test of relayed addresses that is one of entries
module _ (p : Option Relay → Bool) (q : Option Entry → Bool) (B : Entry → Type 0)
    (none : p None ≡ q None) (same : (e : Entry) (g : Grants) → B e → p (Some (relay_of e g)) ≡ q (Some e)) where
  of_one : (o : Option Entry) (k : Option Grants) → is_some o ≡ is_some k → ((e : Entry) → o ≡ Some e → B e) → p (joined o k) ≡ q o
  of_one None k beside each = none
  of_one (Some e) None beside each = absurd cc
  of_one (Some e) (Some g) beside each = same e g (each e refl)

  pub of_slots : (es : List (Option Entry)) (ks : List (Option Grants)) → ((i : ℕ) → is_some (get_or es i None) ≡ is_some (get_or ks i None))
      → ((i : ℕ) (e : Entry) → get_or es i None ≡ Some e → B e) → count_by p (relays_in es ks) ≡ count_by q es
  of_slots [] ks beside each = refl
  of_slots (e ∷ es) [] beside each =
      let more = of_slots es [] (λ i. beside (suc i)) (λ i. each (suc i)) in
      let one : p None ≡ q e = one_alone e (beside 0) in
      count_cons p None (relays_in es []) ∙ (ap (λ (b : Bool). cond b 1 0 + count_by p (relays_in es [])) one ∙ (ap (λ (n : ℕ). cond (q e) 1 0 + n) more ∙ sym (count_cons q e es)))
    where
      one_alone : (o : Option Entry) → is_some o ≡ false → p None ≡ q o
      one_alone None alone = none
      one_alone (Some x) alone = absurd cc
  of_slots (e ∷ es) (k ∷ ks) beside each =
      let more = of_slots es ks (λ i. beside (suc i)) (λ i. each (suc i)) in
      count_cons p (joined e k) (relays_in es ks)
      ∙ (ap (λ (b : Bool). cond b 1 0 + count_by p (relays_in es ks)) (of_one e k (beside 0) (each 0))
      ∙ (ap (λ (n : ℕ). cond (q e) 1 0 + n) more ∙ sym (count_cons q e es)))

pub users_count : (user : UserId) → user.low < 2 ^ 128 → (es : List (Option Entry)) (ks : List (Option Grants)) → ((i : ℕ) → is_some (get_or es i None) ≡ is_some (get_or ks i None))
    → ((i : ℕ) (e : Entry) → get_or es i None ≡ Some e → e.user.low < 2 ^ 128)
    → count_by (is_users (user_number user)) (newest_first number_of (relays_in es ks)) ≡ count_by (has_user user) es
users_count user low es ks beside users =
    newest_count number_of (is_users (user_number user)) (relays_in es ks)
    ∙ of_slots (passes (is_users (user_number user))) (has_user user) (λ e. e.user.low < 2 ^ 128) refl (λ e g also. for_user user e.user low also) es ks beside users

pub relays_length : (es : List (Option Entry)) (ks : List (Option Grants)) → ((i : ℕ) → is_some (get_or es i None) ≡ is_some (get_or ks i None))
    → length (newest_first number_of (relays_in es ks)) ≡ count_by is_live es
relays_length es ks beside =
    newest_length number_of (relays_in es ks)
    ∙ of_slots is_some is_live (λ e. Unit {0}) refl (λ e g also. refl) es ks beside (λ i e at. tt)

-- ---- Look-ups

pub if_some : {X : Type 0} (o : Option X) (P Q : X → Type 0) → ((x : X) → P x → Q x) → IfSome o P → IfSome o Q
if_some None P Q f is = is
if_some (Some x) P Q f is = f x is

pub if_none : {X : Type 0} (o : Option X) (A B : Type 0) → (A → B) → IfNone o A → IfNone o B
if_none None A B f is = f is
if_none (Some x) A B f is = is

module _ (key : RelayKey) (es : List (Option Entry)) (ks : List (Option Grants)) where
  pub key_some : ((i : ℕ) → is_some (get_or es i None) ≡ is_some (get_or ks i None)) → (found : Option ℕ)
      → IfSome found (λ slot. (e : Entry) × (get_or es slot None ≡ Some e) × (is_relay key e.key ≡ true))
      → IfSome found (λ slot. (r : Relay) × (get_or (relays_in es ks) slot None ≡ Some r) × (is_for key.tuple key.family r ≡ true))
  key_some beside found is =
      if_some found (λ slot. (e : Entry) × (get_or es slot None ≡ Some e) × (is_relay key e.key ≡ true))
      (λ slot. (r : Relay) × (get_or (relays_in es ks) slot None ≡ Some r) × (is_for key.tuple key.family r ≡ true))
      (λ slot it. let there = relay_there es ks beside slot it.0 it.1 in (relay_of it.0 there.0, there.2, for_key key it.0 there.0 ∙ it.2)) is

  pub key_none : (found : Option ℕ) → IfNone found ((slot : ℕ) (e : Entry) → get_or es slot None ≡ Some e → is_relay key e.key ≡ false)
      → IfNone found ((slot : ℕ) (r : Relay) → get_or (relays_in es ks) slot None ≡ Some r → is_for key.tuple key.family r ≡ false)
  key_none found is =
      if_none found ((slot : ℕ) (e : Entry) → get_or es slot None ≡ Some e → is_relay key e.key ≡ false)
      ((slot : ℕ) (r : Relay) → get_or (relays_in es ks) slot None ≡ Some r → is_for key.tuple key.family r ≡ false)
      (λ none slot r at. let it = relay_from es ks slot r at in
      subst (λ (x : Relay). is_for key.tuple key.family x ≡ false) it.relay (for_key key it.e it.g ∙ none slot it.e it.entry)) is

  -- if no relayed address has the key, no entry has
  pub key_free : ((i : ℕ) → is_some (get_or es i None) ≡ is_some (get_or ks i None))
      → ((slot : ℕ) (r : Relay) → get_or (relays_in es ks) slot None ≡ Some r → is_for key.tuple key.family r ≡ false)
      → (slot : ℕ) (e : Entry) → get_or es slot None ≡ Some e → is_relay key e.key ≡ false
  key_free beside none slot e at =
      let there = relay_there es ks beside slot e at in
      sym (for_key key e there.0) ∙ none slot (relay_of e there.0) there.2

  pub key_only : (found : Option ℕ) → ((slot : ℕ) (e : Entry) → get_or es slot None ≡ Some e → is_relay key e.key ≡ true → found ≡ Some slot)
      → (slot : ℕ) (r : Relay) → get_or (relays_in es ks) slot None ≡ Some r → is_for key.tuple key.family r ≡ true → found ≡ Some slot
  key_only found only slot r at is = let it = relay_from es ks slot r at in
      only slot it.e it.entry (sym (for_key key it.e it.g) ∙ subst (λ (x : Relay). is_for key.tuple key.family x ≡ true) (sym it.relay) is)

module _ (number : ℕ) (es : List (Option Entry)) (ks : List (Option Grants)) where
  pub number_some : ((i : ℕ) → is_some (get_or es i None) ≡ is_some (get_or ks i None)) → (found : Option ℕ)
      → IfSome found (λ slot. (e : Entry) × (get_or es slot None ≡ Some e) × (e.number ≡ number))
      → IfSome found (λ slot. (r : Relay) × (get_or (relays_in es ks) slot None ≡ Some r) × (is_at number r ≡ true))
  number_some beside found is =
      if_some found (λ slot. (e : Entry) × (get_or es slot None ≡ Some e) × (e.number ≡ number))
      (λ slot. (r : Relay) × (get_or (relays_in es ks) slot None ≡ Some r) × (is_at number r ≡ true))
      (λ slot it. let there = relay_there es ks beside slot it.0 it.1 in (relay_of it.0 there.0, there.2, eq-eqb it.0.number number it.2)) is

  pub number_none : (found : Option ℕ) → IfNone found ((slot : ℕ) (e : Entry) → get_or es slot None ≡ Some e → e.number ≡ number → ⊥)
      → IfNone found ((slot : ℕ) (r : Relay) → get_or (relays_in es ks) slot None ≡ Some r → is_at number r ≡ false)
  number_none found is =
      if_none found ((slot : ℕ) (e : Entry) → get_or es slot None ≡ Some e → e.number ≡ number → ⊥)
      ((slot : ℕ) (r : Relay) → get_or (relays_in es ks) slot None ≡ Some r → is_at number r ≡ false)
      (λ none slot r at. let it = relay_from es ks slot r at in
      subst (λ (x : Relay). is_at number x ≡ false) it.relay (ne_eqb it.e.number number (none slot it.e it.entry))) is

  pub number_only : (found : Option ℕ) → ((slot : ℕ) (e : Entry) → get_or es slot None ≡ Some e → e.number ≡ number → found ≡ Some slot)
      → (slot : ℕ) (r : Relay) → get_or (relays_in es ks) slot None ≡ Some r → is_at number r ≡ true → found ≡ Some slot
  number_only found only slot r at is = let it = relay_from es ks slot r at in
      only slot it.e it.entry (eqb-true it.e.number number (subst (λ (x : Relay). is_at number x ≡ true) (sym it.relay) is))

module _ (user : UserId) (low : user.low < 2 ^ 128) (es : List (Option Entry)) (ks : List (Option Grants))
    (users : (i : ℕ) (e : Entry) → get_or es i None ≡ Some e → e.user.low < 2 ^ 128) where
  pub user_some : ((i : ℕ) → is_some (get_or es i None) ≡ is_some (get_or ks i None)) → (found : Option ℕ)
      → IfSome found (λ slot. (e : Entry) × (get_or es slot None ≡ Some e) × (is_user user e.user ≡ true))
      → IfSome found (λ slot. (r : Relay) × (get_or (relays_in es ks) slot None ≡ Some r) × (is_users (user_number user) r ≡ true))
  user_some beside found is =
      if_some found (λ slot. (e : Entry) × (get_or es slot None ≡ Some e) × (is_user user e.user ≡ true))
      (λ slot. (r : Relay) × (get_or (relays_in es ks) slot None ≡ Some r) × (is_users (user_number user) r ≡ true))
      (λ slot it. let there = relay_there es ks beside slot it.0 it.1 in (relay_of it.0 there.0, there.2, for_user user it.0.user low (users slot it.0 it.1) ∙ it.2)) is

  pub user_none : (found : Option ℕ) → IfNone found ((slot : ℕ) (e : Entry) → get_or es slot None ≡ Some e → is_user user e.user ≡ false)
      → IfNone found ((slot : ℕ) (r : Relay) → get_or (relays_in es ks) slot None ≡ Some r → is_users (user_number user) r ≡ false)
  user_none found is =
      if_none found ((slot : ℕ) (e : Entry) → get_or es slot None ≡ Some e → is_user user e.user ≡ false)
      ((slot : ℕ) (r : Relay) → get_or (relays_in es ks) slot None ≡ Some r → is_users (user_number user) r ≡ false)
      (λ none slot r at. let it = relay_from es ks slot r at in
      subst (λ (x : Relay). is_users (user_number user) x ≡ false) it.relay (for_user user it.e.user low (users slot it.e it.entry) ∙ none slot it.e it.entry)) is

-- ---- A new table, and an end

pub relays_none : (n : ℕ) → relays_in (replicate n None) (replicate n None) ≡ replicate n None
relays_none zero = refl
relays_none (suc n) = ap (λ (rs : List (Option Relay)). None ∷ rs) (relays_none n)

none_in : {X : Type 0} (n i : ℕ) (x : X) → get_or (replicate n None) i None ≡ Some x → ⊥
none_in zero i x is = absurd cc
none_in (suc n) zero x is = absurd cc
none_in (suc n) (suc i) x is = none_in n i x is

none_same : (n i : ℕ) → is_some (get_or (replicate {A = Option Entry} n None) i None) ≡ is_some (get_or (replicate {A = Option Grants} n None) i None)
none_same zero i = refl
none_same (suc n) zero = refl
none_same (suc n) (suc i) = none_same n i

pub new_table : (n : ℕ) → n < 2 ^ 24 → (s : State) (kept : List (Option Grants)) → s.entries ≡ replicate n None → s.round ≡ 0 → kept ≡ replicate n None → IsTable 0 s kept
new_table n low s kept entries round kept_is = record {
  few = let size = ap length entries ∙ length-replicate n None in omega (arith, size, low);
  size = ap length kept_is ∙ (length-replicate n None ∙ sym (ap length entries ∙ length-replicate n None));
  beside = λ i. rw (entries, kept_is) (none_same n i);
  fresh = omega arith;
  near = omega arith;
  below = λ i e at. absurd (none_in n i e (subst (λ (es : List (Option Entry)). get_or es i None ≡ Some e) entries at));
  users = λ i e at. absurd (none_in n i e (subst (λ (es : List (Option Entry)). get_or es i None ≡ Some e) entries at));
  numbered = λ i e at. absurd (none_in n i e (subst (λ (es : List (Option Entry)). get_or es i None ≡ Some e) entries at));
  one_key = λ i j a b at other same. absurd (none_in n i a (subst (λ (es : List (Option Entry)). get_or es i None ≡ Some a) entries at));
  soon = λ i e at. absurd (none_in n i e (subst (λ (es : List (Option Entry)). get_or es i None ≡ Some e) entries at));
}

pub set_none : {X : Type 0} (xs : List (Option X)) (i : ℕ) → get_or xs i None ≡ None → set xs i None ≡ xs
set_none [] i is = refl
set_none (x ∷ xs) zero is = ap (λ y. y ∷ xs) (sym is)
set_none (x ∷ xs) (suc i) is = ap (λ (ys : List (Option _)). x ∷ ys) (set_none xs i is)

-- an element after a set is the new one, in its place, or was there before
pub set_at : {X : Type 0} (xs : List (Option X)) (i : ℕ) (o : Option X) (j : ℕ) (x : X) → get_or (set xs i o) j None ≡ Some x → ((j ≡ i) × (o ≡ Some x)) ⊎ (get_or xs j None ≡ Some x)
set_at [] i o j x at = inr at
set_at (y ∷ xs) zero o zero x at = inl (refl, at)
set_at (y ∷ xs) zero o (suc j) x at = inr at
set_at (y ∷ xs) (suc i) o zero x at = inr at
set_at (y ∷ xs) (suc i) o (suc j) x at = elim (set_at xs i o j x at) [
  | inl new ↦ inl (ap suc new.0, new.1)
  | inr old ↦ inr old
]

beside_set : (es : List (Option Entry)) (ks : List (Option Grants)) → length ks ≡ length es → ((i : ℕ) → is_some (get_or es i None) ≡ is_some (get_or ks i None))
    → (slot : ℕ) (e : Option Entry) (k : Option Grants) → is_some e ≡ is_some k → (i : ℕ) → is_some (get_or (set es slot e) i None) ≡ is_some (get_or (set ks slot k) i None)
beside_set [] [] size beside slot e k both i = refl
beside_set [] (y ∷ ks) size beside slot e k both i = absurd (omega (arith, size))
beside_set (x ∷ es) [] size beside slot e k both i = absurd (omega (arith, size))
beside_set (x ∷ es) (y ∷ ks) size beside zero e k both zero = both
beside_set (x ∷ es) (y ∷ ks) size beside zero e k both (suc i) = beside (suc i)
beside_set (x ∷ es) (y ∷ ks) size beside (suc slot) e k both zero = beside 0
beside_set (x ∷ es) (y ∷ ks) size beside (suc slot) e k both (suc i) = beside_set es ks (omega (arith, size)) (λ j. beside (suc j)) slot e k both i

-- an entry that is there after an end was there before
ended_at : {X : Type 0} (xs : List (Option X)) (slot i : ℕ) (x : X) → get_or (set xs slot None) i None ≡ Some x → get_or xs i None ≡ Some x
ended_at xs slot i x at = elim (set_at xs slot None i x at) [
  | inl new ↦ absurd (none_isnt x new.1)
  | inr old ↦ old
]

pub ended_table : (next : ℕ) (s : State) (ks : List (Option Grants)) → IsTable next s ks → (slot : ℕ) (s2 : State) → s2 ≡ without slot s → IsTable next s2 (set ks slot None)
ended_table next s ks t slot s2 is = subst (λ (z : State). IsTable next z (set ks slot None)) (sym is) (record {
  few = let few = t.few in let size = length-set s.entries slot None in omega (arith, few, size);
  size = length-set ks slot None ∙ (t.size ∙ sym (length-set s.entries slot None));
  beside = beside_set s.entries ks t.size t.beside slot None None refl;
  fresh = t.fresh;
  near = t.near;
  below = λ i e at. t.below i e (ended_at s.entries slot i e at);
  users = λ i e at. t.users i e (ended_at s.entries slot i e at);
  numbered = λ i e at. t.numbered i e (ended_at s.entries slot i e at);
  one_key = λ i j a b at other. t.one_key i j a b (ended_at s.entries slot i a at) (ended_at s.entries slot j b other);
  soon = λ i e at. t.soon i e (ended_at s.entries slot i e at);
})

-- a free slot has no relayed address
pub relay_missing : (es : List (Option Entry)) (ks : List (Option Grants)) (i : ℕ) → get_or es i None ≡ None → get_or (relays_in es ks) i None ≡ None
relay_missing es ks i is = relay_at es ks i ∙ ap (λ (o : Option Entry). joined o (get_or ks i None)) is

-- ---- Another end

-- the same slots have an entry
some_kept : (xs : List (Option Entry)) (slot : ℕ) (e f : Entry) → get_or xs slot None ≡ Some e → (i : ℕ) → is_some (get_or (set xs slot (Some f)) i None) ≡ is_some (get_or xs i None)
some_kept [] slot e f at i = absurd cc
some_kept (x ∷ xs) zero e f at zero = sym (ap is_some at)
some_kept (x ∷ xs) zero e f at (suc i) = refl
some_kept (x ∷ xs) (suc slot) e f at zero = refl
some_kept (x ∷ xs) (suc slot) e f at (suc i) = some_kept xs slot e f at i

-- an entry's deadline changes: an entry that is there then was there before, but for its deadline
record Was (i : ℕ) (x : Entry) (xs : List (Option Entry)) : Type 0 where
  e : Entry
  at : get_or xs i None ≡ Some e
  key : x.key ≡ e.key
  user : x.user ≡ e.user
  number : x.number ≡ e.number

was_there : (slot expires_at : ℕ) (e : Entry) (xs : List (Option Entry)) → get_or xs slot None ≡ Some e → (i : ℕ) (x : Entry)
    → get_or (set xs slot (Some (record e { deadline = expires_at }))) i None ≡ Some x → Was i x xs
was_there slot expires_at e xs at i x at_i = elim (set_at xs slot (Some (record e { deadline = expires_at })) i x at_i) [
  | inl new ↦
      let same = some_is (record e { deadline = expires_at }) x new.1 in
      record {
        e = e;
        at = ap (λ (n : ℕ). get_or xs n None) new.0 ∙ at;
        key = sym (ap (λ (z : Entry). z.key) same);
        user = sym (ap (λ (z : Entry). z.user) same);
        number = sym (ap (λ (z : Entry). z.number) same);
      }
  | inr old ↦ record { e = x; at = old; key = refl; user = refl; number = refl }
]

pub changed_table : (next : ℕ) (s : State) (ks : List (Option Grants)) → IsTable next s ks → (slot expires_at : ℕ) (e : Entry) → get_or s.entries slot None ≡ Some e
    → expires_at < never → (s2 : State) → s2 ≡ record s { entries = set s.entries slot (Some (record e { deadline = expires_at })) } → IsTable next s2 ks
changed_table next s ks t slot expires_at e at early s2 is = subst (λ (z : State). IsTable next z ks) (sym is) (record {
  few = let few = t.few in let size = length-set s.entries slot (Some f) in omega (arith, few, size);
  size = t.size ∙ sym (length-set s.entries slot (Some f));
  beside = λ i. some_kept s.entries slot e f at i ∙ t.beside i;
  fresh = t.fresh;
  near = t.near;
  below = λ i x at_i. let it = was i x at_i in let low = t.below i it.e it.at in let number = it.number in omega (arith, low, number);
  users = λ i x at_i. let it = was i x at_i in let low = t.users i it.e it.at in let same = ap (λ (z : UserId). z.low) it.user in omega (arith, low, same);
  numbered = λ i x at_i. let it = was i x at_i in ap (λ (n : ℕ). n % places) it.number ∙ t.numbered i it.e it.at;
  one_key = λ i j a b at_i at_j same.
      let it = was i a at_i in
      let other = was j b at_j in
      t.one_key i j it.e other.e it.at other.at (sym it.key ∙ (same ∙ other.key));
  soon = λ i x at_i. elim (set_at s.entries slot (Some f) i x at_i) [
    | inl new ↦ let same = ap (λ (z : Entry). z.deadline) (some_is f x new.1) in omega (arith, early, same)
    | inr old ↦ t.soon i x old
  ];
})
  where
    f : Entry
    f = record e { deadline = expires_at }

    was : (i : ℕ) (x : Entry) → get_or (set s.entries slot (Some f)) i None ≡ Some x → Was i x s.entries
    was = was_there slot expires_at e s.entries at

pub relays_changed : (es : List (Option Entry)) (ks : List (Option Grants)) (slot : ℕ) (f : Entry) (g : Grants) → slot < length es → get_or ks slot None ≡ Some g
    → relays_in (set es slot (Some f)) ks ≡ set (relays_in es ks) slot (Some (relay_of f g))
relays_changed [] ks slot f g low at = absurd (omega (arith, low))
relays_changed (x ∷ es) [] slot f g low at = absurd cc
relays_changed (x ∷ es) (k ∷ ks) zero f g low at = ap (λ (o : Option Grants). joined (Some f) o ∷ relays_in es ks) at
relays_changed (x ∷ es) (k ∷ ks) (suc slot) f g low at = ap (λ (rs : List (Option Relay)). joined x k ∷ rs) (relays_changed es ks slot f g (omega (arith, low)) at)

pub is_there : {X : Type 0} (xs : List (Option X)) (i : ℕ) (x : X) → get_or xs i None ≡ Some x → i < length xs
is_there [] i x at = absurd cc
is_there (y ∷ xs) zero x at = omega arith
is_there (y ∷ xs) (suc i) x at = let more = is_there xs i x at in omega (arith, more)

pub none_or_some : {X : Type 0} (o : Option X) → (o ≡ None) ⊎ ((x : X) × (o ≡ Some x))
none_or_some None = inl refl
none_or_some (Some x) = inr (x, refl)

-- ---- An opening

pub opened_table : (next : ℕ) (s : State) (ks : List (Option Grants)) → IsTable next s ks → (slot : ℕ) (e : Entry) (g : Grants) → slot < length s.entries
    → e.number ≡ s.round * places + slot → e.user.low < 2 ^ 128 → ((i : ℕ) (x : Entry) → get_or s.entries i None ≡ Some x → is_relay e.key x.key ≡ false) → e.deadline < never
    → (s2 : State) → s2 ≡ record s { entries = set s.entries slot (Some e); round = s.round + 1 }
    → IsTable (e.number + 1) s2 (set ks slot (Some g))
opened_table next s ks t slot e g low number user key early s2 is = subst (λ (z : State). IsTable (e.number + 1) z (set ks slot (Some g))) (sym is) (record {
  few = let few = t.few in let size = length-set s.entries slot (Some e) in omega (arith, few, size);
  size = length-set ks slot (Some g) ∙ (t.size ∙ sym (length-set s.entries slot (Some e)));
  beside = beside_set s.entries ks t.size t.beside slot (Some e) (Some g) refl;
  fresh = let few = t.few in omega (arith, few, low, number);
  near = omega (arith, number);
  below = λ i x at. elim (set_at s.entries slot (Some e) i x at) [
    | inl new ↦ let same = ap (λ (z : Entry). z.number) (some_is e x new.1) in omega (arith, same)
    | inr old ↦ let before = t.below i x old in let fresh = t.fresh in omega (arith, before, fresh, number)
  ];
  users = λ i x at. elim (set_at s.entries slot (Some e) i x at) [
    | inl new ↦ let same = ap (λ (z : Entry). z.user.low) (some_is e x new.1) in omega (arith, same, user)
    | inr old ↦ t.users i x old
  ];
  numbered = λ i x at. elim (set_at s.entries slot (Some e) i x at) [
    | inl new ↦
        let few = t.few in
        let same = ap (λ (z : Entry). z.number) (some_is e x new.1) in
        let here = new.0 in
        omega (arith, few, low, number, same, here)
    | inr old ↦ t.numbered i x old
  ];
  one_key = λ i j a b at_i at_j same. elim (set_at s.entries slot (Some e) i a at_i) [
    | inl new ↦ elim (set_at s.entries slot (Some e) j b at_j) [
      | inl too ↦ new.0 ∙ sym too.0
      | inr old ↦ absurd (apart j b old (ap (λ (z : Entry). z.key) (some_is e a new.1) ∙ same))
    ]
    | inr was ↦ elim (set_at s.entries slot (Some e) j b at_j) [
      | inl new ↦ absurd (apart i a was (ap (λ (z : Entry). z.key) (some_is e b new.1) ∙ sym same))
      | inr old ↦ t.one_key i j a b was old same
    ]
  ];
  soon = λ i x at. elim (set_at s.entries slot (Some e) i x at) [
    | inl new ↦ let same = ap (λ (z : Entry). z.deadline) (some_is e x new.1) in omega (arith, same, early)
    | inr old ↦ t.soon i x old
  ];
})
  where
    -- no other entry has the key
    apart : (i : ℕ) (x : Entry) → get_or s.entries i None ≡ Some x → e.key ≡ x.key → ⊥
    apart i x at same = false≢true (sym (key i x at) ∙ subst (λ (k : RelayKey). is_relay e.key k ≡ true) same (relay_itself e.key))

-- all slots have relayed addresses
pub all_taken : (es : List (Option Entry)) (ks : List (Option Grants)) → ((i : ℕ) → is_some (get_or es i None) ≡ is_some (get_or ks i None))
    → ((slot : ℕ) → slot < length es → (e : Entry) × (get_or es slot None ≡ Some e))
    → (slot : ℕ) → slot < length (relays_in es ks) → (r : Relay) × (get_or (relays_in es ks) slot None ≡ Some r)
all_taken es ks beside full slot low =
    let size = relays_size es ks in
    let it = full slot (omega (arith, low, size)) in
    let there = relay_there es ks beside slot it.0 it.1 in
    (relay_of it.0 there.0, there.2)

-- ---- What is granted

-- what is kept is what the relayed address of the slot grants
grants_joined : (o : Option Entry) (k : Option Grants) → is_some o ≡ is_some k → k ≡ option_map grants_of (joined o k)
grants_joined None None beside = refl
grants_joined None (Some g) beside = absurd cc
grants_joined (Some e) None beside = refl
grants_joined (Some e) (Some g) beside = refl

pub grants_at : (es : List (Option Entry)) (ks : List (Option Grants)) → ((i : ℕ) → is_some (get_or es i None) ≡ is_some (get_or ks i None))
    → (i : ℕ) → get_or ks i None ≡ option_map grants_of (get_or (relays_in es ks) i None)
grants_at es ks beside i =
    grants_joined (get_or es i None) (get_or ks i None) (beside i) ∙ ap (option_map grants_of) (sym (relay_at es ks i))

-- what is asked of a relayed address, where that is asked of what is kept
pub asked_of : {A : Type 0} (f : Relay → A) (h : Grants → A) (none : A) (o : Option Relay) → ((r : Relay) → o ≡ Some r → f r ≡ h (grants_of r)) → (k : Option Grants) → k ≡ option_map grants_of o
    → option_map_or h k none ≡ option_map_or f o none
asked_of f h none None same k is = ap (λ (z : Option Grants). option_map_or h z none) is
asked_of f h none (Some r) same k is = ap (λ (z : Option Grants). option_map_or h z none) is ∙ sym (same r refl)

pub kept_is : (es : List (Option Entry)) (ks : List (Option Grants)) → ((i : ℕ) → is_some (get_or es i None) ≡ is_some (get_or ks i None))
    → (slot : ℕ) (items : List (Option Grants)) (k : Option Grants) → k ≡ get_or items slot None → items ≡ ks → k ≡ option_map grants_of (get_or (relays_in es ks) slot None)
kept_is es ks beside slot items k is same = is ∙ (ap (λ (z : List (Option Grants)). get_or z slot None) same ∙ grants_at es ks beside slot)

-- the family of a slot's entry, and that of its relayed address
pub family_of : (es : List (Option Entry)) (slot : ℕ) (entries : List (Option Entry)) (family : ℕ) → family ≡ option_map_or (λ e. e.key.family) (get_or entries slot None) 0 → entries ≡ es
    → (e : Entry) → get_or es slot None ≡ Some e → family ≡ e.key.family
family_of es slot entries family is same e at =
    is ∙ (ap (λ (z : List (Option Entry)). option_map_or (λ x. x.key.family) (get_or z slot None) 0) same ∙ ap (λ (z : Option Entry). option_map_or (λ x. x.key.family) z 0) at)

pub family_is : (es : List (Option Entry)) (ks : List (Option Grants)) (slot : ℕ) (entries : List (Option Entry)) (family : ℕ) → family ≡ option_map_or (λ e. e.key.family) (get_or entries slot None) 0 → entries ≡ es
    → (r : Relay) → get_or (relays_in es ks) slot None ≡ Some r → family ≡ r.family
family_is es ks slot entries family is same r at =
    let it = relay_from es ks slot r at in
    family_of es slot entries family is same it.e it.entry ∙ ap (λ (z : Relay). z.family) it.relay

-- ---- What is kept is changed

pub relays_kept : (es : List (Option Entry)) (ks : List (Option Grants)) (slot : ℕ) (e : Entry) (g : Grants) → length ks ≡ length es → get_or es slot None ≡ Some e
    → relays_in es (set ks slot (Some g)) ≡ set (relays_in es ks) slot (Some (relay_of e g))
relays_kept [] ks slot e g size at = absurd cc
relays_kept (x ∷ es) [] slot e g size at = absurd (omega (arith, size))
relays_kept (x ∷ es) (k ∷ ks) zero e g size at = ap (λ (o : Option Entry). joined o (Some g) ∷ relays_in es ks) at
relays_kept (x ∷ es) (k ∷ ks) (suc slot) e g size at = ap (λ (rs : List (Option Relay)). joined x k ∷ rs) (relays_kept es ks slot e g (omega (arith, size)) at)

pub kept_none : (es : List (Option Entry)) (ks : List (Option Grants)) → ((i : ℕ) → is_some (get_or es i None) ≡ is_some (get_or ks i None)) → (slot : ℕ) (f : Grants → Grants) (k : Option Grants) → k ≡ option_map f (get_or ks slot None)
    → get_or (relays_in es ks) slot None ≡ None → set ks slot k ≡ ks
kept_none es ks beside slot f k is none =
    let at : get_or ks slot None ≡ None = grants_at es ks beside slot ∙ ap (option_map grants_of) none in
    ap (set ks slot) (is ∙ ap (option_map f) at) ∙ set_none ks slot at
