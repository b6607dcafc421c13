-- Writes of slots keep the IDs distinct.
use Rattle.std.proofs.Common.{◌≡◌, ◌≢◌, ℕ, suc, zero, ◌+◌, ◌<◌, ◌≤◌, ◌⊎◌, inl, inr, Bool, true, false, not, List, [], ◌∷◌, length, Option, None, Some, sym, ap, ◌∙◌, refl, arith, slice_index_or, slice_set, get_or-set_same, get_or-set_other, option_map, length-set, subst, eq-eqb}
use Rattle.std.specs.Prelude.{MatchOption, MatchResult, Result, Ok, Err, is_some, cond, nat_lt, if◌then◌else◌}
use Rattle.std.proofs.lemmas.Bool.Decides.{nat_tests}
use Rattle.std.specs.List.{position, position_or_len}
use Rattle.std.proofs.lemmas.Bool.{cases_eq, cases_lt}
use Rattle.std.proofs.lemmas.List.{get_or_past}
use Rattle.std.specs.declared.time.Duration.{Duration}
use Rattle.stun_transactions.specs.declared.slots.TransactionsAction.{TransactionsAction}
use Rattle.stun_transactions.specs.declared.slots.TransactionsAction.TheVariants.{Send, Ended, WaitUntil, Idle}
use Rattle.stun_transactions.specs.declared.transaction.Transaction.{Transaction}
use Rattle.stun_transactions.specs.Slots.{id_of, has_id, has_turn, is_free, in_slot, place_of, HasDistinctIds, changed, IsWait, PollsSlot, PollsSlots, room_fault, add_fault, IsAdded, Adds, addressee}
use Rattle.std.specs.Option.{option_map_or}
use Rattle.stun_grammar.specs.declared.error.StunParseError.{StunParseError}
use Rattle.stun_grammar.specs.Headers.{id_field}
use Rattle.stun_grammar.specs.Parsing.{parse_fault}
use Rattle.stun_transactions.specs.declared.guard.Protection.{Protection}
use Rattle.stun_transactions.specs.declared.response_policy.ResponsePolicy.{ResponsePolicy}
use Rattle.stun_transactions.specs.declared.beginning.BeginError.{BeginError}
use Rattle.stun_transactions.specs.declared.plan.Plan.{Plan}
use Rattle.stun_transactions.specs.Beginning.{begin_fault}
use Rattle.stun_transactions.specs.Transactions.{begun_with}
use Rattle.stun_transactions.specs.declared.slots.AddError.{AddError}
use Rattle.stun_transactions.specs.declared.slots.AddError.TheVariants.{Begin, InUse, Full}

-- a transaction in a slot before, with the same ID
record Was (o : Option Transaction) (u : Transaction) : Type 0 where
  transaction : Transaction
  is : o ≡ Some transaction
  same : id_of u ≡ id_of transaction

-- each transaction was in its slot before, by its ID
abbrev Keeps : List (Option Transaction) → List (Option Transaction) → Type 0
Keeps old new = (i : ℕ) (u : Transaction) → in_slot new i ≡ Some u → Was (in_slot old i) u

distinct_kept : (old new : List (Option Transaction)) → Keeps old new → HasDistinctIds old → HasDistinctIds new
distinct_kept old new keeps distinct i j t u at_i at_j same =
    let a = keeps i t at_i in
    let b = keeps j u at_j in
    distinct i j a.transaction b.transaction a.is b.is (sym a.same ∙ same ∙ b.same)

-- a write at a place
at_place : (slots : List (Option Transaction)) (place : ℕ) (x : Option Transaction) → ((u : Transaction) → x ≡ Some u → Was (in_slot slots place) u)
    → (u : Transaction) → in_slot (slice_set slots place x) place ≡ Some u → (place < length slots) ⊎ (length slots ≤ place) → Was (in_slot slots place) u
at_place slots place x was u h (inl inside) = was u (sym (get_or-set_same slots place x None inside) ∙ h)
at_place slots place x was u h (inr past) =
    let long : length (slice_set slots place x) ≤ place = omega (arith, length-set slots place x) in
    let none : in_slot (slice_set slots place x) place ≡ None = get_or_past (slice_set slots place x) place None long in
    absurd cc

anywhere : (slots : List (Option Transaction)) (place : ℕ) (x : Option Transaction) → ((u : Transaction) → x ≡ Some u → Was (in_slot slots place) u)
    → (i : ℕ) (u : Transaction) → in_slot (slice_set slots place x) i ≡ Some u → (i ≡ place) ⊎ (i ≢ place) → Was (in_slot slots i) u
anywhere slots place x was i u h (inl here) =
    rw here (at_place slots place x was u (rw here at h) (cases_lt place (length slots)))
anywhere slots place x was i u h (inr other) =
    record { transaction = u; is = sym (get_or-set_other slots place i x None other) ∙ h; same = refl }

written_keeps : (slots : List (Option Transaction)) (place : ℕ) (x : Option Transaction) → ((u : Transaction) → x ≡ Some u → Was (in_slot slots place) u) → Keeps slots (slice_set slots place x)
written_keeps slots place x was i u h = anywhere slots place x was i u h (cases_eq i place)

-- a change that keeps the ID
from_map : (f : Transaction → Transaction) → ((t : Transaction) → id_of (f t) ≡ id_of t) → (o : Option Transaction) (u : Transaction) → option_map f o ≡ Some u → Was o u
from_map f same None u e = absurd cc
from_map f same (Some t) u e = let is : f t ≡ u = cc in record { transaction = t; is = refl; same = sym (ap id_of is) ∙ same t }

changed_keeps : (f : Transaction → Transaction) → ((t : Transaction) → id_of (f t) ≡ id_of t) → (place : Option ℕ) (slots : List (Option Transaction)) → Keeps slots (changed f place slots)
changed_keeps f same None slots i u h = record { transaction = u; is = h; same = refl }
changed_keeps f same (Some at) slots i u h = written_keeps slots at (option_map f (in_slot slots at)) (from_map f same (in_slot slots at)) i u h

-- a change that keeps the ID of each transaction keeps the IDs distinct
pub changed_distinct : (f : Transaction → Transaction) → ((t : Transaction) → id_of (f t) ≡ id_of t) → (place : Option ℕ) (slots : List (Option Transaction)) → HasDistinctIds slots → HasDistinctIds (changed f place slots)
changed_distinct f same place slots = distinct_kept slots (changed f place slots) (changed_keeps f same place slots)

-- what a poll leaves in a slot
polled_was : (a : Option Transaction) (now : Duration) (task : TransactionsAction) (b : Option Transaction) → PollsSlot a now task b → (u : Transaction) → b ≡ Some u → Was a u
polled_was None now task b polls u e = absurd polls
polled_was (Some t) now (Send id) None polls u e = absurd polls
polled_was (Some t) now (Send id) (Some v) polls u e =
    let is : v ≡ u = cc in record { transaction = t; is = refl; same = sym (ap id_of is) ∙ ap id_of polls.1 }
polled_was (Some t) now (Ended id end) None polls u e = absurd cc
polled_was (Some t) now (Ended id end) (Some v) polls u e = absurd polls
polled_was (Some t) now (WaitUntil until) b polls u e = absurd polls
polled_was (Some t) now Idle b polls u e = absurd polls

polls_keep : (old : List (Option Transaction)) (now : Duration) (task : TransactionsAction) (new : List (Option Transaction)) (place : Option ℕ)
    → MatchOption place (IsWait old task × (new ≡ old)) (λ at. PollsSlot (in_slot old at) now task (in_slot new at) × (new ≡ slice_set old at (in_slot new at)))
    → Keeps old new
polls_keep old now task new None waits i u h = record { transaction = u; is = sym (ap (λ slots. in_slot slots i) waits.1) ∙ h; same = refl }
polls_keep old now task new (Some at) polls i u h =
    written_keeps old at (in_slot new at) (polled_was (in_slot old at) now task (in_slot new at) polls.0) i u (sym (ap (λ slots. in_slot slots i) polls.1) ∙ h)

-- a poll keeps the IDs distinct
pub polls_distinct : (old : List (Option Transaction)) (now : Duration) (task : TransactionsAction) (new : List (Option Transaction)) → PollsSlots old now task new → HasDistinctIds old → HasDistinctIds new
polls_distinct old now task new polls = distinct_kept old new (polls_keep old now task new (position (has_turn now) old) polls)

-- why none is added, by whether its ID is in use and whether a slot is free
by_full : (used free : Bool) → used ≡ false → free ≡ false → (if used then Some InUse else (if free then None else Some Full)) ≡ Some Full
by_full false false p q = refl
by_full false true p q = absurd cc
by_full true free p q = absurd cc

by_room : (used free : Bool) → used ≡ false → free ≡ true → (if used then Some InUse else (if free then None else Some Full)) ≡ None
by_room false true p q = refl
by_room false false p q = absurd cc
by_room true free p q = absurd cc

by_unused : (used free : Bool) → (if used then Some InUse else (if free then None else Some Full)) ≡ None → used ≡ false
by_unused false free e = refl
by_unused true free e = absurd cc

pub room_full : (id known : ℕ) (slots : List (Option Transaction)) → known ≡ id → is_some (place_of known slots) ≡ false → position is_free slots ≡ None → room_fault id slots ≡ Some Full
room_full id known slots e used free =
    let P : ℕ → Type 0 = λ n. room_fault n slots ≡ Some Full in
    subst P e (by_full (is_some (place_of known slots)) (is_some (position is_free slots)) used (ap is_some free))

pub room_there : (id known : ℕ) (slots : List (Option Transaction)) (place : ℕ) → known ≡ id → is_some (place_of known slots) ≡ false → position is_free slots ≡ Some place → room_fault id slots ≡ None
room_there id known slots place e used free =
    let P : ℕ → Type 0 = λ n. room_fault n slots ≡ None in
    subst P e (by_room (is_some (place_of known slots)) (is_some (position is_free slots)) used (ap is_some free))

pub added_there : (t : Transaction) (slots : List (Option Transaction)) (free : Option ℕ) (place : ℕ) → free ≡ Some place → MatchOption free ⊥ (λ at. slice_set slots place (Some t) ≡ slice_set slots at (Some t))
added_there t slots None place e = absurd cc
added_there t slots (Some at) place e = let same : at ≡ place = cc in ap (λ n. slice_set slots n (Some t)) (sym same)

first_fails : (passes : Bool) (n m : ℕ) → suc m ≤ cond (not passes) (1 + n) 0 → passes ≡ false
first_fails false n m h = refl
first_fails true n m h = absurd (omega arith)

rest_fails : (passes : Bool) (n m : ℕ) → suc m ≤ cond (not passes) (1 + n) 0 → m ≤ n
rest_fails false n m h = omega arith
rest_fails true n m h = absurd (omega arith)

by_len : (n m : ℕ) → cond (nat_lt m n) (Some m) None ≡ None → n ≤ m
by_len n m e = grind (arith, nat_tests)

from_none : {T : Type 0} (o : Option T) → is_some o ≡ false → o ≡ None
from_none None e = refl
from_none (Some x) e = absurd cc

-- if no slot passes, none does at any place
none_passes : (p : Option Transaction → Bool) (slots : List (Option Transaction)) (k : ℕ) → p None ≡ false → length slots ≤ position_or_len p slots → p (in_slot slots k) ≡ false
none_passes p [] k free long = free
none_passes p (x ∷ xs) zero free long = first_fails (p x) (position_or_len p xs) (length xs) long
none_passes p (x ∷ xs) (suc k) free long = none_passes p xs k free (rest_fails (p x) (position_or_len p xs) (length xs) long)

-- no transaction has an ID that is not in use
none_at : (p : Option Transaction → Bool) (slots : List (Option Transaction)) (k : ℕ) → p None ≡ false → position p slots ≡ None → p (in_slot slots k) ≡ false
none_at p slots k free none = none_passes p slots k free (by_len (length slots) (position_or_len p slots) none)

-- a transaction with an ID of its own keeps the IDs distinct
unused : (id : ℕ) (slots : List (Option Transaction)) (k : ℕ) (u : Transaction) → is_some (place_of id slots) ≡ false → in_slot slots k ≡ Some u → id_of u ≡ id → ⊥
unused id slots k u none at same =
    let fails : has_id id (in_slot slots k) ≡ false = none_at (has_id id) slots k refl (from_none (place_of id slots) none) in
    let here : has_id id (Some u) ≡ false = sym (ap (has_id id) at) ∙ fails in
    let passes : has_id id (Some u) ≡ true = eq-eqb (id_of u) id same in
    absurd cc

-- the slot of a transaction after another one was put into a slot
data Stands (slots : List (Option Transaction)) (place : ℕ) (t : Transaction) (i : ℕ) (u : Transaction) : Type 0 where
  here : i ≡ place → u ≡ t → Stands slots place t i u
  before : in_slot slots i ≡ Some u → Stands slots place t i u

stands_at : (slots : List (Option Transaction)) (place : ℕ) (t : Transaction) (u : Transaction) → in_slot (slice_set slots place (Some t)) place ≡ Some u → (place < length slots) ⊎ (length slots ≤ place) → u ≡ t
stands_at slots place t u h (inl inside) = let e : Some t ≡ Some u = sym (get_or-set_same slots place (Some t) None inside) ∙ h in cc
stands_at slots place t u h (inr past) =
    let long : length (slice_set slots place (Some t)) ≤ place = omega (arith, length-set slots place (Some t)) in
    let none : in_slot (slice_set slots place (Some t)) place ≡ None = get_or_past (slice_set slots place (Some t)) place None long in
    absurd cc

stands : (slots : List (Option Transaction)) (place : ℕ) (t : Transaction) (i : ℕ) (u : Transaction) → in_slot (slice_set slots place (Some t)) i ≡ Some u → (i ≡ place) ⊎ (i ≢ place) → Stands slots place t i u
stands slots place t i u h (inl e) = here e (stands_at slots place t u (rw e at h) (cases_lt place (length slots)))
stands slots place t i u h (inr other) = before (sym (get_or-set_other slots place i (Some t) None other) ∙ h)

apart : (slots : List (Option Transaction)) (place : ℕ) (t : Transaction) → HasDistinctIds slots → is_some (place_of (id_of t) slots) ≡ false → (i j : ℕ) (u v : Transaction) → Stands slots place t i u → Stands slots place t j v → id_of u ≡ id_of v → i ≡ j
apart slots place t distinct none i j u v (here a p) (here b q) same = a ∙ sym b
apart slots place t distinct none i j u v (here a p) (before at_j) same = absurd (unused (id_of t) slots j v none at_j (sym same ∙ ap id_of p))
apart slots place t distinct none i j u v (before at_i) (here b q) same = absurd (unused (id_of t) slots i u none at_i (same ∙ ap id_of q))
apart slots place t distinct none i j u v (before at_i) (before at_j) same = distinct i j u v at_i at_j same

put_distinct : (slots : List (Option Transaction)) (place : ℕ) (t : Transaction) → HasDistinctIds slots → is_some (place_of (id_of t) slots) ≡ false → HasDistinctIds (slice_set slots place (Some t))
put_distinct slots place t distinct none i j u v at_i at_j same =
    apart slots place t distinct none i j u v (stands slots place t i u at_i (cases_eq i place)) (stands slots place t j v at_j (cases_eq j place)) same

added_distinct : (t : Transaction) (old new : List (Option Transaction)) (free : Option ℕ) → HasDistinctIds old → is_some (place_of (id_of t) old) ≡ false → MatchOption free ⊥ (λ at. new ≡ slice_set old at (Some t)) → HasDistinctIds new
added_distinct t old new None distinct none added = absurd added
added_distinct t old new (Some at) distinct none added = let P : List (Option Transaction) → Type 0 = HasDistinctIds in subst P (sym added) (put_distinct old at t distinct none)

-- whether one was added or not, the IDs are distinct
pub add_distinct : (t : Transaction) (old new : List (Option Transaction)) (r : Result Unit AddError)
    → MatchResult r (λ _. (room_fault (id_of t) old ≡ None) × IsAdded t old new) (λ e. (room_fault (id_of t) old ≡ Some e) × (new ≡ old))
    → HasDistinctIds old → HasDistinctIds new
add_distinct t old new (Ok x) added distinct =
    added_distinct t old new (position is_free old) distinct (by_unused (is_some (place_of (id_of t) old)) (is_some (position is_free old)) added.0) added.1
add_distinct t old new (Err e) same distinct = let P : List (Option Transaction) → Type 0 = HasDistinctIds in subst P (sym same.1) distinct

-- what is reported of a request that would begin alone
by_begin : (o : Option BeginError) (x : Option AddError) → o ≡ None → option_map_or (λ reason. Some (Begin reason)) o x ≡ x
by_begin None x e = refl
by_begin (Some reason) x e = absurd cc

fault_is : (protection : Protection) (r : List ℕ) (id : ℕ) (slots : List (Option Transaction)) → begin_fault protection r ≡ None → id ≡ id_field r → add_fault protection r slots ≡ room_fault id slots
fault_is protection r id slots none e = by_begin (begin_fault protection r) (room_fault (id_field r) slots) none ∙ ap (λ n. room_fault n slots) (sym e)

pub begun : (r : List ℕ) (plan : Plan) (protection : Protection) (usage : ResponsePolicy) (now : Duration) (t : Transaction) (old new : List (Option Transaction)) (x : Result Unit AddError)
    → begin_fault protection r ≡ None → t ≡ begun_with r plan protection usage now
    → MatchResult x (λ _. (room_fault (id_of t) old ≡ None) × IsAdded t old new) (λ e. (room_fault (id_of t) old ≡ Some e) × (new ≡ old))
    → MatchResult x (λ _. (add_fault protection r old ≡ None) × Adds r plan protection usage now old new) (λ e. (add_fault protection r old ≡ Some e) × (new ≡ old))
begun r plan protection usage now t old new (Ok x) none begins added =
    (fault_is protection r (id_of t) old none (ap id_of begins) ∙ added.0, subst (λ (u : Transaction). IsAdded u old new) begins added.1)
begun r plan protection usage now t old new (Err e) none begins same =
    (fault_is protection r (id_of t) old none (ap id_of begins) ∙ same.0, same.1)

-- the place of the transaction that a message is for
by_parse : (o : Option StunParseError) (x : Option ℕ) → o ≡ None → (if is_some o then None else x) ≡ x
by_parse None x e = refl
by_parse (Some fault) x e = absurd cc

pub addressed : (d : List ℕ) (id : ℕ) (slots : List (Option Transaction)) → parse_fault d ≡ None → id ≡ id_field d → addressee d slots ≡ place_of id slots
addressed d id slots parses e = by_parse (parse_fault d) (place_of (id_field d) slots) parses ∙ ap (λ n. place_of n slots) (sym e)

free_at : (slots : List (Option Transaction)) → ((k : ℕ) (d : Option Transaction) → k < length slots → slice_index_or slots k d ≡ None) → (i : ℕ) → (i < length slots) ⊎ (length slots ≤ i) → in_slot slots i ≡ None
free_at slots free i (inl inside) = free i None inside
free_at slots free i (inr past) = get_or_past slots i None past

-- free slots hold no two transactions
pub free_distinct : (slots : List (Option Transaction)) → ((k : ℕ) (d : Option Transaction) → k < length slots → slice_index_or slots k d ≡ None) → HasDistinctIds slots
free_distinct slots free i j t u at_i at_j same =
    let none : in_slot slots i ≡ None = free_at slots free i (cases_lt i (length slots)) in
    absurd cc
