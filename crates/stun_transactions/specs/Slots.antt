-- Slots for transactions: each holds one, or is free.
use Rattle.std.specs.Prelude.{◌≡◌, ℕ, Bool, true, false, List, [], ◌∷◌, Option, None, Some, is_some, min, slice_index_or, slice_set, option_map, option_and_then, ◌==◌, MatchOption, IsSomeAnd, if◌then◌else◌}
use Rattle.std.specs.List.{position}
use Rattle.std.specs.Option.{option_map_or}
use Rattle.std.specs.Duration.{as_nanos, max_nanos}
use Rattle.std.specs.declared.time.Duration.{Duration}
use Rattle.stun_grammar.specs.declared.attribute_type.AttributeType.{AttributeType}
use Rattle.stun_grammar.specs.Headers.{id_field}
use Rattle.stun_grammar.specs.Parsing.{parse_fault}
use Rattle.stun_transactions.specs.declared.plan.Plan.{Plan}
use Rattle.stun_transactions.specs.declared.retransmission.Action.{Action}
use Rattle.stun_transactions.specs.declared.retransmission.RetransmissionState.{RetransmissionState}
use Rattle.stun_transactions.specs.declared.guard.Protection.{Protection}
use Rattle.stun_transactions.specs.declared.response_policy.ResponsePolicy.{ResponsePolicy}
use Rattle.stun_transactions.specs.declared.received.Received.{Received}
use Rattle.stun_transactions.specs.declared.slots.TransactionsAction.{TransactionsAction}
use Rattle.stun_transactions.specs.declared.slots.TransactionsAction.TheVariants.{Send, Ended, WaitUntil, Idle}
use Rattle.stun_transactions.specs.declared.slots.AddError.{AddError}
use Rattle.stun_transactions.specs.declared.slots.AddError.TheVariants.{Begin, InUse, Full}
use Rattle.stun_transactions.specs.declared.transaction.Transaction.{Transaction}
use Rattle.stun_transactions.specs.Retransmissions.{Polls, is_ready, due}
use Rattle.stun_transactions.specs.Outcomes.{outcome_of, Holds}
use Rattle.stun_transactions.specs.Receiving.{received_outcome}
use Rattle.stun_transactions.specs.Beginning.{begin_fault}
use Rattle.stun_transactions.specs.Transactions.{begun_with, going_on}

-- the transaction ID of a transaction
abbrev pub id_of : Transaction → ℕ
id_of transaction = transaction.parts.id

-- whether a slot holds the transaction with this ID
abbrev pub has_id : ℕ → Option Transaction → Bool
has_id id None = false
has_id id (Some transaction) = id_of transaction == id

-- whether it is free
abbrev pub is_free : Option Transaction → Bool
is_free None = true
is_free (Some transaction) = false

-- what the slot at a place holds
abbrev pub in_slot : List (Option Transaction) → ℕ → Option Transaction
in_slot slots place = slice_index_or slots place None

-- the same, if there is a place
abbrev pub held : List (Option Transaction) → Option ℕ → Option Transaction
held slots place = option_and_then (in_slot slots) place

-- the place of the transaction with this ID
abbrev pub place_of : ℕ → List (Option Transaction) → Option ℕ
place_of id slots = position (has_id id) slots

-- no two transactions have the same ID
abbrev pub HasDistinctIds : List (Option Transaction) → Type 0
HasDistinctIds slots =
    (i j : ℕ) (t u : Transaction) → in_slot slots i ≡ Some t → in_slot slots j ≡ Some u
    → id_of t ≡ id_of u → i ≡ j

-- the slots with the transaction at a place changed, and each other slot as it was
abbrev pub changed : (Transaction → Transaction) → Option ℕ → List (Option Transaction)
    → List (Option Transaction)
changed change place slots =
    option_map_or (λ at. slice_set slots at (option_map change (in_slot slots at))) place slots

-- why no transaction with this ID is added: its ID is in use, or no slot is free
abbrev pub room_fault : ℕ → List (Option Transaction) → Option AddError
room_fault id slots =
    if is_some (place_of id slots) then Some InUse
    else (if is_some (position is_free slots) then None else Some Full)

-- why no transaction of the request r begins among others
abbrev pub add_fault : Protection → List ℕ → List (Option Transaction) → Option AddError
add_fault protection r slots =
    option_map_or (λ reason. Some (Begin reason)) (begin_fault protection r)
    (room_fault (id_field r) slots)

-- a transaction is put into the first free slot, and each other slot is as it was
abbrev pub IsAdded : Transaction → (old new : List (Option Transaction)) → Type 0
IsAdded transaction old new =
    MatchOption (position is_free old) ⊥ (λ place. new ≡ slice_set old place (Some transaction))

-- a transaction of the request r begins in the first free slot
abbrev pub Adds : List ℕ → Plan → Protection → ResponsePolicy → Duration
    → (old new : List (Option Transaction)) → Type 0
Adds r plan protection usage now old new =
    IsAdded (begun_with r plan protection usage now) old new

-- whether a poll of the transaction in a slot sends its request, or reports an end
abbrev pub has_turn : Duration → Option Transaction → Bool
has_turn now None = false
has_turn now (Some t) = is_ready t.parts.plan t.parts.state now

-- when the transaction in a slot is to be polled next: at once if an end is yet to be reported
abbrev pub wake : Option Transaction → Option ℕ
wake None = None
wake (Some t) =
    Some (if is_some t.parts.state.end then 0 else min (due t.parts.plan t.parts.state) max_nanos)

-- the sooner of two moments
abbrev pub sooner : Option ℕ → Option ℕ → Option ℕ
sooner None b = b
sooner (Some a) None = Some a
sooner (Some a) (Some b) = Some (min a b)

-- the soonest moment at which one of the transactions is to be polled
abbrev pub soonest : List (Option Transaction) → Option ℕ
soonest [] = None
soonest (slot ∷ slots) = sooner (wake slot) (soonest slots)

-- what is reported if nothing is to be done
abbrev pub IsWait : List (Option Transaction) → TransactionsAction → Type 0
IsWait slots (WaitUntil until) = soonest slots ≡ Some (as_nanos until)
IsWait slots Idle = soonest slots ≡ None
IsWait slots task = ⊥

-- what a poll of the transaction in a slot reports, and what the slot holds then: nothing if an end
-- was reported
abbrev pub PollsSlot : Option Transaction → Duration → TransactionsAction → Option Transaction → Type 0
PollsSlot (Some t) now (Send id) (Some u) =
    (id ≡ id_of t) × (u ≡ going_on t u.parts.state)
    × Polls t.parts.plan t.parts.state now Action.Send u.parts.state
PollsSlot (Some t) now (Ended id end) None =
    (id ≡ id_of t)
    × ((last : RetransmissionState) × Polls t.parts.plan t.parts.state now (Action.Ended end) last)
PollsSlot _ now task _ = ⊥

-- what a poll of all of them reports and leaves: the first that has something to do is polled, and
-- each other slot is as it was
abbrev pub PollsSlots : List (Option Transaction) → Duration → TransactionsAction → List (Option Transaction)
    → Type 0
PollsSlots old now task new =
    MatchOption (position (has_turn now) old) (IsWait old task × (new ≡ old))
    (λ place. PollsSlot (in_slot old place) now task (in_slot new place)
    × (new ≡ slice_set old place (in_slot new place)))

-- what is reported of d for a transaction: its ID, and what d is for it alone
pub record IsFor (t : Transaction) (understood : List AttributeType) (d : List ℕ)
    (reported : ℕ × Received) : Type 0 where
  pub id : reported.0 ≡ id_of t
  pub outcome : outcome_of reported.1 ≡ received_outcome t.parts t.key understood d
  pub message : Holds reported.1 d

-- the same, if there is a transaction, otherwise nothing
abbrev pub Tells : Option Transaction → List AttributeType → List ℕ → Option (ℕ × Received) → Type 0
Tells slot understood d reported =
    MatchOption slot (reported ≡ None) (λ t. IsSomeAnd reported (IsFor t understood d))

-- the place of the transaction that received bytes are for, by the ID of the message that they are
abbrev pub addressee : List ℕ → List (Option Transaction) → Option ℕ
addressee d slots = if is_some (parse_fault d) then None else place_of (id_field d) slots
