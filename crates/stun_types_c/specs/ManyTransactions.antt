-- Many transactions, which C keeps in an array of its own (RFC 8489, sections 6.2.1 and 6.3).
use Rattle.std.specs.Prelude.{◌≡◌, ℕ, ◌/◌, ◌-◌, ◌^◌, Bool, false, true, ◌&&◌, List, [], ◌∷◌, Option, None, Some, is_some, min, nat_lt, ◌==◌, MatchOption, if◌then◌else◌}
use Rattle.std.specs.Duration.{max_nanos}
use Rattle.std.specs.List.{position}
use Rattle.stun_base.specs.MessageTypes.{class_of, is_response}
use Rattle.stun_grammar.specs.Headers.{header_fault, id_field, type_field}
use Rattle.stun_grammar.specs.Numbers.{number}
use Rattle.stun_transactions.specs.declared.parts.TransactionParts.{TransactionParts}
use Rattle.stun_transactions.specs.Retransmissions.{due, is_timed}
use Rattle.stun_transactions.specs.Slots.{sooner}
use Rattle.stun_types_c.specs.declared.transactions.CTransaction.{CTransaction}
use Rattle.stun_types_c.specs.Transactions.{MatchKept}

-- ---- Which transaction a response is for

-- whether the request with this ID was sent, and its transaction has not ended
abbrev pub waits_for : ℕ → CTransaction → Bool
waits_for id kept =
    nat_lt 0 kept.sent && (kept.end == 0 && number kept.id.bytes == id)

-- the place of the transaction that a response is for, by the transaction ID in its header; none
-- if no response begins so
abbrev pub addressee : List ℕ → List CTransaction → Option ℕ
addressee d kept =
    if is_some (header_fault d) then None else (
    if is_response (class_of (type_field d)) then position (waits_for (id_field d)) kept else None)

-- a number is written; or there is none, and C's stays
abbrev pub TellsNumber : Option ℕ → Bool → (old new : ℕ) → Type 0
TellsNumber reported result old new =
    MatchOption reported ((result ≡ false) × (new ≡ old)) (λ number. (result ≡ true) × (new ≡ number))

-- ---- When something is to be done

-- when a transaction of these parts is to be polled, in milliseconds, unless it has ended
abbrev pub wake_in : TransactionParts → Option ℕ
wake_in parts =
    if is_some parts.state.end then None
    else Some (min (min (due parts.plan parts.state) max_nanos / 1_000_000) (2 ^ 64 - 1))

-- when the transaction that C keeps is to be polled; what keeps none never is
abbrev pub WakesAt : CTransaction → Option ℕ → Type 0
WakesAt kept reported = MatchKept kept (reported ≡ None) (λ parts. reported ≡ wake_in parts)

-- the soonest of these moments
abbrev pub SoonestOf : List CTransaction → Option ℕ → Type 0
SoonestOf [] reported = reported ≡ None
SoonestOf (kept ∷ more) reported =
    (first later : Option ℕ) × WakesAt kept first × SoonestOf more later × (reported ≡ sooner first later)

abbrev pub TellsSoonest : List CTransaction → Bool → (old new : ℕ) → Type 0
TellsSoonest kept result old new =
    (reported : Option ℕ) × SoonestOf kept reported × TellsNumber reported result old new

-- ---- How long a response took

-- the time from when the request was sent to now, in milliseconds, where a response was taken and a
-- single request was sent
abbrev pub TakesTime : (now : ℕ) → CTransaction → Option ℕ → Type 0
TakesTime now kept reported =
    MatchKept kept (reported ≡ None)
    (λ parts. reported ≡ (if is_timed parts.state then Some (now - kept.last) else None))

abbrev pub TellsRoundTrip : (now : ℕ) → CTransaction → Bool → (old new : ℕ) → Type 0
TellsRoundTrip now kept result old new =
    (reported : Option ℕ) × TakesTime now kept reported × TellsNumber reported result old new
