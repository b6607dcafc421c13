-- The parts of a transaction: they and its key are all of it, and none of a transaction's are refused.
use Rattle.std.proofs.Common.{◌≡◌, ℕ, ◌+◌, ◌<◌, ◌≤◌, Bool, true, false, List, Option, None, Some, refl, ap, ◌∙◌, inl, inr, arith}
use Rattle.std.specs.Prelude.{not, ◌&&◌, is_some, nat_lt, option_map, if◌then◌else◌}
use Rattle.std.specs.Duration.{as_nanos}
use Rattle.std.specs.Option.{option_or}
use Rattle.std.specs.declared.time.Duration.{Duration}
use Rattle.std.proofs.lemmas.Bool.{cases_Bool, le-ltb, ltb-false, ltb-true}
use Rattle.stun_grammar.specs.Headers.{type_field}
use Rattle.stun_base.specs.MessageTypes.{class_of}
use Rattle.stun_authentication.specs.LongTerm.{is_request}
use Rattle.stun_transactions.specs.declared.retransmission.RetransmissionState.{RetransmissionState}
use Rattle.stun_transactions.specs.declared.retransmission.Action.{Action}
use Rattle.stun_transactions.specs.declared.retransmission.Action.TheVariants.{Send, WaitUntil, Ended}
use Rattle.stun_transactions.specs.declared.retransmission.TransactionEnd.{TransactionEnd}
use Rattle.stun_transactions.specs.declared.guard.Protection.{Protection}
use Rattle.stun_transactions.specs.declared.response_policy.ResponsePolicy.{ResponsePolicy}
use Rattle.stun_transactions.specs.declared.plan.Plan.{Plan}
use Rattle.stun_transactions.specs.declared.received.Discard.TheVariants.{NotAuthentic, OtherAlgorithm, BidDown, UnsignedBadRequest, NoFingerprint}
use Rattle.stun_transactions.specs.declared.received.Outcome.{Outcome}
use Rattle.stun_transactions.specs.declared.received.Outcome.TheVariants.{NotForThis, Discarded, Failed, Success, Error}
use Rattle.stun_transactions.specs.declared.parts.Mechanism.{Mechanism}
use Rattle.stun_transactions.specs.declared.parts.PartsError.{PartsError}
use Rattle.stun_transactions.specs.declared.parts.PartsError.TheVariants.{SignedOtherwise, SentTooOften, SentTooLate}
use Rattle.stun_transactions.specs.declared.parts.TransactionParts.{TransactionParts}
use Rattle.stun_transactions.specs.declared.beginning.BeginError.{BeginError}
use Rattle.stun_transactions.specs.declared.transaction.Transaction.{Transaction}
use Rattle.stun_transactions.specs.Schedules.{requests_in}
use Rattle.stun_transactions.specs.Retransmissions.{later, begun, ended_by, stopped_by, Polls}
use Rattle.stun_transactions.specs.Guards.{signed_by, is_signed, signs, mechanism_of, key_of}
use Rattle.stun_transactions.specs.Outcomes.{after}
use Rattle.stun_transactions.specs.Beginning.{mismatch, misfit, request_fault, begin_fault, request_parts}
use Rattle.stun_transactions.specs.Transactions.{begun_with}
use Rattle.stun_transactions.specs.Parts.{at_state, is_signed_otherwise, parts_fault, key_fault, whole_fault}

pub all_of_it : (one other : Transaction) → one.parts ≡ other.parts → one.key ≡ other.key → one ≡ other
all_of_it one other parts key = λ i. record { parts = parts i; key = key i }

-- ---- What it means that parts aren't refused

record Sound (parts : TransactionParts) : Type 0 where
  signed : is_signed_otherwise parts ≡ false
  often : parts.state.sent ≤ requests_in parts.plan
  late : as_nanos parts.state.last ≤ as_nanos parts.state.clock

all_no : (a b c : Bool) (x y z : PartsError) → (if a then Some x else (if b then Some y else (if c then Some z else None))) ≡ None → (a ≡ false) × (b ≡ false) × (c ≡ false)
all_no true b c x y z e = absurd cc
all_no false true c x y z e = absurd cc
all_no false false true x y z e = absurd cc
all_no false false false x y z e = (refl, refl, refl)

sound_if : (parts : TransactionParts) → parts_fault parts ≡ None → Sound parts
sound_if parts none =
    let no = all_no (is_signed_otherwise parts) (nat_lt (requests_in parts.plan) parts.state.sent) (nat_lt (as_nanos parts.state.clock) (as_nanos parts.state.last)) SignedOtherwise SentTooOften SentTooLate none in
    record {
      signed = no.0;
      often = ltb-false (requests_in parts.plan) parts.state.sent no.1;
      late = ltb-false (as_nanos parts.state.clock) (as_nanos parts.state.last) no.2;
    }

sound_none : (parts : TransactionParts) → Sound parts → parts_fault parts ≡ None
sound_none parts sound =
    rw (sound.signed, le-ltb (requests_in parts.plan) parts.state.sent sound.often, le-ltb (as_nanos parts.state.clock) (as_nanos parts.state.last) sound.late) refl

-- ---- None of a transaction's are refused

grows : (clock now : Duration) → as_nanos clock ≤ as_nanos (later clock now)
grows clock now = elim (cases_Bool (nat_lt (as_nanos clock) (as_nanos now))) [
  | inl less ↦ rw less (omega (arith, ltb-true (as_nanos clock) (as_nanos now) less))
  | inr not_less ↦ rw not_less (omega arith)
]

at : (parts : TransactionParts) (one other : RetransmissionState) → one ≡ other → Sound (at_state parts other) → parts_fault (at_state parts one) ≡ None
at parts one other e sound = ap (λ (c : RetransmissionState). parts_fault (at_state parts c)) e ∙ sound_none (at_state parts other) sound

-- if a further request is to be sent, there is room for it
room : (stopped : Bool) (sent requests : ℕ) → (not stopped && nat_lt sent requests) ≡ true → sent < requests
room false sent requests more = ltb-true sent requests more
room true sent requests more = absurd cc

pub polled : (parts : TransactionParts) (now : Duration) (action : Action) (state : RetransmissionState) → parts_fault parts ≡ None → Polls parts.plan parts.state now action state → parts_fault (at_state parts state) ≡ None
polled parts now Send state none polls =
    let sound = sound_if parts none in
    at parts state (record parts.state { sent = parts.state.sent + 1; last = later parts.state.clock now; clock = later parts.state.clock now }) polls.new_is
    (record { signed = sound.signed; often = omega (arith, room parts.state.stopped parts.state.sent (requests_in parts.plan) polls.more); late = omega arith })
polled parts now (WaitUntil until) state none polls =
    let sound = sound_if parts none in
    at parts state (record parts.state { clock = later parts.state.clock now }) polls.new_is
    (record { signed = sound.signed; often = sound.often; late = omega (arith, sound.late, grows parts.state.clock now) })
polled parts now (Ended end) state none (inl over) = ap (λ (c : RetransmissionState). parts_fault (at_state parts c)) over.same ∙ none
polled parts now (Ended end) state none (inr out) =
    let sound = sound_if parts none in
    at parts state (record parts.state { clock = later parts.state.clock now; end = Some end }) out.new_is
    (record { signed = sound.signed; often = sound.often; late = omega (arith, sound.late, grows parts.state.clock now) })

pub received : (parts : TransactionParts) (outcome : Outcome) → parts_fault parts ≡ None → parts_fault (at_state parts (after outcome parts.state)) ≡ None
received parts NotForThis none = none
received parts (Discarded NotAuthentic claim) none = none
received parts (Discarded OtherAlgorithm claim) none = none
received parts (Discarded BidDown claim) none = none
received parts (Discarded UnsignedBadRequest claim) none = none
received parts (Discarded NoFingerprint claim) none = none
received parts (Failed failure) none = none
received parts (Success proof) none = none
received parts (Error code proof) none = none

pub ended : (parts : TransactionParts) (end : TransactionEnd) → parts_fault parts ≡ None → parts_fault (at_state parts (ended_by end parts.state)) ≡ None
ended parts end none = elim (cases_Bool (is_some parts.state.end)) [ inl there ↦ rw there none | inr away ↦ rw away none ]

pub stopped : (parts : TransactionParts) → parts_fault parts ≡ None → parts_fault (at_state parts (stopped_by parts.state)) ≡ None
stopped parts none = elim (cases_Bool (is_some parts.state.end)) [ inl there ↦ rw there none | inr away ↦ rw away none ]

-- neither the request is refused, nor the key
neither : (one other : Option BeginError) → option_or one other ≡ None → (one ≡ None) × (other ≡ None)
neither None other free = (refl, free)
neither (Some e) other free = absurd cc

no_misfit : (fault : Option PartsError) → option_map misfit fault ≡ None → fault ≡ None
no_misfit None free = refl
no_misfit (Some e) free = absurd cc

agree : (protected signed : Bool) → mismatch protected signed ≡ None → (if protected then not signed else signed) ≡ false
agree true true e = refl
agree true false e = absurd cc
agree false true e = absurd cc
agree false false e = refl

unrefused : (request : Bool) (protected signed : Bool) (reported : BeginError) → (if request then mismatch protected signed else Some reported) ≡ None → mismatch protected signed ≡ None
unrefused true protected signed reported e = e
unrefused false protected signed reported e = absurd cc

-- parts of a request that isn't refused, which has not been sent yet
pub begun_sound : (r : List ℕ) (plan : Plan) (mechanism : Option Mechanism) (usage : ResponsePolicy) (now : Duration) → request_fault (signs mechanism) r ≡ None → parts_fault (request_parts r plan mechanism usage (begun now)) ≡ None
begun_sound r plan mechanism usage now free =
    sound_none (request_parts r plan mechanism usage (begun now))
    (record { signed = agree (signs mechanism) (is_signed (signed_by r)) (unrefused (is_request (class_of (type_field r))) (signs mechanism) (is_signed (signed_by r)) _ free); often = omega arith; late = omega arith })

pub begins : (r : List ℕ) (plan : Plan) (protection : Protection) (usage : ResponsePolicy) (now : Duration) → begin_fault protection r ≡ None
    → whole_fault (begun_with r plan protection usage now).parts (begun_with r plan protection usage now).key ≡ None
begins r plan protection usage now free =
    let fault = key_fault (mechanism_of protection) (signed_by r) (key_of protection) in
    let parted = neither (request_fault (signs (mechanism_of protection)) r) (option_map misfit fault) free in
    rw (begun_sound r plan (mechanism_of protection) usage now parted.0) (no_misfit fault parted.1)
