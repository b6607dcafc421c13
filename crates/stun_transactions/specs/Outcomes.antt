-- What is reported of a received message, and what it does to the state of the transaction.
use Rattle.std.specs.Prelude.{◌≡◌, ℕ, List, Bool, true, not, ◌&&◌, Some, is_some, nat_lt}
use Rattle.stun_types.specs.Message.{message_bytes}
use Rattle.stun_transactions.specs.declared.received.Discard.TheVariants.{NotAuthentic, OtherAlgorithm, BidDown, UnsignedBadRequest, NoFingerprint}
use Rattle.stun_transactions.specs.declared.received.Failure.{Failure}
use Rattle.stun_transactions.specs.declared.received.Outcome.{Outcome}
use Rattle.stun_transactions.specs.declared.received.Received.{Received}
use Rattle.stun_transactions.specs.declared.retransmission.RetransmissionState.{RetransmissionState}
use Rattle.stun_transactions.specs.declared.retransmission.TransactionEnd.{TransactionEnd}
use Rattle.stun_transactions.specs.declared.retransmission.TransactionEnd.TheVariants.{Answered, IntegrityViolated, Refused}

-- what is reported, without the message
abbrev pub outcome_of : Received → Outcome
outcome_of Received.NotForThis = Outcome.NotForThis
outcome_of (Received.Discarded reason claim) = Outcome.Discarded reason claim
outcome_of (Received.Failed failure) = Outcome.Failed failure
outcome_of (Received.Success message proof) = Outcome.Success proof
outcome_of (Received.Error message code proof) = Outcome.Error code proof

-- a message that is sent has these bytes
abbrev pub Holds : Received → List ℕ → Type 0
Holds (Received.Success message proof) d = message_bytes message ≡ d
Holds (Received.Error message code proof) d = message_bytes message ≡ d
Holds _ d = Unit {0}

-- how a failure ends the transaction
abbrev pub end_of_failure : Failure → TransactionEnd
end_of_failure (Failure.IntegrityViolated claim) = IntegrityViolated
end_of_failure _ = Refused

-- the state after a received message: what was discarded changes nothing, but that it wasn't
-- authentic is remembered
abbrev pub after : Outcome → RetransmissionState → RetransmissionState
after Outcome.NotForThis state = state
after (Outcome.Discarded NotAuthentic claim) state = record state { violated = true }
after (Outcome.Discarded OtherAlgorithm claim) state = record state { violated = true }
after (Outcome.Discarded BidDown claim) state = state
after (Outcome.Discarded UnsignedBadRequest claim) state = state
after (Outcome.Discarded NoFingerprint claim) state = state
after (Outcome.Failed failure) state = record state { end = Some (end_of_failure failure) }
after (Outcome.Success proof) state = record state { end = Some Answered }
after (Outcome.Error code proof) state = record state { end = Some Answered }

-- whether a transaction is in progress: its request was sent, and it has not ended
abbrev pub is_open : RetransmissionState → Bool
is_open state = nat_lt 0 state.sent && not (is_some state.end)
