-- The parts of a transaction, and which parts and key are those of one.
use Rattle.std.specs.Prelude.{Bool, not, Option, None, Some, is_some, nat_lt, if◌then◌else◌}
use Rattle.std.specs.Duration.{as_nanos}
use Rattle.std.specs.Option.{option_or}
use Rattle.stun_keys.specs.declared.keys.integrity_key.IntegrityKey.{IntegrityKey}
use Rattle.stun_keys.specs.Keys.{key_algorithm}
use Rattle.stun_transactions.specs.declared.guard.Signed.{Signed}
use Rattle.stun_transactions.specs.declared.parts.Mechanism.{Mechanism}
use Rattle.stun_transactions.specs.declared.parts.Mechanism.TheVariants.{ShortTerm, FirstLongTerm, LongTerm}
use Rattle.stun_transactions.specs.declared.parts.PartsError.{PartsError}
use Rattle.stun_transactions.specs.declared.parts.PartsError.TheVariants.{SignedOtherwise, SentTooOften, SentTooLate, NoKey, NoUseForKey, KeyForOneAlgorithm}
use Rattle.stun_transactions.specs.declared.parts.PendingRequest.{PendingRequest}
use Rattle.stun_transactions.specs.declared.parts.TransactionParts.{TransactionParts}
use Rattle.stun_transactions.specs.declared.retransmission.RetransmissionState.{RetransmissionState}
use Rattle.stun_transactions.specs.Guards.{is_signed, is_signed_for, signs}
use Rattle.stun_transactions.specs.Schedules.{requests_in}

-- the parts of a transaction, and its key
pub record PartsAndKey : Type 0 where
  pub parts : TransactionParts
  pub key : Option IntegrityKey

-- the same parts, but that it has come so far
abbrev pub at_state : TransactionParts → RetransmissionState → TransactionParts
at_state parts state = record parts { state = state }

-- the request of a transaction, as judging a response needs it
abbrev pub pending : TransactionParts → PendingRequest
pending parts = record {
  transport = parts.plan.transport;
  method = parts.method;
  id = parts.id;
  signed = parts.signed;
  mechanism = parts.mechanism;
  usage = parts.usage;
}

-- ---- Why they aren't those of a transaction

-- a request is signed exactly if a credential protects it
abbrev pub is_signed_otherwise : TransactionParts → Bool
is_signed_otherwise parts =
    if signs parts.mechanism then not (is_signed parts.signed) else is_signed parts.signed

-- why these parts are no transaction's: the request is signed otherwise than it is protected, or was
-- sent more often than the schedule says, or later than the latest moment that was reported
abbrev pub parts_fault : TransactionParts → Option PartsError
parts_fault parts =
    if is_signed_otherwise parts then Some SignedOtherwise
    else (if nat_lt (requests_in parts.plan) parts.state.sent then Some SentTooOften
    else (if nat_lt (as_nanos parts.state.clock) (as_nanos parts.state.last) then Some SentTooLate
    else None))

-- why the key isn't that of a transaction whose request a mechanism protects, or none, and shows
-- these integrity attributes: a short-term key works with one of them, and a long-term key with both
-- algorithms (RFC 8489, sections 9.1.2 and 9.2.5)
abbrev pub key_fault : Option Mechanism → Signed → Option IntegrityKey → Option PartsError
key_fault None signed None = None
key_fault None signed (Some key) = Some NoUseForKey
key_fault (Some FirstLongTerm) signed None = None
key_fault (Some FirstLongTerm) signed (Some key) = Some NoUseForKey
key_fault (Some ShortTerm) signed None = Some NoKey
key_fault (Some ShortTerm) signed (Some key) =
    if is_signed_for (key_algorithm key) signed then None else Some SignedOtherwise
key_fault (Some LongTerm) signed None = Some NoKey
key_fault (Some LongTerm) signed (Some key) =
    if is_some (key_algorithm key) then Some KeyForOneAlgorithm else None

-- why no transaction has these parts and this key
abbrev pub whole_fault : TransactionParts → Option IntegrityKey → Option PartsError
whole_fault parts key =
    option_or (parts_fault parts) (key_fault parts.mechanism parts.signed key)
