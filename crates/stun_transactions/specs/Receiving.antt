-- What a received message is for a transaction (RFC 8489, sections 6.3, 6.3.3, 6.3.4, 9.1.4 and
-- 9.2.5).
use Rattle.std.specs.Prelude.{ℕ, Bool, List, Option, not, ◌&&◌, is_some, if◌then◌else◌}
use Rattle.std.specs.Option.{option_map_or}
use Rattle.stun_grammar.specs.declared.attribute_type.AttributeType.{AttributeType}
use Rattle.stun_grammar.specs.declared.integrity_algorithm.IntegrityAlgorithm.{IntegrityAlgorithm}
use Rattle.stun_grammar.specs.Headers.{type_field}
use Rattle.stun_grammar.specs.Parsing.{parse_fault}
use Rattle.stun_base.specs.declared.message_class.MessageClass.{MessageClass}
use Rattle.stun_base.specs.declared.message_class.MessageClass.TheVariants.{Error as ErrorClass}
use Rattle.stun_base.specs.declared.transport.TransportType.{TransportType}
use Rattle.stun_base.specs.declared.transport.TransportType.TheVariants.{Udp, Tcp}
use Rattle.stun_base.specs.MessageTypes.{class_of}
use Rattle.stun_authentication.specs.Codes.{shown_code, response_code}
use Rattle.stun_transactions.specs.declared.received.Claim.{Claim}
use Rattle.stun_transactions.specs.declared.received.Discard.{Discard}
use Rattle.stun_transactions.specs.declared.received.Discard.TheVariants.{NotAuthentic, OtherAlgorithm, BidDown, UnsignedBadRequest, NoFingerprint}
use Rattle.stun_transactions.specs.declared.received.Failure.TheVariants.{IntegrityViolated, UnknownAttribute, NoErrorCode}
use Rattle.stun_transactions.specs.declared.received.Outcome.{Outcome}
use Rattle.stun_transactions.specs.declared.received.Outcome.TheVariants.{NotForThis, Discarded, Failed, Success, Error}
use Rattle.stun_types.specs.Replies.{responds_to}
use Rattle.stun_keys.specs.declared.keys.integrity_key.IntegrityKey.{IntegrityKey}
use Rattle.stun_transactions.specs.declared.parts.PendingRequest.{PendingRequest}
use Rattle.stun_transactions.specs.declared.parts.TransactionParts.{TransactionParts}
use Rattle.stun_transactions.specs.Responses.{first_unknown}
use Rattle.stun_transactions.specs.Guards.{proof_of, guard_fault}
use Rattle.stun_transactions.specs.Outcomes.{is_open}
use Rattle.stun_transactions.specs.Parts.{pending}

-- what a response that isn't taken claims: its code, if it is an error response
abbrev pub claim_of : List ℕ → Claim
claim_of d = record { code = response_code d }

-- the report on a response that isn't taken: over a reliable transport one whose HMAC is wrong or
-- missing ends the transaction
abbrev pub discarded : TransportType → Claim → Discard → Outcome
discarded Tcp claim NotAuthentic = Failed (IntegrityViolated claim)
discarded Tcp claim OtherAlgorithm = Discarded OtherAlgorithm claim
discarded Tcp claim BidDown = Discarded BidDown claim
discarded Tcp claim UnsignedBadRequest = Discarded UnsignedBadRequest claim
discarded Tcp claim NoFingerprint = Discarded NoFingerprint claim
discarded Udp claim reason = Discarded reason claim

-- a response of this class that shows only types that are understood: an error response has a
-- code
abbrev pub content_by_class : Option IntegrityAlgorithm → MessageClass → List ℕ → Outcome
content_by_class proof ErrorClass d =
    option_map_or (λ code. Error code proof) (shown_code d) (Failed NoErrorCode)
content_by_class proof _ d = Success proof

-- what a response that isn't discarded reports, with the algorithm that authenticates it
abbrev pub content : Option IntegrityAlgorithm → List AttributeType → List ℕ → Outcome
content proof understood d =
    option_map_or (λ type. Failed (UnknownAttribute type)) (first_unknown understood d)
    (content_by_class proof (class_of (type_field d)) d)

-- whether d is a response to the request: it has the request's method and transaction ID
abbrev pub answers : PendingRequest → List ℕ → Bool
answers request d = responds_to request.method request.id d

-- what a message is for a request that awaits its response
abbrev pub judged : PendingRequest → Option IntegrityKey → List AttributeType → List ℕ → Outcome
judged request key understood d =
    if answers request d then
    option_map_or (discarded request.transport (claim_of d))
    (guard_fault request.mechanism key request.usage request.signed d)
    (content (proof_of request.mechanism key request.usage request.signed d) understood d)
    else NotForThis

-- the same for a transaction in progress
abbrev pub is_answer : TransactionParts → List ℕ → Bool
is_answer parts d = answers (pending parts) d

abbrev pub outcome : TransactionParts → Option IntegrityKey → List AttributeType → List ℕ → Outcome
outcome parts key understood d = judged (pending parts) key understood d

-- what received bytes are for a transaction: nothing if it isn't in progress, or they are no
-- message; what has a wrong FINGERPRINT is none
abbrev pub received_outcome : TransactionParts → Option IntegrityKey → List AttributeType → List ℕ
    → Outcome
received_outcome parts key understood d =
    if is_open parts.state && not (is_some (parse_fault d)) then outcome parts key understood d
    else NotForThis
