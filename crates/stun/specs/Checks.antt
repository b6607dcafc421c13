-- What a response says of its request (RFC 8489, sections 6.3.3, 6.3.4, 9.1.4 and 9.2.5).
use Rattle.std.specs.Prelude.{◌≡◌, ℕ, List, [], true, false, not, ◌&&◌, Option, None, Some, Ok, Err, is_some, if◌then◌else◌}
use Rattle.std.specs.Option.{option_map_or}
use Rattle.stun_grammar.specs.declared.error.StunParseError.{StunParseError}
use Rattle.stun_grammar.specs.declared.integrity_algorithm.IntegrityAlgorithm.{IntegrityAlgorithm}
use Rattle.stun_grammar.specs.Headers.{type_field, id_field}
use Rattle.stun_grammar.specs.Parsing.{parse_fault}
use Rattle.stun_base.specs.declared.transport.TransportType.TheVariants.{Udp}
use Rattle.stun_base.specs.MessageTypes.{method_of}
use Rattle.stun_types.specs.Replies.{is_answer_to}
use Rattle.stun_transactions.specs.declared.guard.Protection.{Protection}
use Rattle.stun_transactions.specs.declared.response_policy.ResponsePolicy.{ResponsePolicy}
use Rattle.stun_transactions.specs.declared.received.Claim.{Claim}
use Rattle.stun_transactions.specs.declared.received.Outcome.{Outcome}
use Rattle.stun_transactions.specs.declared.transaction.Transaction.{Transaction}
use Rattle.stun_transactions.specs.Beginning.{begin_fault}
use Rattle.stun_transactions.specs.Guards.{signed_by, mechanism_of, key_of, proof_of, guard_fault}
use Rattle.stun_transactions.specs.Mapped.{ReadsMapped}
use Rattle.stun_transactions.specs.Outcomes.{is_open}
use Rattle.stun_transactions.specs.Receiving.{content, claim_of, discarded}
use Rattle.stun_transactions.specs.Transactions.{going_on}
use Rattle.stun.specs.declared.finding.Finding.{Finding}
use Rattle.stun.specs.declared.finding.Finding.TheVariants.{Mapped, Unmapped, Refused, Failed, Discarded, NotAnswered, NotBegun, NoRequest}

-- what the usage specifies of the response: a MESSAGE-INTEGRITY-SHA256 has 32 bytes (RFC 8489,
-- section 14.6), and a FINGERPRINT need not be there
abbrev pub usage : ResponsePolicy
usage = record { min_hmac_length = 32; fingerprint = false }

-- ---- The transaction

-- a transaction that goes on is in progress
pub record IsPolled (old new : Transaction) : Type 0 where
  pub same : new ≡ going_on old new.parts.state
  pub ongoing : is_open new.parts.state ≡ true

-- the request r, protected so, was sent over UDP, and the transaction is in progress
pub record IsSent (r : List ℕ) (protection : Protection) (transaction : Transaction) : Type 0 where
  pub transport_is : transaction.parts.plan.transport ≡ Udp
  pub method_is : transaction.parts.method ≡ method_of (type_field r)
  pub id_is : transaction.parts.id ≡ id_field r
  pub signed_is : transaction.parts.signed ≡ signed_by r
  pub mechanism_is : transaction.parts.mechanism ≡ mechanism_of protection
  pub usage_is : transaction.parts.usage ≡ usage
  pub key_is : transaction.key ≡ key_of protection
  pub ongoing : is_open transaction.parts.state ≡ true

-- ---- The answer

-- what a transaction of the request r, protected so, reports of d
abbrev pub reported : Protection → List ℕ → List ℕ → Outcome
reported protection r d =
    if not (is_some (parse_fault d)) && is_answer_to r d then
    option_map_or (discarded Udp (claim_of d))
    (guard_fault (mechanism_of protection) (key_of protection) usage (signed_by r) d)
    (content (proof_of (mechanism_of protection) (key_of protection) usage (signed_by r) d) [] d)
    else Outcome.NotForThis

-- the address that d reports; or none is read
abbrev pub MapsTo : List ℕ → Finding → Type 0
MapsTo d (Mapped a) = ReadsMapped d (Ok a)
MapsTo d Unmapped = (e : StunParseError) × ReadsMapped d (Err e)
MapsTo d _ = ⊥

-- a transaction of the request r takes d as a success response
abbrev pub Succeeds : Protection → List ℕ → List ℕ → Type 0
Succeeds protection r d =
    (proof : Option IntegrityAlgorithm) × (reported protection r d ≡ Outcome.Success proof)

-- what d says of the request r
abbrev pub Finds : Protection → List ℕ → List ℕ → Finding → Type 0
Finds protection r d (Mapped a) = Succeeds protection r d × MapsTo d (Mapped a)
Finds protection r d Unmapped = Succeeds protection r d × MapsTo d Unmapped
Finds protection r d (Refused code) =
    (proof : Option IntegrityAlgorithm) × (reported protection r d ≡ Outcome.Error code proof)
Finds protection r d (Failed failure) = reported protection r d ≡ Outcome.Failed failure
Finds protection r d (Discarded reason) =
    (claim : Claim) × (reported protection r d ≡ Outcome.Discarded reason claim)
Finds protection r d NotAnswered = reported protection r d ≡ Outcome.NotForThis
Finds protection r d (NotBegun error) = begin_fault protection r ≡ Some error
Finds protection r d NoRequest = ⊥
