-- What a datagram says if it is judged to be a success response, or data.
use Rattle.std.proofs.Common.{◌≡◌, ◌+◌, ℕ, Bool, true, false, List, [], ◌∷◌, Option, None, Some, refl, ap}
use Rattle.std.proofs.lemmas.Bool.{cond_both, eqb-true}
use Rattle.std.specs.Prelude.{Result, Ok, Err, is_some, not, ◌||◌, ◌==◌, option_and_then, if◌then◌else◌}
use Rattle.std.specs.Option.{option_map, option_map_or}
use Rattle.stun_grammar.specs.declared.attribute_type.AttributeType.{AttributeType}
use Rattle.stun_grammar.specs.declared.error.StunParseError.{StunParseError}
use Rattle.stun_grammar.specs.declared.integrity_algorithm.IntegrityAlgorithm.{IntegrityAlgorithm}
use Rattle.stun_grammar.specs.AttributeTypes.{XOR_MAPPED_ADDRESS}
use Rattle.stun_grammar.specs.Headers.{type_field, id_field}
use Rattle.stun_grammar.specs.Parsing.{parse_fault}
use Rattle.stun_base.specs.declared.message_class.MessageClass.{MessageClass}
use Rattle.stun_base.specs.declared.message_class.MessageClass.TheVariants as Class
use Rattle.stun_base.specs.declared.transport.TransportType.{TransportType}
use Rattle.stun_base.specs.declared.transport.TransportType.TheVariants.{Udp, Tcp}
use Rattle.stun_base.specs.MessageTypes.{class_of, method_of, is_response}
use Rattle.stun_authentication.specs.declared.retry.NoRetry.{NoRetry}
use Rattle.stun_authentication.specs.Challenges.{Retry, challenge_of}
use Rattle.stun_authentication.specs.Codes.{is_challenge, shown_code}
use Rattle.stun_framing.specs.declared.channel_range.ChannelRange.TheVariants.{Rfc8656}
use Rattle.stun_framing.specs.Channels.{begins_number}
use Rattle.stun_transactions.specs.declared.received.Claim.{Claim}
use Rattle.stun_transactions.specs.declared.received.Discard.{Discard}
use Rattle.stun_transactions.specs.declared.received.Discard.TheVariants.{NotAuthentic, OtherAlgorithm, BidDown, UnsignedBadRequest, NoFingerprint}
use Rattle.stun_transactions.specs.declared.received.Failure.TheVariants.{UnknownAttribute, NoErrorCode}
use Rattle.stun_transactions.specs.declared.received.Outcome.TheVariants.{NotForThis, Failed, Error}
use Rattle.stun_transactions.specs.Guards.{guard_fault, proof_of}
use Rattle.stun_transactions.specs.Receiving.{answers, claim_of, discarded, content, content_by_class}
use Rattle.stun_transactions.specs.Responses.{first_unknown}
use Rattle.turn_attrs.specs.ChannelMessages.{channel_fault, data_field}
use Rattle.turn_attrs.specs.Channels.{channel_field, data_length}
use Rattle.turn_attrs.specs.Turn.{XOR_RELAYED_ADDRESS}
use Rattle.stun_endpoints.specs.declared.endpoints.Endpoint.{Endpoint}
use Rattle.turn_client_machine.specs.declared.requests.Answer.{Answer}
use Rattle.turn_client_machine.specs.declared.requests.Answer.TheVariants.{Opened, Extended, Done, Refused, Challenged, Redirected, Violated}
use Rattle.turn_client_machine.specs.declared.requests.Kind.{Kind}
use Rattle.turn_client_machine.specs.declared.requests.Kind.TheVariants.{Allocate, Refresh, Delete, Permit, Bind}
use Rattle.turn_client_machine.specs.Joined.{is_success}
use Rattle.turn_client_messages.specs.Views.{Asked, Dealing}
use Rattle.turn_client_messages.specs.Judging.{Judged, response, challenge, peer_data, channel_data, stray, is_padded, on_channel, given_by, indicated, DATA_METHOD, by_challenge, other_error, error, by_outcome, responded, success, by_class, judge}
use Rattle.turn_client_messages.specs.Pending.{pending, is_authentic, mechanism_of, realm_tried, signed_with, key_of, turn_policy}
use Rattle.turn_client_messages.specs.Understood.{understood}
use Rattle.turn_client_messages.specs.Values.{alternate_in, lifetime_in, xored_in}
use Rattle.turn_client.specs.Warrants.{IsChannelData, IsDataOf}

-- a 401 or 438 that can be answered
abbrev pub is_asking : Answer → Bool
is_asking (Opened relayed mapped lifetime) = false
is_asking (Extended lifetime) = false
is_asking Done = false
is_asking (Refused code) = false
is_asking (Challenged code number) = true
is_asking (Redirected server) = false
is_asking Violated = false

-- what is judged to be a success is a success response, and judged by what it shows; what is judged to be data is
-- data
abbrev pub IsPlain : Kind → List ℕ → Judged → Type 0
IsPlain kind d (response id authentic answer) = (is_success answer ≡ true → (class_of (type_field d) ≡ Class.Success) × (answer ≡ success kind d)) × (is_asking answer ≡ false)
IsPlain kind d (challenge id authentic code retry) = Unit {0}
IsPlain kind d (peer_data peer bytes) = IsDataOf peer bytes d
IsPlain kind d (channel_data number bytes) = IsChannelData number bytes d
IsPlain kind d stray = Unit {0}

-- ---- What a success response grants is no challenge

extended_granted : (o : Option ℕ) → is_asking (option_map_or (λ answer. answer) (option_map (λ lifetime. Extended lifetime) o) (Refused 0)) ≡ false
extended_granted None = refl
extended_granted (Some lifetime) = refl

opened_granted : (relayed mapped : Option Endpoint) (lifetime : Option ℕ)
    → is_asking (option_map_or (λ answer. answer) (option_and_then (λ a. option_and_then (λ b. option_map (λ n. Opened a b n) lifetime) mapped) relayed) (Refused 0)) ≡ false
opened_granted None mapped lifetime = refl
opened_granted (Some a) None lifetime = refl
opened_granted (Some a) (Some b) None = refl
opened_granted (Some a) (Some b) (Some n) = refl

success_grants : (kind : Kind) (d : List ℕ) → is_asking (success kind d) ≡ false
success_grants Allocate d = opened_granted (xored_in XOR_RELAYED_ADDRESS d) (xored_in XOR_MAPPED_ADDRESS d) (lifetime_in d)
success_grants Refresh d = extended_granted (lifetime_in d)
success_grants Delete d = extended_granted (lifetime_in d)
success_grants (Permit peer) d = refl
success_grants (Bind number peer) d = refl

-- ---- Responses

no_fault : (o : Option StunParseError) → is_some o ≡ false → o ≡ None
no_fault None e = refl
no_fault (Some x) e = absurd cc

neither : (a b : Bool) → (a || b) ≡ false → a ≡ false
neither true b is = absurd cc
neither false b is = refl

module _ (dealing : Dealing) (r : Asked) (d : List ℕ) where
  abbrev Fits : Judged → Type 0
  Fits = IsPlain r.request.kind d

  refused : (id code : ℕ) (authentic : Bool) → Fits (response id authentic (Refused code))
  refused id code authentic = (λ e. absurd cc, refl)

  by_retry : (authentic : Bool) (code : ℕ) (reported : Result Retry NoRetry) → Fits (by_challenge (id_field d) authentic code reported)
  by_retry authentic code (Ok retry) = tt
  by_retry authentic code (Err why) = refused (id_field d) code true

  redirected : (authentic : Bool) (code : ℕ) (o : Option Endpoint) → Fits (response (id_field d) authentic (option_map_or (λ server. Redirected server) o (Refused code)))
  redirected authentic code None = refused (id_field d) code authentic
  redirected authentic code (Some server) = (λ e. absurd cc, refl)

  by_other : (authentic : Bool) (code : ℕ) → Fits (response (id_field d) authentic (other_error dealing code d))
  by_other authentic code =
      cond_both (code == 300) _ _ (λ (a : Answer). Fits (response (id_field d) authentic a))
      (λ _. redirected authentic code (alternate_in dealing.server.ip.family d)) (λ _. refused (id_field d) code authentic)

  by_error : (authentic : Bool) (code : ℕ) → Fits (error dealing r authentic code d)
  by_error authentic code =
      cond_both (is_challenge d) _ _ Fits
      (λ _. by_retry authentic code (challenge_of dealing.algorithms (realm_tried r.login) dealing.had_algorithms d)) (λ _. by_other authentic code)

  by_code : (proof : Option IntegrityAlgorithm) (code : Option ℕ) → Fits (by_outcome dealing r d (option_map_or (λ n. Error n proof) code (Failed NoErrorCode)))
  by_code proof None = refused (id_field d) 0 (is_authentic r d)
  by_code proof (Some n) = by_error (is_some proof) n

  of_class : (proof : Option IntegrityAlgorithm) (class : MessageClass) → class_of (type_field d) ≡ class → is_response class ≡ true → Fits (by_outcome dealing r d (content_by_class proof class d))
  of_class proof Class.Request is responds = absurd cc
  of_class proof Class.Indication is responds = absurd cc
  of_class proof Class.Success is responds = (λ _. (is, refl), success_grants r.request.kind d)
  of_class proof Class.Error is responds = by_code proof (shown_code d)

  of_types : (proof : Option IntegrityAlgorithm) (beyond : Option AttributeType) → is_response (class_of (type_field d)) ≡ true
      → Fits (by_outcome dealing r d (option_map_or (λ type. Failed (UnknownAttribute type)) beyond (content_by_class proof (class_of (type_field d)) d)))
  of_types proof None responds = of_class proof (class_of (type_field d)) refl responds
  of_types proof (Some type) responds = refused (id_field d) 0 (is_authentic r d)

  wrong : Fits (response (id_field d) false Violated)
  wrong = (λ e. absurd cc, refl)

  of_discard : (transport : TransportType) (claim : Claim) (reason : Discard) → Fits (by_outcome dealing r d (discarded transport claim reason))
  of_discard Udp claim NotAuthentic = wrong
  of_discard Udp claim OtherAlgorithm = tt
  of_discard Udp claim BidDown = tt
  of_discard Udp claim UnsignedBadRequest = tt
  of_discard Udp claim NoFingerprint = tt
  of_discard Tcp claim NotAuthentic = wrong
  of_discard Tcp claim OtherAlgorithm = tt
  of_discard Tcp claim BidDown = tt
  of_discard Tcp claim UnsignedBadRequest = tt
  of_discard Tcp claim NoFingerprint = tt

  of_fault : (proof : Option IntegrityAlgorithm) (fault : Option Discard) → is_response (class_of (type_field d)) ≡ true
      → Fits (by_outcome dealing r d (option_map_or (discarded dealing.transport (claim_of d)) fault (content proof understood d)))
  of_fault proof None responds = of_types proof (first_unknown understood d) responds
  of_fault proof (Some reason) responds = of_discard dealing.transport (claim_of d) reason

  of_answer : (proof : Option IntegrityAlgorithm) (fault : Option Discard) (is : Bool) → is_response (class_of (type_field d)) ≡ true
      → Fits (by_outcome dealing r d (if is then option_map_or (discarded dealing.transport (claim_of d)) fault (content proof understood d) else NotForThis))
  of_answer proof fault true responds = of_fault proof fault responds
  of_answer proof fault false responds = tt

  response_plain : is_response (class_of (type_field d)) ≡ true → Fits (responded dealing (Some r) d)
  response_plain responds =
      of_answer (proof_of (Some (mechanism_of r.login)) (key_of r.login) turn_policy (signed_with r.login) d)
      (guard_fault (Some (mechanism_of r.login)) (key_of r.login) turn_policy (signed_with r.login) d) (answers (pending dealing.transport r) d) responds

-- ---- Data

channel_plain : (kind : Kind) (transport : TransportType) (d : List ℕ) → IsPlain kind d (on_channel transport d)
channel_plain kind transport d =
    cond_both (is_some (channel_fault d) || not (is_padded transport (4 + data_length d) d)) stray (channel_data (channel_field d) (data_field d)) (IsPlain kind d) (λ _. tt)
    (λ no. record { whole = neither (is_some (channel_fault d)) (not (is_padded transport (4 + data_length d) d)) no; number_is = refl; data_is = refl })

given_plain : (kind : Kind) (d : List ℕ) (o : Option (Endpoint × List ℕ)) → parse_fault d ≡ None → class_of (type_field d) ≡ Class.Indication → method_of (type_field d) ≡ DATA_METHOD → given_by d ≡ o
    → IsPlain kind d (option_map_or (λ given. peer_data given.0 given.1) o stray)
given_plain kind d None parses class method is = tt
given_plain kind d (Some given) parses class method is = record { parses = parses; indicates = class; method_is = method; data_is = is }

indication_plain : (kind : Kind) (d : List ℕ) → parse_fault d ≡ None → class_of (type_field d) ≡ Class.Indication → IsPlain kind d (indicated (method_of (type_field d)) d)
indication_plain kind d parses class =
    cond_both (method_of (type_field d) == DATA_METHOD) _ stray (IsPlain kind d)
    (λ yes. given_plain kind d (given_by d) parses class (eqb-true (method_of (type_field d)) DATA_METHOD yes) refl) (λ _. tt)

-- ---- Datagrams

class_plain : (dealing : Dealing) (r : Asked) (d : List ℕ) → parse_fault d ≡ None → (class : MessageClass) → class_of (type_field d) ≡ class → IsPlain r.request.kind d (by_class dealing (Some r) class d)
class_plain dealing r d parses Class.Request is = tt
class_plain dealing r d parses Class.Indication is = indication_plain r.request.kind d parses is
class_plain dealing r d parses Class.Success is = response_plain dealing r d (ap is_response is)
class_plain dealing r d parses Class.Error is = response_plain dealing r d (ap is_response is)

pub judged_plain : (dealing : Dealing) (r : Asked) (d : List ℕ) → IsPlain r.request.kind d (judge dealing (Some r) d)
judged_plain dealing r [] = tt
judged_plain dealing r (first ∷ more) =
    let d = first ∷ more in
    cond_both (begins_number Rfc8656 first) _ _ (IsPlain r.request.kind d) (λ _. channel_plain r.request.kind dealing.transport d)
    (λ _. cond_both (is_some (parse_fault d)) stray _ (IsPlain r.request.kind d) (λ _. tt)
    (λ whole. class_plain dealing r d (no_fault (parse_fault d) whole) (class_of (type_field d)) refl))

alone_class : (kind : Kind) (dealing : Dealing) (d : List ℕ) → parse_fault d ≡ None → (class : MessageClass) → class_of (type_field d) ≡ class → IsPlain kind d (by_class dealing None class d)
alone_class kind dealing d parses Class.Request is = tt
alone_class kind dealing d parses Class.Indication is = indication_plain kind d parses is
alone_class kind dealing d parses Class.Success is = tt
alone_class kind dealing d parses Class.Error is = tt

pub alone_plain : (kind : Kind) (dealing : Dealing) (d : List ℕ) → IsPlain kind d (judge dealing None d)
alone_plain kind dealing [] = tt
alone_plain kind dealing (first ∷ more) =
    let d = first ∷ more in
    cond_both (begins_number Rfc8656 first) _ _ (IsPlain kind d) (λ _. channel_plain kind dealing.transport d)
    (λ _. cond_both (is_some (parse_fault d)) stray _ (IsPlain kind d) (λ _. tt)
    (λ whole. alone_class kind dealing d (no_fault (parse_fault d) whole) (class_of (type_field d)) refl))
