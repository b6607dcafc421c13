-- What is judged to be a response is one, and authentic if it counts as such.
use Rattle.std.proofs.Common.{◌≡◌, ◌+◌, ℕ, Bool, true, false, List, [], ◌∷◌, Option, None, Some, refl, ap, ◌∙◌, inl, inr}
use Rattle.std.proofs.lemmas.Bool.{eqb-true}
use Rattle.std.specs.Prelude.{Result, Ok, Err, is_some, not, ◌&&◌, ◌||◌, ◌==◌, if◌then◌else◌}
use Rattle.std.specs.Option.{option_map_or, option_or}
use Rattle.stun_grammar.specs.declared.attribute_type.AttributeType.{AttributeType}
use Rattle.stun_grammar.specs.declared.error.StunParseError.{StunParseError}
use Rattle.stun_grammar.specs.declared.error.ValidateError.{ValidateError}
use Rattle.stun_grammar.specs.declared.integrity_algorithm.IntegrityAlgorithm.{IntegrityAlgorithm}
use Rattle.stun_grammar.specs.Headers.{type_field, id_field, header_fault}
use Rattle.stun_grammar.specs.Numbers.{IsBytes}
use Rattle.stun_grammar.specs.Parsing.{parse_fault, body_fault}
use Rattle.stun_grammar.specs.Showing.{frame_fault, length_fault}
use Rattle.stun_grammar.proofs.AcceptingLemmas.{is_authentic_through}
use Rattle.stun_base.specs.declared.message_class.MessageClass.{MessageClass}
use Rattle.stun_base.specs.declared.message_class.MessageClass.TheVariants as Class
use Rattle.stun_base.specs.declared.transport.TransportType.{TransportType}
use Rattle.stun_base.specs.declared.transport.TransportType.TheVariants.{Udp, Tcp}
use Rattle.stun_base.specs.MessageTypes.{class_of, method_of, is_response}
use Rattle.stun_keys.specs.declared.keys.integrity_key.IntegrityKey.{IntegrityKey}
use Rattle.stun_keys.specs.Keys.{key_bytes, key_algorithm}
use Rattle.stun_authentication.specs.declared.retry.NoRetry.{NoRetry}
use Rattle.stun_authentication.specs.Challenges.{Retry, challenge_of}
use Rattle.stun_authentication.specs.Codes.{is_challenge, shown_code}
use Rattle.stun_authentication.specs.Policies.{has_least_length, proved_at}
use Rattle.stun_framing.specs.declared.channel_range.ChannelRange.TheVariants.{Rfc8656}
use Rattle.stun_framing.specs.Channels.{begins_number}
use Rattle.stun_transactions.specs.declared.received.Claim.{Claim}
use Rattle.stun_transactions.specs.declared.received.Discard.{Discard}
use Rattle.stun_transactions.specs.declared.received.Discard.TheVariants.{NotAuthentic, OtherAlgorithm, BidDown, UnsignedBadRequest, NoFingerprint}
use Rattle.stun_transactions.specs.declared.received.Failure.TheVariants.{UnknownAttribute, NoErrorCode}
use Rattle.stun_transactions.specs.declared.received.Outcome.{Outcome}
use Rattle.stun_transactions.specs.declared.received.Outcome.TheVariants.{NotForThis, Failed, Error}
use Rattle.stun_transactions.specs.Guards.{guard_fault, proof_of, validated}
use Rattle.stun_transactions.specs.Receiving.{answers, claim_of, discarded, content, content_by_class}
use Rattle.stun_transactions.specs.Responses.{first_unknown}
use Rattle.stun_transactions.specs.Taking.{IsAuthenticBy}
use Rattle.turn_attrs.specs.ChannelMessages.{channel_fault, data_field}
use Rattle.turn_attrs.specs.Channels.{channel_field, data_length}
use Rattle.turn_client_machine.specs.declared.requests.Answer.{Answer}
use Rattle.turn_client_machine.specs.declared.requests.Answer.TheVariants.{Refused, Violated}
use Rattle.turn_requests.specs.Requests.{Credentials}
use Rattle.turn_client_messages.specs.Views.{Asked, Dealing}
use Rattle.turn_client_messages.specs.Judging.{Judged, response, peer_data, channel_data, stray, is_padded, on_channel, given_by, indicated, DATA_METHOD, by_challenge, other_error, error, by_outcome, responded, success, by_class, message, judge, response_id}
use Rattle.turn_client_messages.specs.Origins.{Answers, IsSigned, IsSo, id_in}
use Rattle.turn_client_messages.specs.Pending.{pending, mechanism_of, signed_with, key_of, turn_policy, is_authentic, realm_tried}
use Rattle.turn_client_messages.specs.Requests.{id_of, method_for}
use Rattle.turn_client_messages.specs.Understood.{understood}

-- ---- What is authentic is signed

kept : (a : IntegrityAlgorithm) (long : Bool) → is_some (if long then Some a else None) ≡ true → long ≡ true
kept a true is = refl
kept a false is = absurd cc

proved : (key : IntegrityKey) (d : List ℕ) (v : Result IntegrityAlgorithm ValidateError) → IsBytes d → parse_fault d ≡ None → validated key d ≡ v
    → is_some (proved_at 32 d v) ≡ true → (a : IntegrityAlgorithm) × IsAuthenticBy 32 key d a
proved key d (Ok a) bytes parses is proof =
    (a, record { authentic = is_authentic_through (key_algorithm key) (λ _. key_bytes key) d a bytes parses is; long = kept a (has_least_length 32 a d) proof })
proved key d (Err e) bytes parses is proof = absurd cc

signed : (login : Option Credentials) (d : List ℕ) → IsBytes d → parse_fault d ≡ None → is_some (proof_of (Some (mechanism_of login)) (key_of login) turn_policy (signed_with login) d) ≡ true → IsSigned login d
signed None d bytes parses is = absurd cc
signed (Some login) d bytes parses is = proved login.key d (validated login.key d) bytes parses refl is

-- ---- What answers

-- what holds of both branches holds of the choice
either : (P : Judged → Type 0) (b : Bool) (x y : Judged) → (b ≡ true → P x) → (b ≡ false → P y) → P (if b then x else y)
either P true x y met unmet = met refl
either P false x y met unmet = unmet refl

found : {X : Type 0} (P : Judged → Type 0) (o : Option X) (f : X → Judged) (n : Judged) → ((x : X) → o ≡ Some x → P (f x)) → (o ≡ None → P n) → P (option_map_or f o n)
found P (Some x) f n some none = some x refl
found P None f n some none = none refl

no_fault : {X : Type 0} (o : Option X) → is_some o ≡ false → o ≡ None
no_fault None e = refl
no_fault (Some x) e = absurd cc

faulty : (fault : Option StunParseError) (more : Option StunParseError) (last : Option StunParseError) → option_or (option_or fault more) last ≡ None → fault ≡ None
faulty None more last is = refl
faulty (Some e) more last is = absurd cc

-- what parses has a header
header : (d : List ℕ) → parse_fault d ≡ None → header_fault d ≡ None
unfolding parse_fault frame_fault
header d parses = faulty (header_fault d) (length_fault d) (body_fault d) parses

both_true : (a b : Bool) → (a && b) ≡ true → (a ≡ true) × (b ≡ true)
both_true true b is = (refl, is)
both_true false b is = absurd cc

id_shown : (d : List ℕ) → parse_fault d ≡ None → is_response (class_of (type_field d)) ≡ true → response_id d ≡ Some (id_field d)
id_shown d parses responds = rw (header d parses, responds) refl

answering : (transport : TransportType) (r : Asked) (d : List ℕ) → parse_fault d ≡ None → answers (pending transport r) d ≡ true → Answers r (id_field d) d
answering transport r d parses is =
    let outer = both_true (is_response (class_of (type_field d))) ((method_of (type_field d) == method_for r.request.kind) && (id_field d == id_of r.request)) is in
    let inner = both_true (method_of (type_field d) == method_for r.request.kind) (id_field d == id_of r.request) outer.1 in
    record {
      parses = parses;
      responds = id_shown d parses outer.0;
      method_is = eqb-true (method_of (type_field d)) (method_for r.request.kind) inner.0;
      id_is = eqb-true (id_field d) (id_of r.request) inner.1;
    }

-- ---- Responses

module _ (dealing : Dealing) (r : Asked) (d : List ℕ) (bytes : IsBytes d) (parses : parse_fault d ≡ None) (right : Answers r (id_field d) d) where
  authentic_signed : is_authentic r d ≡ true → IsSigned r.login d
  authentic_signed is = signed r.login d bytes parses is

  plain : (answer : Answer) → IsSo r d (response (id_field d) (is_authentic r d) answer)
  plain answer = (right, λ is. inr (authentic_signed is))

  by_retry : (code : ℕ) (reported : Result Retry NoRetry) → is_challenge d ≡ true → IsSo r d (by_challenge (id_field d) (is_authentic r d) code reported)
  by_retry code (Ok retry) asks = (right, asks, λ is. authentic_signed is)
  by_retry code (Err why) asks = (right, λ _. inl (asks, (code, refl)))

  by_error : (code : ℕ) → IsSo r d (error dealing r (is_authentic r d) code d)
  by_error code =
      either (IsSo r d) (is_challenge d) _ _
      (λ asks. by_retry code (challenge_of dealing.algorithms (realm_tried r.login) dealing.had_algorithms d) asks)
      (λ _. plain (other_error dealing code d))

  by_code : (code : Option ℕ) → IsSo r d (by_outcome dealing r d (option_map_or (λ n. Error n (proof_of (Some (mechanism_of r.login)) (key_of r.login) turn_policy (signed_with r.login) d)) code (Failed NoErrorCode)))
  by_code None = plain (Refused 0)
  by_code (Some n) = by_error n

  of_class : (class : MessageClass) → IsSo r d (by_outcome dealing r d (content_by_class (proof_of (Some (mechanism_of r.login)) (key_of r.login) turn_policy (signed_with r.login) d) class d))
  of_class Class.Request = plain (success r.request.kind d)
  of_class Class.Indication = plain (success r.request.kind d)
  of_class Class.Success = plain (success r.request.kind d)
  of_class Class.Error = by_code (shown_code d)

  of_types : (beyond : Option AttributeType) → IsSo r d (by_outcome dealing r d (option_map_or (λ type. Failed (UnknownAttribute type)) beyond (content_by_class (proof_of (Some (mechanism_of r.login)) (key_of r.login) turn_policy (signed_with r.login) d) (class_of (type_field d)) d)))
  of_types None = of_class (class_of (type_field d))
  of_types (Some type) = plain (Refused 0)

  wrong : IsSo r d (response (id_field d) false Violated)
  wrong = (right, λ is. absurd cc)

  of_discard : (transport : TransportType) (claim : Claim) (reason : Discard) → IsSo r d (by_outcome dealing r d (discarded transport claim reason))
  of_discard Udp claim NotAuthentic = wrong
  of_discard Udp claim OtherAlgorithm = tt
  of_discard Udp claim BidDown = tt
  of_discard Udp claim UnsignedBadRequest = tt
  of_discard Udp claim NoFingerprint = tt
  of_discard Tcp claim NotAuthentic = wrong
  of_discard Tcp claim OtherAlgorithm = tt
  of_discard Tcp claim BidDown = tt
  of_discard Tcp claim UnsignedBadRequest = tt
  of_discard Tcp claim NoFingerprint = tt

  of_fault : (fault : Option Discard) → IsSo r d (by_outcome dealing r d (option_map_or (discarded dealing.transport (claim_of d)) fault (content (proof_of (Some (mechanism_of r.login)) (key_of r.login) turn_policy (signed_with r.login) d) understood d)))
  of_fault None = of_types (first_unknown understood d)
  of_fault (Some reason) = of_discard dealing.transport (claim_of d) reason

of_answer : (dealing : Dealing) (r : Asked) (d : List ℕ) → IsBytes d → parse_fault d ≡ None → (is : Bool) → answers (pending dealing.transport r) d ≡ is
    → IsSo r d (by_outcome dealing r d (if is then option_map_or (discarded dealing.transport (claim_of d)) (guard_fault (Some (mechanism_of r.login)) (key_of r.login) turn_policy (signed_with r.login) d) (content (proof_of (Some (mechanism_of r.login)) (key_of r.login) turn_policy (signed_with r.login) d) understood d) else NotForThis))
of_answer dealing r d bytes parses true is =
    of_fault dealing r d bytes parses (answering dealing.transport r d parses is) (guard_fault (Some (mechanism_of r.login)) (key_of r.login) turn_policy (signed_with r.login) d)
of_answer dealing r d bytes parses false is = tt

response_so : (dealing : Dealing) (r : Asked) (d : List ℕ) → IsBytes d → parse_fault d ≡ None → IsSo r d (responded dealing (Some r) d)
response_so dealing r d bytes parses = of_answer dealing r d bytes parses (answers (pending dealing.transport r) d) refl

-- ---- Datagrams

channel_so : (r : Asked) (transport : TransportType) (d : List ℕ) → IsSo r d (on_channel transport d)
channel_so r transport d = either (IsSo r d) (is_some (channel_fault d) || not (is_padded transport (4 + data_length d) d)) stray (channel_data (channel_field d) (data_field d)) (λ _. tt) (λ _. tt)

indication_so : (r : Asked) (method : ℕ) (d : List ℕ) → IsSo r d (indicated method d)
indication_so r method d =
    either (IsSo r d) (method == DATA_METHOD) _ stray
    (λ _. found (IsSo r d) (given_by d) (λ given. peer_data given.0 given.1) stray (λ _ _. tt) (λ _. tt)) (λ _. tt)

class_so : (dealing : Dealing) (r : Asked) (d : List ℕ) → IsBytes d → parse_fault d ≡ None → (class : MessageClass) → IsSo r d (by_class dealing (Some r) class d)
class_so dealing r d bytes parses Class.Request = tt
class_so dealing r d bytes parses Class.Indication = indication_so r (method_of (type_field d)) d
class_so dealing r d bytes parses Class.Success = response_so dealing r d bytes parses
class_so dealing r d bytes parses Class.Error = response_so dealing r d bytes parses

pub judged_so : (dealing : Dealing) (r : Asked) (d : List ℕ) → IsBytes d → IsSo r d (judge dealing (Some r) d)
judged_so dealing r [] bytes = tt
judged_so dealing r (first ∷ more) bytes =
    let d = first ∷ more in
    either (IsSo r d) (begins_number Rfc8656 first) _ _ (λ _. channel_so r dealing.transport d)
    (λ _. either (IsSo r d) (is_some (parse_fault d)) stray _ (λ _. tt)
    (λ whole. class_so dealing r d bytes (no_fault (parse_fault d) whole) (class_of (type_field d))))

-- ---- Without the request

-- what is no answer to the request is judged as without it
unasked : (dealing : Dealing) (r : Asked) (d : List ℕ) (is : Bool) (o : Outcome) → is ≡ false → by_outcome dealing r d (if is then o else NotForThis) ≡ stray
unasked dealing r d true o e = absurd cc
unasked dealing r d false o e = refl

-- the branches that differ are never taken
same_branch : (b : Bool) (x y z : Judged) → (b ≡ false → y ≡ z) → (if b then x else y) ≡ (if b then x else z)
same_branch true x y z same = refl
same_branch false x y z same = same refl

not_answered : (a b : Bool) → (a ≡ true → b ≡ true → ⊥) → (a && b) ≡ false
not_answered true true never = absurd (never refl refl)
not_answered true false never = refl
not_answered false b never = refl

same_class : (dealing : Dealing) (r : Asked) (d : List ℕ) → answers (pending dealing.transport r) d ≡ false → (class : MessageClass) → by_class dealing (Some r) class d ≡ by_class dealing None class d
same_class dealing r d other Class.Request = refl
same_class dealing r d other Class.Indication = refl
same_class dealing r d other Class.Success = unasked dealing r d (answers (pending dealing.transport r) d) _ other
same_class dealing r d other Class.Error = unasked dealing r d (answers (pending dealing.transport r) d) _ other

other_id : (transport : TransportType) (r : Asked) (d : List ℕ) → parse_fault d ≡ None → (response_id d ≡ Some (id_of r.request) → ⊥) → answers (pending transport r) d ≡ false
other_id transport r d parses other =
    not_answered (is_response (class_of (type_field d))) _
    (λ responds rest. other (id_shown d parses responds ∙ ap (λ (n : ℕ). Some n)
    (eqb-true (id_field d) (id_of r.request) (both_true (method_of (type_field d) == method_for r.request.kind) (id_field d == id_of r.request) rest).1)))

pub only_by_id : (dealing : Dealing) (r : Asked) (d : List ℕ) → (response_id d ≡ Some (id_of r.request) → ⊥) → judge dealing (Some r) d ≡ judge dealing None d
only_by_id dealing r [] other = refl
only_by_id dealing r (first ∷ more) other =
    let d = first ∷ more in
    same_branch (begins_number Rfc8656 first) (on_channel dealing.transport d) (message dealing (Some r) d) (message dealing None d)
    (λ _. same_branch (is_some (parse_fault d)) stray (by_class dealing (Some r) (class_of (type_field d)) d) (by_class dealing None (class_of (type_field d)) d)
    (λ whole. same_class dealing r d (other_id dealing.transport r d (no_fault (parse_fault d) whole) other) (class_of (type_field d))))

-- ---- Without any request

abbrev none_in : Judged → Type 0
none_in j = id_in j ≡ None

alone_class : (dealing : Dealing) (d : List ℕ) (class : MessageClass) → none_in (by_class dealing None class d)
alone_class dealing d Class.Request = refl
alone_class dealing d Class.Indication =
    either none_in (method_of (type_field d) == DATA_METHOD) _ stray
    (λ _. found none_in (given_by d) (λ given. peer_data given.0 given.1) stray (λ _ _. refl) (λ _. refl)) (λ _. refl)
alone_class dealing d Class.Success = refl
alone_class dealing d Class.Error = refl

pub alone : (dealing : Dealing) (d : List ℕ) → id_in (judge dealing None d) ≡ None
alone dealing [] = refl
alone dealing (first ∷ more) =
    let d = first ∷ more in
    either none_in (begins_number Rfc8656 first) _ _
    (λ _. either none_in (is_some (channel_fault d) || not (is_padded dealing.transport (4 + data_length d) d)) stray (channel_data (channel_field d) (data_field d)) (λ _. refl) (λ _. refl))
    (λ _. either none_in (is_some (parse_fault d)) stray _ (λ _. refl) (λ _. alone_class dealing d (class_of (type_field d))))
