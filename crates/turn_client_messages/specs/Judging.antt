-- What a datagram is to a client (RFC 8656, sections 7.3, 7.4, 8.3, 10.3, 11.4, 12.3 and 12.6; RFC
-- 8489, sections 6.3, 9.2.5, 10 and 14.15).
use Rattle.std.specs.Prelude.{ℕ, ◌+◌, Bool, true, false, not, ◌||◌, List, [], ◌∷◌, length, Option, None, Some, is_some, Result, Ok, Err, option_and_then, ◌==◌, if◌then◌else◌}
use Rattle.std.specs.Option.{option_map, option_map_or, option_zip}
use Rattle.stun_grammar.specs.AttributeTypes.{XOR_MAPPED_ADDRESS}
use Rattle.stun_grammar.specs.Headers.{type_field, id_field, header_fault}
use Rattle.stun_grammar.specs.Numbers.{padded_length}
use Rattle.stun_grammar.specs.Parsing.{parse_fault}
use Rattle.stun_base.specs.declared.message_class.MessageClass.{MessageClass}
use Rattle.stun_base.specs.declared.message_class.MessageClass.TheVariants.{Request as RequestClass, Indication}
use Rattle.stun_base.specs.declared.transport.TransportType.{TransportType}
use Rattle.stun_base.specs.declared.transport.TransportType.TheVariants.{Udp, Tcp}
use Rattle.stun_base.specs.MessageTypes.{class_of, method_of, is_response}
use Rattle.stun_authentication.specs.declared.retry.NoRetry.{NoRetry}
use Rattle.stun_authentication.specs.Challenges.{Retry, challenge_of}
use Rattle.stun_authentication.specs.Codes.{is_challenge}
use Rattle.stun_authentication.specs.Identities.{value_of, shows}
use Rattle.stun_framing.specs.declared.channel_range.ChannelRange.TheVariants.{Rfc8656}
use Rattle.stun_framing.specs.Channels.{begins_number}
use Rattle.stun_transactions.specs.declared.received.Discard.{Discard}
use Rattle.stun_transactions.specs.declared.received.Discard.TheVariants.{NotAuthentic}
use Rattle.stun_transactions.specs.declared.received.Failure.{Failure}
use Rattle.stun_transactions.specs.declared.received.Failure.TheVariants.{IntegrityViolated}
use Rattle.stun_transactions.specs.declared.received.Outcome.{Outcome}
use Rattle.stun_transactions.specs.declared.received.Outcome.TheVariants.{NotForThis, Discarded, Failed, Success, Error}
use Rattle.stun_transactions.specs.Receiving.{judged}
use Rattle.stun_endpoints.specs.declared.endpoints.Endpoint.{Endpoint}
use Rattle.turn_attrs.specs.Channels.{channel_field, data_length}
use Rattle.turn_attrs.specs.ChannelMessages.{channel_fault, data_field}
use Rattle.turn_attrs.specs.Turn.{DATA, ICMP, XOR_PEER_ADDRESS, XOR_RELAYED_ADDRESS}
use Rattle.turn_client_machine.specs.declared.requests.Answer.{Answer}
use Rattle.turn_client_machine.specs.declared.requests.Answer.TheVariants.{Opened, Extended, Done, Refused, Challenged, Redirected, Violated}
use Rattle.turn_client_machine.specs.declared.requests.Kind.{Kind}
use Rattle.turn_client_machine.specs.declared.requests.Kind.TheVariants.{Allocate, Refresh, Delete, Permit, Bind}
use Rattle.turn_client_machine.specs.Events.{Event, responds, gives, gives_on, strays}
use Rattle.turn_client_messages.specs.Views.{Asked, Dealing}
use Rattle.turn_client_messages.specs.Pending.{pending, key_of, is_authentic, realm_tried}
use Rattle.turn_client_messages.specs.Understood.{understood, is_understood}
use Rattle.turn_client_messages.specs.Values.{xored_in, alternate_in, lifetime_in}

-- A response to the request that is waited for, whose integrity is right or not; a 401 or 438 that
-- says how the request is sent again; the data of a peer, in a Data indication or in a ChannelData
-- message; or nothing
pub data Judged : Type 0 where
  response : (id : ℕ) → (authentic : Bool) → Answer → Judged
  challenge : (id : ℕ) → (authentic : Bool) → (code : ℕ) → Retry → Judged
  peer_data : (peer : Endpoint) → List ℕ → Judged
  channel_data : (number : ℕ) → List ℕ → Judged
  stray : Judged

-- the event of the machine that it is, from this address, if a challenge gets this number
abbrev pub event_of : (from : Endpoint) → (number : ℕ) → Judged → Event
event_of from number (response id authentic answer) = responds from id authentic answer
event_of from number (challenge id authentic code retry) =
    responds from id authentic (Challenged code number)
event_of from number (peer_data peer bytes) = gives from peer bytes
event_of from number (channel_data channel bytes) = gives_on from channel bytes
event_of from number stray = strays from

-- ---- ChannelData (section 12.6)

-- in a datagram up to three bytes may follow a message of n bytes, and in a stream its padding does
abbrev pub is_padded : TransportType → (n : ℕ) → List ℕ → Bool
is_padded Udp n d = true
is_padded Tcp n d = length d == padded_length n

abbrev pub on_channel : TransportType → List ℕ → Judged
on_channel transport d =
    if is_some (channel_fault d) || not (is_padded transport (4 + data_length d) d) then stray
    else channel_data (channel_field d) (data_field d)

-- ---- Indications (section 11.4): only Data comes from a server. One that reports an ICMP error
-- has no data

abbrev pub DATA_METHOD : ℕ
DATA_METHOD = 0x007

abbrev pub given_by : List ℕ → Option (Endpoint × List ℕ)
given_by d =
    if not (is_understood d) || shows ICMP d then None
    else option_zip (xored_in XOR_PEER_ADDRESS d) (value_of d DATA)

abbrev pub indicated : (method : ℕ) → List ℕ → Judged
indicated method d =
    if method == DATA_METHOD
    then option_map_or (λ given. peer_data given.0 given.1) (given_by d) stray else stray

-- ---- Success responses (sections 7.3, 8.3, 10.3 and 12.3)

abbrev pub opened_by : List ℕ → Option Answer
opened_by d =
    option_and_then (λ relayed. option_and_then (λ mapped.
    option_map (λ lifetime. Opened relayed mapped lifetime) (lifetime_in d))
    (xored_in XOR_MAPPED_ADDRESS d)) (xored_in XOR_RELAYED_ADDRESS d)

abbrev pub extended_by : List ℕ → Option Answer
extended_by d = option_map (λ lifetime. Extended lifetime) (lifetime_in d)

abbrev pub granted_by : Kind → List ℕ → Option Answer
granted_by Allocate d = opened_by d
granted_by Refresh d = extended_by d
granted_by Delete d = extended_by d
granted_by (Permit peer) d = Some Done
granted_by (Bind number peer) d = Some Done

-- what lacks an attribute that it needs is of no use, as an error without a code
abbrev pub success : Kind → List ℕ → Answer
success kind d = option_map_or (λ answer. answer) (granted_by kind d) (Refused 0)

-- ---- Error responses (sections 7.4, 8.3, 10.3 and 12.3)

-- a 401 or 438 (RFC 8489, section 9.2.5): the request is sent again, or the response refuses it,
-- signed or not
abbrev pub by_challenge : (id : ℕ) → (authentic : Bool) → (code : ℕ) → Result Retry NoRetry → Judged
by_challenge id authentic code (Ok retry) = challenge id authentic code retry
by_challenge id authentic code (Err why) = response id true (Refused code)

-- a 300 names an alternate server of the family of this one (RFC 8489, sections 10 and 14.15)
abbrev pub other_error : Dealing → (code : ℕ) → List ℕ → Answer
other_error dealing code d =
    if code == 300
    then option_map_or (λ server. Redirected server)
    (alternate_in dealing.server.ip.family d) (Refused code)
    else Refused code

abbrev pub error : Dealing → Asked → (authentic : Bool) → (code : ℕ) → List ℕ → Judged
error dealing r authentic code d =
    if is_challenge d
    then by_challenge (id_field d) authentic code
    (challenge_of dealing.algorithms (realm_tried r.login) dealing.had_algorithms d)
    else response (id_field d) authentic (other_error dealing code d)

-- ---- Responses, by what they are to the request (RFC 8489, sections 6.3.3, 6.3.4 and 9.2.5)

-- wrong or missing integrity is noted
abbrev pub discarded : (id : ℕ) → Discard → Judged
discarded id NotAuthentic = response id false Violated
discarded id _ = stray

abbrev pub failed : Asked → List ℕ → Failure → Judged
failed r d (IntegrityViolated claim) = response (id_field d) false Violated
failed r d _ = response (id_field d) (is_authentic r d) (Refused 0)

abbrev pub by_outcome : Dealing → Asked → List ℕ → Outcome → Judged
by_outcome dealing r d NotForThis = stray
by_outcome dealing r d (Discarded reason claim) = discarded (id_field d) reason
by_outcome dealing r d (Failed failure) = failed r d failure
by_outcome dealing r d (Success proof) =
    response (id_field d) (is_some proof) (success r.request.kind d)
by_outcome dealing r d (Error code proof) = error dealing r (is_some proof) code d

abbrev pub responded : Dealing → Option Asked → List ℕ → Judged
responded dealing None d = stray
responded dealing (Some r) d =
    by_outcome dealing r d (judged (pending dealing.transport r) (key_of r.login) understood d)

-- ---- A datagram

abbrev pub by_class : Dealing → Option Asked → MessageClass → List ℕ → Judged
by_class dealing request RequestClass d = stray
by_class dealing request Indication d = indicated (method_of (type_field d)) d
by_class dealing request _ d = responded dealing request d

abbrev pub message : Dealing → Option Asked → List ℕ → Judged
message dealing request d =
    if is_some (parse_fault d) then stray
    else by_class dealing request (class_of (type_field d)) d

-- by its first byte (section 12): that of a channel's number, or of a STUN message
abbrev pub judge : Dealing → Option Asked → List ℕ → Judged
judge dealing request [] = stray
judge dealing request (first ∷ more) =
    if begins_number Rfc8656 first then on_channel dealing.transport (first ∷ more)
    else message dealing request (first ∷ more)

-- ---- By which request a response is judged

-- the transaction ID of d, if it has the header of a response
abbrev pub id_by_class : MessageClass → List ℕ → Option ℕ
id_by_class class d = if is_response class then Some (id_field d) else None

abbrev pub response_id : List ℕ → Option ℕ
response_id d =
    if is_some (header_fault d) then None else id_by_class (class_of (type_field d)) d
