-- What a client's datagram is to a server (RFC 8656, sections 5 and 12; RFC 8489, sections 6.3 and 9.2.4).
use Rattle.std.specs.Prelude.{ℕ, Bool, true, false, not, ◌&&◌, List, [], ◌∷◌, Option, is_some, ◌==◌, if◌then◌else◌}
use Rattle.std.specs.Option.{option_map_or}
use Rattle.stun_grammar.specs.declared.integrity_algorithm.IntegrityAlgorithm.{IntegrityAlgorithm}
use Rattle.stun_grammar.specs.Headers.{type_field}
use Rattle.stun_grammar.specs.Names.{BINDING}
use Rattle.stun_grammar.specs.Parsing.{parse_fault}
use Rattle.stun_base.specs.declared.message_class.MessageClass.{MessageClass}
use Rattle.stun_base.specs.declared.message_class.MessageClass.TheVariants.{Request, Indication}
use Rattle.stun_base.specs.MessageTypes.{class_of, method_of}
use Rattle.stun_values.specs.declared.algorithm.PasswordAlgorithmValue.{PasswordAlgorithmValue}
use Rattle.stun_authentication.specs.declared.answer.Refusal.{Refusal}
use Rattle.stun_authentication.specs.declared.policy.Policy.{Policy}
use Rattle.stun_authentication.specs.Answers.{Decision, accept, refuse, discard, not_a_request}
use Rattle.stun_authentication.specs.Identities.{Who}
use Rattle.stun_authentication.specs.Lookups.{Known, UserKey}
use Rattle.stun_authentication.specs.LongTerm.{is_request, long_term, needs_key as needs_key_by}
use Rattle.stun_framing.specs.Channels.{begins_number}
use Rattle.turn_attrs.specs.Channels.{channel_field}
use Rattle.turn_attrs.specs.ChannelMessages.{data_in}
use Rattle.stun_endpoints.specs.declared.endpoints.Ip.{Ip}
use Rattle.stun_endpoints.specs.declared.endpoints.Endpoint.{Endpoint}
use Rattle.stun_endpoints.specs.declared.endpoints.FiveTuple.{FiveTuple}
use Rattle.turn_machine.specs.Events.{sends, sends_on, ticks}
use Rattle.turn_machine.specs.Reserving.{OuterState, Outer, plain}
use Rattle.turn_allocations.specs.declared.families.Families.{Families}
use Rattle.turn_server.specs.declared.sockets.Sockets.{Sockets}
use Rattle.turn_server.specs.ChannelMessages.{range_to}
use Rattle.turn_server.specs.Comprehended.{is_comprehended}
use Rattle.turn_server.specs.Indications.{sent_by, keeps_whole}
use Rattle.turn_server.specs.Requests.{asks_table, request_of}
use Rattle.turn_server.specs.Wanted.{Wanted, outer_of}
use Rattle.turn_server.specs.Accounts.{account_of}

-- What a server is at a moment, for one client: how it authenticates; the client's IP address; and the
-- sockets that the server has ready
pub record Site : Type 0 where
  pub policy : Policy
  pub realm : List ℕ
  pub nonces : List ℕ → Known
  pub keys : Who → List ℕ → PasswordAlgorithmValue → Option UserKey
  pub client : Ip
  pub sockets : Sockets

-- What comes of a datagram: nothing; the reply to a Binding request, whose credentials aren't looked at;
-- an error response that isn't signed (400, 401 or 438); an error response with the types that aren't
-- comprehended (420), signed by the user's key; the data of a Send indication, with the DF bit or without,
-- or of a ChannelData message; or what a user's request asks for, whose answer is signed by the key
pub data Judged : Type 0 where
  dropped : Judged
  binding : Judged
  refused : Refusal → Judged
  unknown : UserKey → (reply_algorithm : IntegrityAlgorithm) → Judged
  sent : Endpoint → (dont_fragment : Bool) → List ℕ → Judged
  sent_on : (channel : ℕ) → List ℕ → Judged
  asked : (user : ℕ) → Wanted → UserKey → (reply_algorithm : IntegrityAlgorithm) → Judged

-- the event that it is, on a 5-tuple of a server at this moment, if the sockets that are used get these numbers.
-- By a datagram that asks for nothing and has no data, time passes
abbrev pub event_of : FiveTuple → OuterState → (numbers : Families ℕ) → Judged → Outer
event_of tuple h numbers (sent peer dont_fragment bytes) = plain (sends tuple peer dont_fragment bytes)
event_of tuple h numbers (sent_on channel bytes) = plain (sends_on tuple channel bytes)
event_of tuple h numbers (asked user wanted key algorithm) = outer_of tuple user h numbers wanted
event_of tuple h numbers _ = plain ticks

-- whether it is a user's request
abbrev pub is_asked : Judged → Bool
is_asked (asked user wanted key algorithm) = true
is_asked _ = false

-- ---- ChannelData (section 12.6)

abbrev pub channel_message : List ℕ → Judged
channel_message d = option_map_or (sent_on (channel_field d)) (data_in d) dropped

-- ---- Indications (section 11.2): only Send comes from a client. Here and below `sets_df` is whether the
-- server sets the DF bit

abbrev pub SEND : ℕ
SEND = 0x006

abbrev pub indicated : (sets_df : Bool) → (method : ℕ) → List ℕ → Judged
indicated sets_df method d =
    if method == SEND
    then option_map_or (λ found. sent found.0 (keeps_whole sets_df d) found.1) (sent_by sets_df d) dropped
    else dropped

-- ---- Requests: the credentials first, then the types that aren't comprehended, then the request

abbrev pub accepted_as : (sets_df : Bool) → Site → (method : ℕ) → List ℕ → Who → UserKey → IntegrityAlgorithm
    → Judged
accepted_as sets_df site method d user key algorithm =
    if is_comprehended sets_df d
    then asked (account_of site.realm user) (request_of site.client site.sockets method d) key algorithm
    else unknown key algorithm

abbrev pub decided_as : (sets_df : Bool) → Site → (method : ℕ) → List ℕ → Decision → Judged
decided_as sets_df site method d (accept user key algorithm reply_algorithm) =
    accepted_as sets_df site method d user key reply_algorithm
decided_as sets_df site method d (refuse refusal) = refused refusal
decided_as sets_df site method d discard = dropped
decided_as sets_df site method d not_a_request = dropped

-- a request of another method is discarded: this server doesn't support it (RFC 8489, section 6.3)
abbrev pub requested : (sets_df : Bool) → Site → (method : ℕ) → List ℕ → Judged
requested sets_df site method d =
    if method == BINDING then binding else (
    if asks_table method
    then decided_as sets_df site method d
    (long_term site.policy site.realm site.nonces site.keys d)
    else dropped)

-- ---- A datagram

abbrev pub by_class : (sets_df : Bool) → Site → MessageClass → (method : ℕ) → List ℕ → Judged
by_class sets_df site Request method d = requested sets_df site method d
by_class sets_df site Indication method d = indicated sets_df method d
by_class sets_df site _ method d = dropped

abbrev pub message : (sets_df : Bool) → Site → List ℕ → Judged
message sets_df site d =
    if is_some (parse_fault d) then dropped
    else by_class sets_df site (class_of (type_field d)) (method_of (type_field d)) d

-- by its first byte (section 12): a channel's, up to the greatest number of a channel, 0x4FFF, or 0x7FFF
-- for clients of RFC 5766; or that of a STUN message
abbrev pub judge : (last_channel : ℕ) → (sets_df : Bool) → Site → List ℕ → Judged
judge last_channel sets_df site [] = dropped
judge last_channel sets_df site (first ∷ more) =
    if begins_number (range_to last_channel) first then channel_message (first ∷ more)
    else message sets_df site (first ∷ more)

-- ---- Whether it depends on the key of its user what comes of a datagram: it is a request for the allocations,
-- and none of the checks of its credentials decides that come before the key is looked up

abbrev pub request_needs_key : Policy → (nonces : List ℕ → Known) → (method : ℕ) → List ℕ → Bool
request_needs_key policy nonces method d = asks_table method && needs_key_by policy nonces d

abbrev pub message_needs_key : Policy → (nonces : List ℕ → Known) → List ℕ → Bool
message_needs_key policy nonces d =
    not (is_some (parse_fault d))
    && (is_request (class_of (type_field d))
    && request_needs_key policy nonces (method_of (type_field d)) d)

abbrev pub needs_key : (last_channel : ℕ) → Policy → (nonces : List ℕ → Known) → List ℕ → Bool
needs_key last_channel policy nonces [] = false
needs_key last_channel policy nonces (first ∷ more) =
    not (begins_number (range_to last_channel) first) && message_needs_key policy nonces (first ∷ more)
