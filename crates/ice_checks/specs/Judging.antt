-- What a datagram is that an agent receives (RFC 8445, sections 7.2.5 and 7.3; RFC 8489, sections 6.3 and
-- 9.1), row by row: the first row that applies decides.
use Rattle.std.specs.Prelude.{ℕ, ◌/◌, ◌^◌, Bool, true, false, not, ◌&&◌, is_some, List, length, drop, bit_xor, slice_index, Option, None, Some, ◌==◌, if◌then◌else◌, option_and_then}
use Rattle.std.specs.Option.{option_map_or, option_zip}
use Rattle.stun_grammar.specs.declared.integrity_algorithm.IntegrityAlgorithm.{IntegrityAlgorithm}
use Rattle.stun_grammar.specs.AttributeTypes.{XOR_MAPPED_ADDRESS}
use Rattle.stun_grammar.specs.Headers.{magic_cookie, type_field, id_field}
use Rattle.stun_grammar.specs.Names.{BINDING}
use Rattle.stun_grammar.specs.Numbers.{number}
use Rattle.stun_grammar.specs.Parsing.{parse_fault}
use Rattle.stun_base.specs.declared.message_class.MessageClass.{MessageClass}
use Rattle.stun_base.specs.declared.message_class.MessageClass.TheVariants.{Request, Indication, Success as SuccessClass, Error as ErrorClass}
use Rattle.stun_base.specs.declared.transport.TransportType.TheVariants.{Udp}
use Rattle.stun_base.specs.MessageTypes.{class_of, method_of}
use Rattle.stun_values.specs.Addresses.{address_fault, port_in, xor_bytes, mask}
use Rattle.stun_authentication.specs.declared.answer.Refusal.{Refusal as Denial}
use Rattle.stun_authentication.specs.declared.answer.Refusal.TheVariants.{BadRequest as DeniedBad, Unauthenticated as DeniedUnknown, StaleNonce as DeniedStale}
use Rattle.stun_authentication.specs.declared.policy.Policy.{Policy}
use Rattle.stun_authentication.specs.Answers.{Decision, accept, refuse, discard, not_a_request}
use Rattle.stun_authentication.specs.Identities.{value_of, shows}
use Rattle.stun_authentication.specs.Policies.{is_fingerprinted}
use Rattle.stun_authentication.specs.ShortTerm.{short_term}
use Rattle.stun_transactions.specs.declared.parts.Mechanism.TheVariants.{ShortTerm}
use Rattle.stun_transactions.specs.declared.parts.PendingRequest.{PendingRequest}
use Rattle.stun_transactions.specs.declared.received.Outcome.{Outcome}
use Rattle.stun_transactions.specs.declared.received.Outcome.TheVariants.{Success, Error}
use Rattle.stun_transactions.specs.Receiving.{judged}
use Rattle.stun_endpoints.specs.declared.endpoints.Endpoint.{Endpoint}
use Rattle.ice_attrs.specs.Ice.{PRIORITY, USE_CANDIDATE, ICE_CONTROLLED, ICE_CONTROLLING}
use Rattle.ice_machine.specs.declared.messages.Answer.TheVariants.{Accepted, Refused as RefusedBy}
use Rattle.ice_machine.specs.declared.messages.Check.{Check}
use Rattle.ice_machine.specs.declared.roles.Role.{Role}
use Rattle.ice_machine.specs.declared.roles.Role.TheVariants.{Controlling, Controlled}
use Rattle.ice_machine.specs.Events.{Event, checks, responds, strays, arrives}
use Rattle.ice_checks.specs.declared.judged.Judged.{Judged}
use Rattle.ice_checks.specs.declared.judged.Judged.TheVariants.{Arrives, Strays, Refused, Responds, Checks}
use Rattle.ice_checks.specs.declared.judged.Refusal.{Refusal}
use Rattle.ice_checks.specs.declared.judged.Refusal.TheVariants.{BadRequest, Unauthenticated, UnknownTypes}
use Rattle.ice_checks.specs.Sessions.{key_of}
use Rattle.ice_checks.specs.Types.{is_understood, listed_types, understood}
use Rattle.ice_checks.specs.Views.{Login, Logins, Response, bad_request, unauthenticated, unknown}

-- ---- The error responses

abbrev pub code_of : Refusal → ℕ
code_of BadRequest = 400
code_of Unauthenticated = 401
code_of UnknownTypes = 420

abbrev pub refusal_to : (request : List ℕ) → Refusal → Response
refusal_to request BadRequest = bad_request
refusal_to request Unauthenticated = unauthenticated
refusal_to request UnknownTypes = unknown (listed_types request)

-- ---- What a message shows

-- a value of so many bytes, as a number
abbrev pub number_of : (width : ℕ) → (value : List ℕ) → Option ℕ
number_of width value = if length value == width then Some (number value) else None

-- PRIORITY has four bytes (section 16.1)
abbrev pub priority_in : List ℕ → Option ℕ
priority_in d = option_and_then (number_of 4) (value_of d PRIORITY)

-- a role, and its tiebreaker of eight bytes (section 16.1)
abbrev pub role_with : Role → (value : List ℕ) → Option (Role × ℕ)
role_with role value = option_map_or (λ tiebreaker. Some (role, tiebreaker)) (number_of 8 value) None

-- by exactly one of ICE-CONTROLLING and ICE-CONTROLLED
abbrev pub role_by : (controlling controlled : Option (List ℕ)) → Option (Role × ℕ)
role_by (Some value) None = role_with Controlling value
role_by None (Some value) = role_with Controlled value
role_by None None = None
role_by (Some value) (Some other) = None

abbrev pub role_in : List ℕ → Option (Role × ℕ)
role_in d = role_by (value_of d ICE_CONTROLLING) (value_of d ICE_CONTROLLED)

-- the address in the value of an XOR-MAPPED-ADDRESS (RFC 8489, section 14.2)
abbrev pub address_read : (id : ℕ) → (value : List ℕ) → Option Endpoint
address_read id value =
    if is_some (address_fault value) then None
    else Some (record {
      ip = record {
        family = slice_index value 1;
        number = number (xor_bytes (drop 4 value) (mask id));
      };
      port = bit_xor (port_in value) (magic_cookie / 2 ^ 16);
    })

abbrev pub mapped_in : List ℕ → Option Endpoint
mapped_in d = option_and_then (address_read (id_field d)) (value_of d XOR_MAPPED_ADDRESS)

-- ---- Requests (section 7.3)

-- ICE uses FINGERPRINT; a MESSAGE-INTEGRITY-SHA256 isn't cut (RFC 8489, section 14.6)
abbrev pub policy : Policy
policy = record { algorithm = None; min_hmac_length = 32; fingerprint = true }

-- the check that a request is
abbrev pub check_by : (base : ℕ) → (from : Endpoint) → List ℕ → (priority : ℕ) → Role × ℕ → Check
check_by base from d priority role = record {
  base = base;
  from = from;
  id = id_field d;
  role = role.0;
  tiebreaker = role.1;
  nominates = shows USE_CANDIDATE d;
  priority = priority;
}

-- the content, once it is authentic
abbrev pub content : (base : ℕ) → (from : Endpoint) → List ℕ → IntegrityAlgorithm → Judged
content base from d algorithm =
    option_map_or (λ shown. Checks (check_by base from d shown.0 shown.1) algorithm)
    (option_zip (priority_in d) (role_in d))
    -- 8: no PRIORITY, or no role or both, or a value of another length
    (Refused (id_field d) BadRequest (Some algorithm))

-- types that must be understood, and aren't
abbrev pub accepted : (base : ℕ) → (from : Endpoint) → List ℕ → IntegrityAlgorithm → Judged
accepted base from d algorithm =
    if is_understood d then content base from d algorithm
    else Refused (id_field d) UnknownTypes (Some algorithm)

abbrev pub denied : Denial → Refusal
denied DeniedBad = BadRequest
denied DeniedUnknown = Unauthenticated
denied DeniedStale = Unauthenticated

-- not signed, or without USERNAME; or it isn't the USERNAME of a check of the peer, or the HMAC
-- isn't right under this agent's password
abbrev pub decided : (base : ℕ) → (from : Endpoint) → List ℕ → Decision → Judged
decided base from d (accept user key algorithm reply_algorithm) = accepted base from d algorithm
decided base from d (refuse denial) = Refused (id_field d) (denied denial) None
decided base from d discard = Strays (id_field d)
decided base from d not_a_request = Strays (id_field d)

abbrev pub requested : Logins → (base : ℕ) → (from : Endpoint) → List ℕ → Judged
requested logins base from d =
    decided base from d (short_term policy (key_of logins) d)

-- ---- Responses (section 7.2.5)

-- a check that this agent has sent
abbrev pub pending : (id : ℕ) → PendingRequest
pending id = record {
  transport = Udp;
  method = BINDING;
  id = id;
  signed = record { sha1 = true; sha256 = false };
  mechanism = Some ShortTerm;
  usage = record { min_hmac_length = 32; fingerprint = true };
}

abbrev pub success : List ℕ → Judged
success d =
    option_map_or (λ mapped. Responds (id_field d) Accepted (Some mapped)) (mapped_in d)
    (Strays (id_field d))

abbrev pub answered : List ℕ → Outcome → Judged
answered d (Success proof) = success d
answered d (Error code proof) = Responds (id_field d) (RefusedBy code) None
answered d _ = Strays (id_field d)

abbrev pub responded_by : Login → List ℕ → Judged
responded_by peer d = answered d (judged (pending (id_field d)) (Some peer.key) understood d)

-- to a check that a response is waited for
abbrev pub responded : Logins → (is_awaited : ℕ → Bool) → List ℕ → Judged
responded logins is_awaited d =
    if is_awaited (id_field d) then option_map_or (λ peer. responded_by peer d) logins.peer (Strays (id_field d))
    else Strays (id_field d)

-- ---- A datagram

abbrev pub by_class : Logins → (is_awaited : ℕ → Bool) → (base : ℕ) → (from : Endpoint) → MessageClass
    → List ℕ → Judged
by_class logins is_awaited base from Request d = requested logins base from d
by_class logins is_awaited base from Indication d = Strays (id_field d)
by_class logins is_awaited base from SuccessClass d = responded logins is_awaited d
by_class logins is_awaited base from ErrorClass d = responded logins is_awaited d

-- an indication, or another method
abbrev pub message_judged : Logins → (is_awaited : ℕ → Bool) → (base : ℕ) → (from : Endpoint) → List ℕ → Judged
message_judged logins is_awaited base from d =
    if method_of (type_field d) == BINDING
    then by_class logins is_awaited base from (class_of (type_field d)) d else Strays (id_field d)

-- no STUN message, or one without FINGERPRINT
abbrev pub is_message : List ℕ → Bool
is_message d = not (is_some (parse_fault d)) && is_fingerprinted d

abbrev pub judge : Logins → (is_awaited : ℕ → Bool) → (base : ℕ) → (from : Endpoint) → List ℕ → Judged
judge logins is_awaited base from d =
    if is_message d then message_judged logins is_awaited base from d else Arrives

-- ---- The event that it is

abbrev pub event_of : (base : ℕ) → (from : Endpoint) → List ℕ → Judged → Event
event_of base from d Arrives = arrives base from d
event_of base from d (Strays id) = strays base from id (length d) None
event_of base from d (Refused id refusal signed_by) = strays base from id (length d) (Some (code_of refusal))
event_of base from d (Responds id answer mapped) = responds base from id answer
event_of base from d (Checks check algorithm) = checks check
