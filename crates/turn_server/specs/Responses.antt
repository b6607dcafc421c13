-- The responses of a server to a client (RFC 8489, sections 6.3 and 9.2.4; RFC 8656, section 5), each
-- written at the start of a slice.
use Rattle.std.specs.Prelude.{◌≡◌, ◌⊎◌, ℕ, Bool, true, false, not, ◌&&◌, ◌==◌, List, length, Option, None, Some, is_some, Result, Err, MatchOption, if◌then◌else◌}
use Rattle.std.specs.Option.{option_map_or}
use Rattle.stun_grammar.specs.declared.error.StunWriteError.{StunWriteError}
use Rattle.stun_grammar.specs.declared.error.StunWriteError.TheVariants.{OutOfMemory}
use Rattle.stun_grammar.specs.declared.integrity_algorithm.IntegrityAlgorithm.{IntegrityAlgorithm}
use Rattle.stun_grammar.specs.Headers.{type_field}
use Rattle.stun_base.specs.MessageTypes.{method_of}
use Rattle.stun_authentication.specs.declared.answer.Refusal.{Refusal}
use Rattle.stun_authentication.specs.Answers.{refusal_code}
use Rattle.stun_authentication.specs.Identities.{value_of}
use Rattle.stun_authentication.specs.Lookups.{UserKey}
use Rattle.stun_authentication.specs.Refusing.{refusal_of, refusal_sizes}
use Rattle.stun_authentication.specs.Writing.{no_room}
use Rattle.stun_server.specs.InSlice.{written_in, slice_after}
use Rattle.stun_server.specs.Reply.{binding_reply, reply_code}
use Rattle.stun_endpoints.specs.declared.endpoints.Endpoint.{Endpoint}
use Rattle.turn_attrs.specs.Turn.{RESERVATION_TOKEN}
use Rattle.turn_machine.specs.Events.{Answer, refused}
use Rattle.turn_server.specs.declared.access.Access.{Access}
use Rattle.turn_server.specs.declared.action.Response.{Response}
use Rattle.turn_server.specs.Access.{asked_by, software_in}
use Rattle.turn_server.specs.Acting.{Used, Act, binds, refuses, refuses_types, responds, none_used}
use Rattle.turn_server.specs.Answers.{answer_text, answer_refusal, redirect_text, redirect_refusal, unknown_text, unknown_refusal}
use Rattle.turn_server.specs.Comprehended.{comprehended}
use Rattle.turn_server.specs.Requests.{ALLOCATE}
use Rattle.stun_endpoints.specs.Conversions.{socket_of}

-- a response: its text, why it isn't written, whether writing it takes memory, and the code of an error
-- response
pub record Owed : Type 0 where
  pub text : List ℕ
  pub fault : Option StunWriteError
  pub takes_memory : Bool
  pub code : Option ℕ

-- ---- Which response. Whether the server sets the DF bit, `sets_df`, decides what it comprehends

-- to a Binding request: a 420 if it shows a type that isn't comprehended, otherwise success. It isn't
-- signed, whatever the request shows of credentials
abbrev pub binding_owed : (sets_df : Bool) → (client : Endpoint) → List ℕ → Owed
binding_owed sets_df client d =
    record {
      text = binding_reply (comprehended sets_df) (socket_of client) d;
      fault = None;
      takes_memory = false;
      code = reply_code (comprehended sets_df) d;
    }

-- a 400, 401 or 438, which isn't signed, and asks for credentials
abbrev pub refusal_owed : Access → (now : ℕ) → (client : Endpoint) → List ℕ → Refusal → Owed
refusal_owed access now client d refusal =
    let asked = Some (asked_by access now (socket_of client)) in record {
      text = refusal_of d refusal asked;
      fault = no_room None 20 (refusal_sizes d refusal asked);
      takes_memory = true;
      code = Some (refusal_code refusal);
    }

-- a 420, signed by the user's key
abbrev pub types_owed : (sets_df : Bool) → List ℕ → UserKey → IntegrityAlgorithm → Owed
types_owed sets_df d key algorithm = record {
  text = unknown_text sets_df d key.bytes algorithm;
  fault = unknown_refusal None sets_df d key.made_for algorithm;
  takes_memory = true;
  code = Some 420;
}

abbrev pub answer_code : Answer → Option ℕ
answer_code (refused code) = Some code
answer_code _ = None

-- what the server itself answers, with a token or without
abbrev pub own_owed : Access → (client : Endpoint) → List ℕ → Answer → (token : Option ℕ) → UserKey
    → IntegrityAlgorithm → Owed
own_owed access client d answer token key algorithm = record {
  text = answer_text (software_in access) client d answer token key.bytes algorithm;
  fault = answer_refusal None (software_in access) client d answer token key.made_for algorithm;
  takes_memory = true;
  code = answer_code answer;
}

-- a 300 that sends the client to another server
abbrev pub redirect_owed : Access → (server : Endpoint) → List ℕ → UserKey → IntegrityAlgorithm → Owed
redirect_owed access server d key algorithm = record {
  text = redirect_text (software_in access) server d key.bytes algorithm;
  fault = redirect_refusal None (software_in access) server d key.made_for algorithm;
  takes_memory = true;
  code = Some 300;
}

-- an Allocate request that names no reserved port, which no other server has
abbrev pub is_for_any_server : List ℕ → Bool
is_for_any_server d = (method_of (type_field d) == ALLOCATE) && not (is_some (value_of d RESERVATION_TOKEN))

-- a server with an address of the client's family (RFC 8489, section 10)
abbrev pub within_reach : (client server : Endpoint) → Option Endpoint
within_reach client server = if server.ip.family == client.ip.family then Some server else None

-- the server that a client is sent to instead of being refused for lack of capacity (RFC 8656, section 7.2,
-- check 11)
abbrev pub alternate_for : Access → (client : Endpoint) → List ℕ → Answer → Option Endpoint
alternate_for access client d (refused code) =
    if (code == 508) && is_for_any_server d then option_map_or (within_reach client) access.alternate None else None
alternate_for access client d _ = None

-- the answer to a user's request, signed by the user's key
abbrev pub answer_owed : Access → (client : Endpoint) → List ℕ → Answer → (token : Option ℕ) → UserKey
    → IntegrityAlgorithm → Owed
answer_owed access client d answer token key algorithm =
    option_map_or (λ server. redirect_owed access server d key algorithm)
    (alternate_for access client d answer) (own_owed access client d answer token key algorithm)

-- the response to d, if what a server does is to respond
abbrev pub owed : (sets_df : Bool) → Access → (now : ℕ) → (client : Endpoint) → List ℕ → Act → Option Owed
owed sets_df access now client d binds = Some (binding_owed sets_df client d)
owed sets_df access now client d (refuses refusal) = Some (refusal_owed access now client d refusal)
owed sets_df access now client d (refuses_types key algorithm) = Some (types_owed sets_df d key algorithm)
owed sets_df access now client d (responds answer token by_it key algorithm) =
    Some (answer_owed access client d answer token key algorithm)
owed sets_df access now client d _ = None

-- the sockets that are used from now on
abbrev pub used : Act → Used
used (responds answer token by_it key algorithm) = by_it
used _ = none_used

-- ---- How it is written

-- a text is written at the start of a slice that has room for it. If not, if it can't be written, or
-- if an allocation fails, where it takes memory, the slice stays
abbrev pub IsWritten : (takes_memory : Bool) → (fault : Option StunWriteError)
    → (text before after : List ℕ) → Result ℕ StunWriteError → Type 0
IsWritten takes_memory fault text before after written =
    MatchOption fault
    ((written ≡ written_in text (length before)) × (after ≡ slice_after (Some text) before))
    (λ e. (written ≡ Err e) × (after ≡ before))
    ⊎ ((takes_memory ≡ true) × ((written ≡ Err OutOfMemory) × (after ≡ before)))

-- what a program gets of a response
pub record IsResponse (owed : Owed) (use_of : Used) (before after : List ℕ) (response : Response) : Type 0 where
  pub written_is : IsWritten owed.takes_memory owed.fault owed.text before after response.written
  pub code_is : response.code ≡ owed.code
  pub opened_is : response.opened ≡ use_of.opened
  pub reserved_is : response.reserved ≡ use_of.reserved
  pub claimed_is : response.claimed ≡ use_of.claimed
