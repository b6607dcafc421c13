-- Connectivity checks and their responses, as they are written (RFC 8445, sections 7.1, 7.2 and 7.3; RFC
-- 8489, sections 9.1.2 and 9.1.3).
use Rattle.std.specs.Prelude.{◌≡◌, ◌⊎◌, ℕ, ◌+◌, ◌<◌, ◌%◌, ◌^◌, Bool, true, false, List, [], ◌∷◌, ◌++◌, map, length, drop, Option, None, Some, Result, Err, OnOk}
use Rattle.std.specs.Option.{option_or, option_to_list}
use Rattle.stun_grammar.specs.declared.error.StunWriteError.{StunWriteError}
use Rattle.stun_grammar.specs.declared.error.StunWriteError.TheVariants.{OutOfMemory}
use Rattle.stun_grammar.specs.declared.integrity_algorithm.IntegrityAlgorithm.TheVariants.{Sha1}
use Rattle.stun_grammar.specs.Attributes.{Attribute, canonical}
use Rattle.stun_grammar.specs.AttributeTypes.{SOFTWARE, USERNAME, UNKNOWN_ATTRIBUTES, XOR_MAPPED_ADDRESS}
use Rattle.stun_grammar.specs.Names.{BINDING}
use Rattle.stun_grammar.specs.Numbers.{be32, be64}
use Rattle.stun_grammar.specs.Steps.{Step, sign}
use Rattle.stun_grammar.specs.Writing.{message_encoding}
use Rattle.stun_base.specs.declared.message_class.MessageClass.{MessageClass}
use Rattle.stun_base.specs.declared.message_class.MessageClass.TheVariants.{Request as RequestClass, Success as SuccessClass, Error as ErrorClass}
use Rattle.stun_base.specs.MessageTypes.{type_of}
use Rattle.stun_keys.specs.Keys.{key_algorithm, key_bytes}
use Rattle.stun_values.specs.Addresses.{xored_value}
use Rattle.stun_values.specs.TypeLists.{types_encoding}
use Rattle.stun_attributes.specs.DefaultReasons.{default_reason}
use Rattle.stun_types.specs.Replies.{error_attribute}
use Rattle.stun_types.specs.Writers.{Writer, Spends}
use Rattle.stun_authentication.specs.declared.answer.Refusal.TheVariants.{BadRequest as BadRequestOf, Unauthenticated as UnauthenticatedOf}
use Rattle.stun_authentication.specs.Answers.{refusal_code, refusal_reason}
use Rattle.stun_authentication.specs.Writing.{FailsFor, IsUnended, adds, finished, no_room, print_steps, signed, signing_refusal, sizes, step_sizes, steps_length}
use Rattle.stun_endpoints.specs.Conversions.{socket_of}
use Rattle.ice_attrs.specs.Ice.{PRIORITY, USE_CANDIDATE, ICE_CONTROLLED, ICE_CONTROLLING}
use Rattle.ice_machine.specs.declared.messages.Request.{Request}
use Rattle.ice_machine.specs.declared.roles.Role.{Role}
use Rattle.ice_machine.specs.declared.roles.Role.TheVariants.{Controlling, Controlled}
use Rattle.ice_checks.specs.Sessions.{username_of}
use Rattle.ice_checks.specs.Views.{Login, Response, Signing, success, bad_request, unauthenticated, unknown, role_conflict}

-- ---- A check

-- the name of the agent's software, if it says one (RFC 8489, section 14.14)
abbrev pub software_attributes : (software : Option (List ℕ)) → List Attribute
software_attributes software = map (canonical SOFTWARE) (option_to_list software)

-- USE-CANDIDATE has no value (section 16.1)
abbrev pub nomination_attributes : (nominates : Bool) → List Attribute
nomination_attributes true = canonical USE_CANDIDATE [] ∷ []
nomination_attributes false = []

-- the role of the agent, with its tiebreaker (section 7.1.3)
abbrev pub role_attribute : Role → (tiebreaker : ℕ) → Attribute
role_attribute Controlling tiebreaker = canonical ICE_CONTROLLING (be64 tiebreaker)
role_attribute Controlled tiebreaker = canonical ICE_CONTROLLED (be64 tiebreaker)

abbrev pub check_type : ℕ
check_type = type_of RequestClass BINDING

-- the transaction ID of a request
abbrev pub id_of : Request → ℕ
id_of request = request.id % 2 ^ 96

-- the attributes of a check, before it is signed
abbrev pub check_attributes : (software : Option (List ℕ)) → (username : List ℕ) → Request
    → List Attribute
check_attributes software username request =
    software_attributes software
    ++ (canonical USERNAME username ∷ canonical PRIORITY (be32 request.priority)
    ∷ (nomination_attributes request.nominates
    ++ role_attribute request.role request.tiebreaker ∷ []))

-- ---- A response (section 7.3; RFC 8489, section 6.3.1)

abbrev pub response_class : Response → MessageClass
response_class (success source) = SuccessClass
response_class _ = ErrorClass

abbrev pub response_type : Response → ℕ
response_type response = type_of (response_class response) BINDING

-- the address that the check came from, or the error with its reason phrase; of a 420, the types that
-- weren't understood
abbrev pub response_attributes : (id : ℕ) → Response → List Attribute
response_attributes id (success source) = canonical XOR_MAPPED_ADDRESS (xored_value id (socket_of source)) ∷ []
response_attributes id bad_request =
    error_attribute (refusal_code BadRequestOf) (refusal_reason BadRequestOf) ∷ []
response_attributes id unauthenticated =
    error_attribute (refusal_code UnauthenticatedOf) (refusal_reason UnauthenticatedOf) ∷ []
response_attributes id (unknown types) =
    error_attribute 420 (default_reason 420)
    ∷ canonical UNKNOWN_ATTRIBUTES (types_encoding types) ∷ []
response_attributes id role_conflict = error_attribute 487 (default_reason 487) ∷ []

-- ---- The end of a check or a response

-- these attributes, and after them the integrity attribute, if there is a signature, and FINGERPRINT
abbrev pub ended : Option Signing → ℕ → ℕ → List Attribute → List Attribute
ended None kind id before = finished true kind id before
ended (Some signature) kind id before =
    finished true kind id (signed kind id before signature.algorithm (key_bytes signature.key))

-- the steps by which they are added
abbrev pub end_steps : Option Signing → List Step
end_steps None = print_steps true
end_steps (Some signature) =
    sign signature.algorithm (key_bytes signature.key) ∷ print_steps true

-- why nothing is signed: the key was made for the other algorithm
abbrev pub signature_refusal : Option Signing → Option StunWriteError
signature_refusal None = None
signature_refusal (Some signature) = signing_refusal (key_algorithm signature.key) signature.algorithm

-- why a message of len bytes doesn't end so: by the key, or an attribute doesn't fit
abbrev pub end_refusal : Option Signing → (greatest : Option ℕ) → (len : ℕ) → Option StunWriteError
end_refusal signature greatest len =
    option_or (signature_refusal signature) (no_room greatest len (step_sizes (end_steps signature)))

-- how many bytes a message of these attributes has, with such an end
abbrev pub ended_length : List Attribute → Option Signing → ℕ
ended_length attributes signature = 20 + steps_length (adds attributes ++ end_steps signature)

-- ---- The messages

-- a message of a type with these attributes and an end
abbrev pub ended_text : (kind id : ℕ) → List Attribute → Option Signing → List ℕ
ended_text kind id attributes signature = message_encoding kind id (ended signature kind id attributes)

-- why it isn't written: an attribute before the end doesn't fit, or why it doesn't end
abbrev pub ended_refusal : (greatest : Option ℕ) → List Attribute → Option Signing → Option StunWriteError
ended_refusal greatest attributes signature =
    option_or (no_room greatest 20 (sizes attributes))
    (end_refusal signature greatest (20 + steps_length (adds attributes)))

-- a header and these steps need more than the ready room
abbrev pub Exceeds : Writer → List Step → Type 0
Exceeds w steps = (w.ready_bytes < 20 + steps_length steps) ⊎ (w.ready_types < length steps)

-- such a message needs more than the ready room
abbrev pub EndedAllocates : Writer → List Attribute → Option Signing → Type 0
EndedAllocates w attributes signature = Exceeds w (adds attributes ++ end_steps signature)

-- a check of the agent with this fragment, to the peer: its USERNAME has both fragments, and it is signed by
-- the peer's password, with MESSAGE-INTEGRITY (section 7.2.2)
abbrev pub attributes_to : Login → (own : List ℕ) → (software : Option (List ℕ)) → Request
    → List Attribute
attributes_to peer own software request =
    check_attributes software (username_of peer.fragment own) request

abbrev pub signature_to : Login → Option Signing
signature_to peer = Some (record { key = peer.key; algorithm = Sha1 })

abbrev pub check_text : Login → (own : List ℕ) → (software : Option (List ℕ)) → Request → List ℕ
check_text peer own software request =
    ended_text check_type (id_of request) (attributes_to peer own software request) (signature_to peer)

abbrev pub check_length : Login → (own : List ℕ) → (software : Option (List ℕ)) → Request → ℕ
check_length peer own software request =
    ended_length (attributes_to peer own software request) (signature_to peer)

abbrev pub check_refusal : (greatest : Option ℕ) → Login → (own : List ℕ)
    → (software : Option (List ℕ)) → Request → Option StunWriteError
check_refusal greatest peer own software request =
    ended_refusal greatest (attributes_to peer own software request) (signature_to peer)

abbrev pub CheckAllocates : Writer → Login → (own : List ℕ) → (software : Option (List ℕ)) → Request
    → Type 0
CheckAllocates w peer own software request =
    EndedAllocates w (attributes_to peer own software request) (signature_to peer)

-- a response to a check with this transaction ID, signed or not
abbrev pub response_text : (id : ℕ) → Response → Option Signing → List ℕ
response_text id response signature =
    ended_text (response_type response) id (response_attributes id response) signature

abbrev pub response_length : (id : ℕ) → Response → Option Signing → ℕ
response_length id response signature = ended_length (response_attributes id response) signature

abbrev pub response_refusal : (greatest : Option ℕ) → (id : ℕ) → Response → Option Signing
    → Option StunWriteError
response_refusal greatest id response signature =
    ended_refusal greatest (response_attributes id response) signature

abbrev pub ResponseAllocates : Writer → (id : ℕ) → Response → Option Signing → Type 0
ResponseAllocates w id response signature = EndedAllocates w (response_attributes id response) signature

-- ---- How they are written

-- n bytes are written then, the last k of them at the start of the rest of the slice that the writer borrows
pub record Places (old new : Writer) (n k : ℕ) : Type 0 where
  pub size : length new.bytes ≡ n
  pub rest : new.rest ≡ drop k old.rest
  pub slice_name : new.slice_name ≡ old.slice_name

-- a message of these attributes is begun, which isn't signed and has no FINGERPRINT, or an error
-- says which attribute doesn't fit, or that an allocation failed
pub record Begins (result : Result (Unit {0}) StunWriteError) (old new : Writer) (kind id : ℕ)
    (attributes : List Attribute) : Type 0 where
  pub bytes : OnOk result (new.bytes ≡ message_encoding kind id attributes)
  pub unended : OnOk result (IsUnended new)
  pub greatest : OnOk result (new.greatest ≡ old.greatest)
  pub answer : FailsFor (no_room old.greatest 20 (sizes attributes)) result
  pub memory : result ≡ Err OutOfMemory → Exceeds old (adds attributes)
  pub spends : OnOk result
      (Spends old new (20 + steps_length (adds attributes)) (length (adds attributes)))
  pub place : OnOk result
      (Places old new (20 + steps_length (adds attributes)) (20 + steps_length (adds attributes)))

-- a message that is written gets an end; if it isn't signed and has no FINGERPRINT, an error is the
-- refusal, or says that an allocation failed
pub record Ends (result : Result (Unit {0}) StunWriteError) (old new : Writer)
    (finish : ℕ → ℕ → List Attribute → List Attribute) (steps : List Step)
    (refusal : Option StunWriteError) : Type 0 where
  pub written : (kind id : ℕ) (before : List Attribute)
      → old.bytes ≡ message_encoding kind id before
      → OnOk result (new.bytes ≡ message_encoding kind id (finish kind id before))
  pub answer : IsUnended old → FailsFor refusal result
  pub memory : result ≡ Err OutOfMemory
      → (old.ready_bytes < steps_length steps) ⊎ (old.ready_types < length steps)
  pub place : OnOk result (Places old new (length old.bytes + steps_length steps) (steps_length steps))
