-- The requests of a TURN client, as they are written (RFC 8656, sections 7.1, 8.1, 10.1 and 12.1): the
-- client's software, what is asked for, and the credentials of a login (RFC 8489, section 9.2.5).
use Rattle.std.specs.Prelude.{◌≡◌, ◌⊎◌, ℕ, ◌+◌, ◌<◌, Bool, if◌then◌else◌, List, [], ◌∷◌, ◌++◌, map, length, Option, None, Some, Result, Err, OnOk}
use Rattle.std.specs.Option.{option_map, option_or, option_to_list}
use Rattle.stun_grammar.specs.declared.error.StunWriteError.{StunWriteError}
use Rattle.stun_grammar.specs.declared.error.StunWriteError.TheVariants.{OutOfMemory}
use Rattle.stun_grammar.specs.Attributes.{Attribute, canonical}
use Rattle.stun_grammar.specs.AttributeTypes.{SOFTWARE}
use Rattle.stun_grammar.specs.Numbers.{be32, be64}
use Rattle.stun_grammar.specs.Steps.{Step}
use Rattle.stun_grammar.specs.Writing.{message_encoding}
use Rattle.stun_base.specs.declared.transport.AddressFamily.{AddressFamily}
use Rattle.stun_base.specs.declared.message_class.MessageClass.TheVariants.{Request}
use Rattle.stun_base.specs.MessageTypes.{type_of}
use Rattle.stun_keys.specs.declared.keys.integrity_key.IntegrityKey.{IntegrityKey}
use Rattle.stun_keys.specs.Keys.{key_algorithm, key_bytes}
use Rattle.stun_types.specs.Writers.{Writer, Spends}
use Rattle.stun_authentication.specs.Challenges.{Retry, retry_of, signing_algorithm}
use Rattle.stun_authentication.specs.Requests.{answering_attributes, login_steps, name_refusal}
use Rattle.stun_authentication.specs.Writing.{FailsFor, IsUnended, adds, finished, no_room, print_steps, signing_refusal, sizes, step_sizes, steps_length}
use Rattle.stun_endpoints.specs.declared.endpoints.Endpoint.{Endpoint}
use Rattle.stun_endpoints.specs.Conversions.{socket_of}
use Rattle.turn_attrs.specs.Channels.{channel_number}
use Rattle.turn_attrs.specs.Heads.{peer_attribute}
use Rattle.turn_attrs.specs.Turn.{CHANNEL_NUMBER, DONT_FRAGMENT, EVEN_PORT, LIFETIME, REQUESTED_ADDRESS_FAMILY, REQUESTED_TRANSPORT, RESERVATION_TOKEN, family_number, protocol_number, reserve_number}
use Rattle.turn_requests.specs.declared.request.Login.{Login}
use Rattle.turn_requests.specs.declared.request.RelayedPort.{RelayedPort}
use Rattle.turn_requests.specs.declared.request.RelayedPort.TheVariants.{Any, Even, Reserved}
use Rattle.turn_requests.specs.declared.request.TurnRequest.{TurnRequest}
use Rattle.turn_requests.specs.declared.request.TurnRequest.TheVariants.{Allocate, Refresh, CreatePermission, ChannelBind}

-- ---- What is asked for

-- the methods of section 17
abbrev pub request_method : TurnRequest → ℕ
request_method (Allocate lifetime family port dont_fragment) = 3
request_method (Refresh lifetime) = 4
request_method (CreatePermission peers) = 8
request_method (ChannelBind channel peer) = 9

abbrev pub request_type : TurnRequest → ℕ
request_type request = type_of Request (request_method request)

-- the seconds for which an allocation is to last (section 18.2)
abbrev pub lifetime_attribute : (seconds : ℕ) → Attribute
lifetime_attribute seconds = canonical LIFETIME (be32 seconds)

-- UDP, by its number (section 18.8)
abbrev pub transport_attribute : Attribute
transport_attribute = canonical REQUESTED_TRANSPORT (be32 (protocol_number 17))

-- the family of the relayed address (section 18.6)
abbrev pub family_attribute : AddressFamily → Attribute
family_attribute family = canonical REQUESTED_ADDRESS_FAMILY (be32 (family_number family))

-- the number of a channel (section 18.1)
abbrev pub channel_attribute : (channel : ℕ) → Attribute
channel_attribute channel = canonical CHANNEL_NUMBER (be32 (channel_number channel))

-- the address of a peer (section 18.3)
abbrev pub named_peer : (id : ℕ) → Endpoint → Attribute
named_peer id peer = peer_attribute id (socket_of peer)

-- a token names a relayed address, and so its family: no family goes with it (section 7.1)
abbrev pub family_beside : RelayedPort → Option AddressFamily → Option AddressFamily
family_beside Any family = family
family_beside (Even reserves) family = family
family_beside (Reserved token) family = None

-- an even port, with the bit R if the next one is to be reserved (section 18.7); or the port of a
-- reservation, by its token (section 18.10)
abbrev pub port_attributes : RelayedPort → List Attribute
port_attributes Any = []
port_attributes (Even reserves) = canonical EVEN_PORT (reserve_number reserves ∷ []) ∷ []
port_attributes (Reserved token) = canonical RESERVATION_TOKEN (be64 token) ∷ []

-- whether the server sets the DF bit if the client asks for it (section 18.9)
abbrev pub whole_attributes : (dont_fragment : Bool) → List Attribute
whole_attributes dont_fragment = if dont_fragment then canonical DONT_FRAGMENT [] ∷ [] else []

abbrev pub relay_attributes : (family : Option AddressFamily) → RelayedPort
    → (dont_fragment : Bool) → List Attribute
relay_attributes family port dont_fragment =
    map family_attribute (option_to_list (family_beside port family))
    ++ (port_attributes port ++ whole_attributes dont_fragment)

abbrev pub allocate_attributes : (lifetime : Option ℕ) → (family : Option AddressFamily)
    → RelayedPort → (dont_fragment : Bool) → List Attribute
allocate_attributes lifetime family port dont_fragment =
    map lifetime_attribute (option_to_list lifetime)
    ++ (transport_attribute ∷ relay_attributes family port dont_fragment)

abbrev pub content : (id : ℕ) → TurnRequest → List Attribute
content id (Allocate lifetime family port dont_fragment) =
    allocate_attributes lifetime family port dont_fragment
content id (Refresh lifetime) = map lifetime_attribute (option_to_list lifetime)
content id (CreatePermission peers) = map (named_peer id) peers.now
content id (ChannelBind channel peer) = channel_attribute channel ∷ named_peer id peer ∷ []

-- the name of the client's software, if it says one (RFC 8489, section 14.14)
abbrev pub software_attributes : (software : Option (List ℕ)) → List Attribute
software_attributes software = map (canonical SOFTWARE) (option_to_list software)

-- the attributes before the credentials
abbrev pub request_attributes : (software : Option (List ℕ)) → (id : ℕ) → TurnRequest
    → List Attribute
request_attributes software id request = software_attributes software ++ content id request

-- ---- The end of a request

-- the credentials of a login: what the server asked for last, and the user's name and key
pub record Credentials : Type 0 where
  pub retry : Retry
  pub name : List ℕ
  pub key : IntegrityKey

abbrev pub credentials_of : Login → Credentials
credentials_of login = record {
  retry = retry_of login.retry.now;
  name = login.name.now;
  key = login.key.now;
}

abbrev pub credentials_in : Option Login → Option Credentials
credentials_in login = option_map credentials_of login

-- these attributes, and after them what the challenge asks for, if there is a login, and a
-- FINGERPRINT, if there is to be one
abbrev pub ended : Option Credentials → (fingerprint : Bool) → ℕ → ℕ → List Attribute → List Attribute
ended None fingerprint kind id before = finished fingerprint kind id before
ended (Some login) fingerprint kind id before =
    answering_attributes fingerprint login.retry login.name (key_bytes login.key)
    kind id before

-- the steps by which they are added
abbrev pub end_steps : Option Credentials → (fingerprint : Bool) → List Step
end_steps None fingerprint = print_steps fingerprint
end_steps (Some login) fingerprint =
    login_steps fingerprint login.retry login.name (key_bytes login.key)

-- why a login can't be answered: its name is too long, or its key was made for the other algorithm
abbrev pub login_refusal : Option Credentials → Option StunWriteError
login_refusal None = None
login_refusal (Some login) =
    option_or (name_refusal login.name)
    (signing_refusal (key_algorithm login.key) (signing_algorithm login.retry))

-- why a request of len bytes doesn't end so: by the login, or an attribute doesn't fit
abbrev pub end_refusal : Option Credentials → (fingerprint : Bool) → (greatest : Option ℕ) → (len : ℕ)
    → Option StunWriteError
end_refusal login fingerprint greatest len =
    option_or (login_refusal login) (no_room greatest len (step_sizes (end_steps login fingerprint)))

-- ---- The requests

-- a request as it is written
abbrev pub request_text : (software : Option (List ℕ)) → Option Credentials → (fingerprint : Bool)
    → (id : ℕ) → TurnRequest → List ℕ
request_text software login fingerprint id request =
    let kind = request_type request in
    message_encoding kind id
    (ended login fingerprint kind id (request_attributes software id request))

-- why it isn't written: an attribute before the end doesn't fit, or why it doesn't end
abbrev pub request_refusal : (greatest : Option ℕ) → (software : Option (List ℕ)) → Option Credentials
    → (fingerprint : Bool) → (id : ℕ) → TurnRequest → Option StunWriteError
request_refusal greatest software login fingerprint id request =
    let attributes = request_attributes software id request in
    option_or (no_room greatest 20 (sizes attributes))
    (end_refusal login fingerprint greatest
    (length (message_encoding (request_type request) id attributes)))

-- a header and these steps need more than the ready room
abbrev pub Exceeds : Writer → List Step → Type 0
Exceeds w steps = (w.ready_bytes < 20 + steps_length steps) ⊎ (w.ready_types < length steps)

-- a request needs more than the ready room
abbrev pub Allocates : Writer → (software : Option (List ℕ)) → Option Credentials → (fingerprint : Bool)
    → (id : ℕ) → TurnRequest → Type 0
Allocates w software login fingerprint id request =
    Exceeds w (adds (request_attributes software id request) ++ end_steps login fingerprint)

-- ---- How it is written

-- a message of these attributes is begun, which isn't signed and has no FINGERPRINT, or an error
-- says which attribute doesn't fit, or that an allocation failed
pub record Begins (result : Result (Unit {0}) StunWriteError) (old new : Writer) (kind id : ℕ)
    (attributes : List Attribute) : Type 0 where
  pub bytes : OnOk result (new.bytes ≡ message_encoding kind id attributes)
  pub unended : OnOk result (IsUnended new)
  pub greatest : OnOk result (new.greatest ≡ old.greatest)
  pub answer : FailsFor (no_room old.greatest 20 (sizes attributes)) result
  pub memory : result ≡ Err OutOfMemory → Exceeds old (adds attributes)
  pub spends : OnOk result
      (Spends old new (20 + steps_length (adds attributes)) (length (adds attributes)))

-- a message that is written gets an end; if it isn't signed and has no FINGERPRINT, an error is the
-- refusal, or says that an allocation failed
pub record Ends (result : Result (Unit {0}) StunWriteError) (old new : Writer)
    (finish : ℕ → ℕ → List Attribute → List Attribute) (steps : List Step)
    (refusal : Option StunWriteError) : Type 0 where
  pub written : (kind id : ℕ) (before : List Attribute)
      → old.bytes ≡ message_encoding kind id before
      → OnOk result (new.bytes ≡ message_encoding kind id (finish kind id before))
  pub answer : IsUnended old → FailsFor refusal result
  pub memory : result ≡ Err OutOfMemory
      → (old.ready_bytes < steps_length steps) ⊎ (old.ready_types < length steps)
