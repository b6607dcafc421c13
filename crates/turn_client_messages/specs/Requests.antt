-- The requests of the machine as they are written (RFC 8656, sections 7.1, 8.1, 10.1 and 12.1; RFC
-- 8489, section 9.2).
use Rattle.std.specs.Prelude.{ℕ, ◌%◌, ◌^◌, ◌++◌, List, [], ◌∷◌, map, length, Option, None, Some, is_some, if◌then◌else◌}
use Rattle.std.specs.Option.{option_or, option_to_list}
use Rattle.stun_grammar.specs.declared.error.StunWriteError.{StunWriteError}
use Rattle.stun_grammar.specs.declared.error.StunWriteError.TheVariants.{OutOfRange}
use Rattle.stun_grammar.specs.Attributes.{Attribute}
use Rattle.stun_grammar.specs.Writing.{message_encoding}
use Rattle.stun_base.specs.declared.message_class.MessageClass.TheVariants.{Request as RequestClass}
use Rattle.stun_base.specs.MessageTypes.{type_of}
use Rattle.stun_types.specs.Writers.{Writer}
use Rattle.stun_authentication.specs.Writing.{adds, no_room, sizes}
use Rattle.stun_endpoints.specs.declared.endpoints.Endpoint.{Endpoint}
use Rattle.turn_attrs.specs.Channels.{channel_of}
use Rattle.turn_client_machine.specs.declared.requests.Kind.{Kind}
use Rattle.turn_client_machine.specs.declared.requests.Kind.TheVariants.{Allocate, Refresh, Delete, Permit, Bind}
use Rattle.turn_client_machine.specs.declared.requests.Request.{Request}
use Rattle.turn_requests.specs.Requests.{Exceeds, allocate_attributes, channel_attribute, end_refusal, end_steps, ended, lifetime_attribute, named_peer, software_attributes}
use Rattle.turn_client_messages.specs.Views.{Asked, Content}

-- the method of a request and of its response (section 17)
abbrev pub method_for : Kind → ℕ
method_for Allocate = 0x003
method_for Refresh = 0x004
method_for Delete = 0x004
method_for (Permit peer) = 0x008
method_for (Bind number peer) = 0x009

abbrev pub type_for : Kind → ℕ
type_for kind = type_of RequestClass (method_for kind)

-- the transaction ID has 96 bits
abbrev pub id_of : Request → ℕ
id_of request = request.id % 2 ^ 96

-- ---- What it asks for

-- a CreatePermission request names its peer, and the others after it (section 10.1)
abbrev pub asked : Content → (id : ℕ) → (others : List Endpoint) → Kind → List Attribute
asked content id others Allocate =
    allocate_attributes content.lifetime content.family content.port content.dont_fragment
asked content id others Refresh = map lifetime_attribute (option_to_list content.lifetime)
asked content id others Delete = lifetime_attribute 0 ∷ []
asked content id others (Permit peer) = map (named_peer id) (peer ∷ others)
asked content id others (Bind number peer) = channel_attribute number ∷ named_peer id peer ∷ []

-- the attributes before the credentials
abbrev pub attributes_of : Content → (others : List Endpoint) → Request → List Attribute
attributes_of content others request =
    software_attributes content.software ++ asked content (id_of request) others request.kind

-- ---- The message

-- what it asks for, and then what the challenge asks for, if there is a login
abbrev pub text_of : Content → (others : List Endpoint) → Asked → List ℕ
text_of content others r =
    let kind = type_for r.request.kind in
    let id = id_of r.request in
    message_encoding kind id
    (ended r.login content.fingerprint kind id (attributes_of content others r.request))

-- a channel has no such number
abbrev pub number_refusal : Kind → Option StunWriteError
number_refusal (Bind number peer) =
    if is_some (channel_of number) then None else Some (OutOfRange number 0x4000 0x4FFF)
number_refusal _ = None

-- why it isn't written: a channel has no such number; an attribute before the credentials doesn't
-- fit; or why it doesn't end
abbrev pub refusal_of : (greatest : Option ℕ) → Content → (others : List Endpoint) → Asked
    → Option StunWriteError
refusal_of greatest content others r =
    let attributes = attributes_of content others r.request in
    option_or (number_refusal r.request.kind)
    (option_or (no_room greatest 20 (sizes attributes))
    (end_refusal r.login content.fingerprint greatest
    (length (message_encoding (type_for r.request.kind) (id_of r.request) attributes))))

-- it needs more than the ready room
abbrev pub TakesMemory : Writer → Content → (others : List Endpoint) → Asked → Type 0
TakesMemory w content others r =
    Exceeds w (adds (attributes_of content others r.request) ++ end_steps r.login content.fingerprint)
