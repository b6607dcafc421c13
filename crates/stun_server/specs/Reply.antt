-- What a server replies to a binding request, and a server without credentials to a datagram (RFC 8489,
-- sections 6.3, 6.3.1, 7 and 12).
use Rattle.std.specs.Prelude.{ℕ, List, [], ◌∷◌, length, is_some, ◌==◌, if◌then◌else◌, Option, None, Some}
use Rattle.std.specs.Option.{option_map, option_map_or}
use Rattle.std.specs.declared.net.socket_addr.SocketAddr.{SocketAddr}
use Rattle.stun_grammar.specs.declared.attribute_type.AttributeType.{AttributeType}
use Rattle.stun_grammar.specs.Headers.{type_field, id_field}
use Rattle.stun_grammar.specs.Names.{BINDING}
use Rattle.stun_grammar.specs.AttributeTypes.{XOR_MAPPED_ADDRESS, FINGERPRINT}
use Rattle.stun_grammar.specs.Attributes.{Attribute, canonical}
use Rattle.stun_grammar.specs.Fingerprints.{fingerprint_value}
use Rattle.stun_grammar.specs.Parsing.{parse_fault}
use Rattle.stun_grammar.specs.Writing.{message_encoding}
use Rattle.stun_grammar.specs.Adding.{appended}
use Rattle.stun_base.specs.declared.message_class.MessageClass.{MessageClass}
use Rattle.stun_base.specs.declared.message_class.MessageClass.TheVariants.{Request, Success, Error as ErrorClass}
use Rattle.stun_base.specs.MessageTypes.{class_of, method_of}
use Rattle.stun_types.specs.LookingUp.{nth}
use Rattle.stun_values.specs.Addresses.{xored_value}
use Rattle.stun_types.specs.Replies.{response_type, own_software, check_reply}

-- ---- The attributes of the replies

-- the types that a server without credentials comprehends in a request, of those that require it: none.
-- It departs from section 6.3 in that it doesn't ignore those that a STUN agent knows and a binding
-- request isn't expected to have
abbrev pub comprehended : List AttributeType
comprehended = []

-- the attributes of the success response: the address that the request came from, and SOFTWARE
abbrev pub success_reply : SocketAddr → List ℕ → List Attribute
success_reply source r =
    canonical XOR_MAPPED_ADDRESS (xored_value (id_field r) source) ∷ own_software ∷ []

-- ---- The replies

-- a response to the request r with these attributes
abbrev pub response : MessageClass → List ℕ → List Attribute → List ℕ
response class r attributes = message_encoding (response_type class r) (id_field r) attributes

-- the response, with a FINGERPRINT at its end if r shows one
abbrev pub finished : List ℕ → List ℕ → List ℕ
finished r text =
    if is_some (nth r FINGERPRINT 0)
    then appended text FINGERPRINT (fingerprint_value text (length text)) else text

-- the reply to a binding request r of a server that supports these types, but for its FINGERPRINT: 420 if
-- r shows others that require comprehension, otherwise the address that it came from (section 6.3.1).
-- What it shows of the types that the server supports is ignored (section 6.3)
abbrev pub unfinished_reply : (supported : List AttributeType) → SocketAddr → List ℕ → List ℕ
unfinished_reply supported source r =
    option_map_or (response ErrorClass r) (check_reply supported [] r)
    (response Success r (success_reply source r))

-- the code of an error response
abbrev pub reply_code : (supported : List AttributeType) → List ℕ → Option ℕ
reply_code supported r = option_map (λ _. 420) (check_reply supported [] r)

-- the same, finished
abbrev pub binding_reply : (supported : List AttributeType) → SocketAddr → List ℕ → List ℕ
binding_reply supported source r = finished r (unfinished_reply supported source r)

-- the reply of a server without credentials to a message, by its class and its method: only a binding
-- request gets one. A request of another method, which the server doesn't support, is silently discarded
-- (section 6.3)
abbrev pub reply_by_type : MessageClass → ℕ → SocketAddr → List ℕ → Option (List ℕ)
reply_by_type Request method source r =
    if method == BINDING then Some (binding_reply comprehended source r) else None
reply_by_type _ method source r = None

-- the reply to a datagram that came from an address: none if it doesn't parse, or is no binding
-- request
unfoldable pub reply : SocketAddr → List ℕ → Option (List ℕ)
reply source r =
    if is_some (parse_fault r) then None
    else reply_by_type (class_of (type_field r)) (method_of (type_field r)) source r
