-- The responses to the requests of users for allocations (RFC 8656, sections 7.2, 8.2, 10.2 and
-- 12.2), and the one to a request that isn't comprehended. They are signed by the user's key (RFC
-- 8489, section 9.2.4).
use Rattle.std.specs.Prelude.{ℕ, Bool, List, [], ◌∷◌, ◌++◌, map, filter, length, drop, Option, None, Some, nat_lt, ◌==◌, if◌then◌else◌}
use Rattle.std.specs.Option.{option_or}
use Rattle.stun_grammar.specs.declared.attribute_type.AttributeType.{AttributeType}
use Rattle.stun_grammar.specs.declared.error.StunWriteError.{StunWriteError}
use Rattle.stun_grammar.specs.declared.error.StunWriteError.TheVariants.{TooLarge}
use Rattle.stun_grammar.specs.declared.integrity_algorithm.IntegrityAlgorithm.{IntegrityAlgorithm}
use Rattle.stun_grammar.specs.Attributes.{Attribute, canonical}
use Rattle.stun_grammar.specs.AttributeTypes.{ALTERNATE_SERVER, SOFTWARE, UNKNOWN_ATTRIBUTES, XOR_MAPPED_ADDRESS}
use Rattle.stun_grammar.specs.Headers.{id_field}
use Rattle.stun_grammar.specs.Numbers.{be32, be64}
use Rattle.stun_grammar.specs.Steps.{sign}
use Rattle.stun_grammar.specs.Writing.{message_encoding}
use Rattle.stun_base.specs.declared.message_class.MessageClass.{MessageClass}
use Rattle.stun_base.specs.declared.message_class.MessageClass.TheVariants.{Success, Error as ErrorClass}
use Rattle.stun_values.specs.Addresses.{address_value, xored_value}
use Rattle.stun_values.specs.ErrorValues.{error_value, making_fault}
use Rattle.stun_values.specs.TypeLists.{types_encoding}
use Rattle.stun_attributes.specs.DefaultReasons.{default_reason}
use Rattle.stun_types.specs.Replies.{error_attribute, response_type, unknown_types}
use Rattle.stun_authentication.specs.Policies.{is_fingerprinted}
use Rattle.stun_authentication.specs.Writing.{no_room, sizes, print_steps, signed_reply, signing_refusal, step_sizes}
use Rattle.turn_attrs.specs.Turn.{ADDRESS_ERROR_CODE, LIFETIME, RESERVATION_TOKEN, XOR_RELAYED_ADDRESS}
use Rattle.stun_endpoints.specs.declared.endpoints.Endpoint.{Endpoint}
use Rattle.turn_machine.specs.Events.{Given, Missing, Answer, allocated, refreshed, done, refused}
use Rattle.turn_allocations.specs.declared.answer.Given.{Given as Shown}
use Rattle.turn_server.specs.Comprehended.{comprehended}
use Rattle.stun_endpoints.specs.Conversions.{socket_of}

-- ---- The attributes

abbrev pub answer_class : Answer → MessageClass
answer_class (refused code) = ErrorClass
answer_class _ = Success

-- an attribute with an address, which is XORed
abbrev pub address_attribute : (type id : ℕ) → Endpoint → Attribute
address_attribute type id e = canonical type (xored_value id (socket_of e))

abbrev pub lifetime_attribute : (lifetime : ℕ) → Attribute
lifetime_attribute lifetime = canonical LIFETIME (be32 lifetime)

-- a RESERVATION-TOKEN (section 18.10)
abbrev pub token_attribute : (token : ℕ) → Attribute
token_attribute token = canonical RESERVATION_TOKEN (be64 token)

-- one, or none
abbrev pub listed_one : {X : Type 0} → Option X → List X
listed_one None = []
listed_one (Some x) = x ∷ []

-- a relayed address that is in an answer, if there is one
abbrev pub given_attributes : (id : ℕ) → Option Shown → List Attribute
given_attributes id given = map (λ g. address_attribute XOR_RELAYED_ADDRESS id g.address) (listed_one given)

-- the relayed address of a family
abbrev pub relayed_of : (id family : ℕ) → List Given → List Attribute
relayed_of id family given =
    map (λ g. address_attribute XOR_RELAYED_ADDRESS id g.address) (filter (λ g. g.family == family) given)

-- IPv4 first
abbrev pub relayed_attributes : (id : ℕ) → List Given → List Attribute
relayed_attributes id given = relayed_of id 1 given ++ relayed_of id 2 given

-- an ADDRESS-ERROR-CODE: the family, and otherwise as an ERROR-CODE (section 18.12)
abbrev pub missing_attribute : Missing → Attribute
missing_attribute m =
    canonical ADDRESS_ERROR_CODE (m.family ∷ drop 1 (error_value m.code (default_reason m.code)))

-- an allocation: its relayed addresses, the lifetime, the token of the port that the request reserved, and the
-- address of the client (section 7.2); then each family that is asked for and that it has no address of (the end
-- of check 9)
abbrev pub allocation_attributes : (id : ℕ) → (client : Endpoint) → List Given → (lifetime : ℕ)
    → (token : Option ℕ) → List Missing → List Attribute
allocation_attributes id client given lifetime token missing =
    relayed_attributes id given
    ++ (lifetime_attribute lifetime ∷ map token_attribute (listed_one token)
    ++ (address_attribute XOR_MAPPED_ADDRESS id client ∷ map missing_attribute missing))

-- what the response to r says: to Allocate the allocation; to Refresh the lifetime (section 8.2); to another
-- request nothing; or the error, with the reason phrase of its code
abbrev pub answer_content : (r : List ℕ) → (client : Endpoint) → Answer → (token : Option ℕ) → List Attribute
answer_content r client (allocated given lifetime missing) token =
    allocation_attributes (id_field r) client given lifetime token missing
answer_content r client (refreshed lifetime) token = lifetime_attribute lifetime ∷ []
answer_content r client done token = []
answer_content r client (refused code) token = error_attribute code (default_reason code) ∷ []

-- the name of the server's software, if it has one (RFC 8489, section 14.14)
abbrev pub software_attributes : (software : Option (List ℕ)) → List Attribute
software_attributes None = []
software_attributes (Some name) = canonical SOFTWARE name ∷ []

-- the attributes of the response to r, before it is signed
abbrev pub answer_attributes : (software : Option (List ℕ)) → (client : Endpoint) → (r : List ℕ)
    → Answer → (token : Option ℕ) → List Attribute
answer_attributes software client r answer token =
    answer_content r client answer token ++ software_attributes software

-- ---- The responses

-- a response to r, signed, and with a FINGERPRINT if r has one
abbrev pub signed_response : MessageClass → (r : List ℕ) → List Attribute → IntegrityAlgorithm
    → (key : List ℕ) → List ℕ
signed_response class r attributes algorithm key =
    signed_reply (is_fingerprinted r) (response_type class r) (id_field r) attributes algorithm key

abbrev pub answer_text : (software : Option (List ℕ)) → (client : Endpoint) → (r : List ℕ)
    → Answer → (token : Option ℕ) → (key : List ℕ) → IntegrityAlgorithm → List ℕ
answer_text software client r answer token key algorithm =
    signed_response (answer_class answer) r (answer_attributes software client r answer token) algorithm key

-- a list of types (RFC 8489, section 14.13)
abbrev pub list_attribute : List AttributeType → Attribute
list_attribute types = canonical UNKNOWN_ATTRIBUTES (types_encoding types)

-- the attributes of the 420 that lists the types that r shows and that aren't comprehended, by a server that
-- sets the DF bit or doesn't
abbrev pub unknown_attributes : (sets_df : Bool) → (r : List ℕ) → List Attribute
unknown_attributes sets_df r =
    error_attribute 420 (default_reason 420) ∷ list_attribute (unknown_types (comprehended sets_df) r) ∷ []

abbrev pub unknown_text : (sets_df : Bool) → (r : List ℕ) → (key : List ℕ) → IntegrityAlgorithm → List ℕ
unknown_text sets_df r key algorithm =
    signed_response ErrorClass r (unknown_attributes sets_df r) algorithm key

-- another server's address, which isn't XORed (RFC 8489, section 14.15)
abbrev pub alternate_attribute : (server : Endpoint) → Attribute
alternate_attribute server = canonical ALTERNATE_SERVER (address_value (socket_of server))

-- the attributes of the 300 that sends a client to another server (RFC 8489, section 10)
abbrev pub redirect_attributes : (software : Option (List ℕ)) → (server : Endpoint) → List Attribute
redirect_attributes software server =
    error_attribute 300 (default_reason 300) ∷ alternate_attribute server ∷ software_attributes software

abbrev pub redirect_text : (software : Option (List ℕ)) → (server : Endpoint) → (r : List ℕ)
    → (key : List ℕ) → IntegrityAlgorithm → List ℕ
redirect_text software server r key algorithm =
    signed_response ErrorClass r (redirect_attributes software server) algorithm key

-- ---- Why they aren't written

-- a response to r with these attributes isn't finished: the key was made for the other algorithm, or
-- the integrity attribute or the FINGERPRINT doesn't fit
abbrev pub finish_refusal : (greatest : Option ℕ) → MessageClass → (r : List ℕ) → List Attribute
    → (made_for : Option IntegrityAlgorithm) → IntegrityAlgorithm → Option StunWriteError
finish_refusal greatest class r attributes made_for algorithm =
    option_or (signing_refusal made_for algorithm)
    (no_room greatest (length (message_encoding (response_type class r) (id_field r) attributes))
    (step_sizes (sign algorithm [] ∷ print_steps (is_fingerprinted r))))

-- the code of an error is none of an ERROR-CODE
abbrev pub code_fault : Answer → Option StunWriteError
code_fault (refused code) = making_fault code (default_reason code)
code_fault _ = None

-- the code, or the first attribute that doesn't fit
abbrev pub unfinished_refusal : (greatest : Option ℕ) → Answer → List Attribute
    → Option StunWriteError
unfinished_refusal greatest answer attributes =
    option_or (code_fault answer) (no_room greatest 20 (sizes attributes))

abbrev pub answer_refusal : (greatest : Option ℕ) → (software : Option (List ℕ)) → (client : Endpoint)
    → (r : List ℕ) → Answer → (token : Option ℕ) → (made_for : Option IntegrityAlgorithm) → IntegrityAlgorithm
    → Option StunWriteError
answer_refusal greatest software client r answer token made_for algorithm =
    let attributes = answer_attributes software client r answer token in
    option_or (unfinished_refusal greatest answer attributes)
    (finish_refusal greatest (answer_class answer) r attributes made_for algorithm)

-- an attribute can't list so many types
abbrev pub list_fault : (sets_df : Bool) → (r : List ℕ) → Option StunWriteError
list_fault sets_df r =
    let count = length (unknown_types (comprehended sets_df) r) in
    if nat_lt 32767 count then Some (TooLarge 32767 count) else None

-- the list, or the first attribute that doesn't fit
abbrev pub listing_refusal : (greatest : Option ℕ) → (sets_df : Bool) → (r : List ℕ) → Option StunWriteError
listing_refusal greatest sets_df r =
    option_or (list_fault sets_df r) (no_room greatest 20 (sizes (unknown_attributes sets_df r)))

abbrev pub unknown_refusal : (greatest : Option ℕ) → (sets_df : Bool) → (r : List ℕ)
    → (made_for : Option IntegrityAlgorithm) → IntegrityAlgorithm → Option StunWriteError
unknown_refusal greatest sets_df r made_for algorithm =
    option_or (listing_refusal greatest sets_df r)
    (finish_refusal greatest ErrorClass r (unknown_attributes sets_df r) made_for algorithm)

abbrev pub redirect_refusal : (greatest : Option ℕ) → (software : Option (List ℕ)) → (server : Endpoint)
    → (r : List ℕ) → (made_for : Option IntegrityAlgorithm) → IntegrityAlgorithm → Option StunWriteError
redirect_refusal greatest software server r made_for algorithm =
    let attributes = redirect_attributes software server in
    option_or (no_room greatest 20 (sizes attributes))
    (finish_refusal greatest ErrorClass r attributes made_for algorithm)

-- the codes of the answers to requests
abbrev pub ANSWER_CODES : List ℕ
ANSWER_CODES = 400 ∷ 403 ∷ 437 ∷ 440 ∷ 441 ∷ 442 ∷ 443 ∷ 486 ∷ 508 ∷ []
