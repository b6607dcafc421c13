-- The replies to a request (RFC 8489, sections 6.3.1, 14.8 and 14.13).
use Rattle.std.specs.Prelude.{◌≡◌, ◌≢◌, ℕ, ◌+◌, ◌/◌, ◌^◌, ◌<◌, Bool, true, not, ◌&&◌, ◌⊎◌, List, [], ◌∷◌, ◌++◌, length, drop, map, codes, Option, Some, None, is_some, MatchOption, Result, Err, IsOk, IfErr, OnOk, nat_lt, ◌==◌, if◌then◌else◌}
use Rattle.std.specs.Borrow.{Bor}
use Rattle.std.specs.List.{filter, flat_map, list_any}
use Rattle.std.specs.Option.{option_or}
use Rattle.stun_grammar.specs.declared.attribute_type.AttributeType.{AttributeType}
use Rattle.stun_grammar.specs.declared.error.StunWriteError.{StunWriteError}
use Rattle.stun_grammar.specs.declared.error.StunWriteError.TheVariants.{TooLarge, OutOfMemory}
use Rattle.stun_grammar.specs.AttributeTypes.{ERROR_CODE, UNKNOWN_ATTRIBUTES, SOFTWARE}
use Rattle.stun_grammar.specs.Attributes.{Attribute, canonical, encodings, types}
use Rattle.stun_grammar.specs.Headers.{is_header, type_field, id_field}
use Rattle.stun_grammar.specs.Chains.{placed}
use Rattle.stun_grammar.specs.ScannedOrder.{has}
use Rattle.stun_grammar.specs.Parsing.{parse_fault}
use Rattle.stun_grammar.specs.Showing.{shown}
use Rattle.stun_grammar.specs.Writing.{message_encoding, IsWritable}
use Rattle.stun_grammar.specs.Steps.{add}
use Rattle.stun_grammar.specs.Adding.{numbers, add_refusal}
use Rattle.stun_types.specs.LookingUp.{nth}
use Rattle.stun_base.specs.declared.message_class.MessageClass.{MessageClass}
use Rattle.stun_base.specs.declared.message_class.MessageClass.TheVariants.{Error as ErrorClass}
use Rattle.stun_base.specs.MessageTypes.{type_of, class_of, method_of, is_response}
use Rattle.stun_values.specs.ErrorValues.{error_value, making_fault}
use Rattle.stun_values.specs.TypeLists.{types_encoding}
use Rattle.stun_types.specs.declared.message.reply.parts.ReplyPart.{ReplyPart}
use Rattle.stun_types.specs.declared.message.reply.parts.ReplyPart.TheVariants.{Software, Error, Types}
use Rattle.stun_types.specs.Writers.{Writer, IsUnchanged, Spends, Adds}

-- ---- Which response answers a request

-- whether d is a response with this method and transaction ID
abbrev pub responds_to : (method id : ℕ) → List ℕ → Bool
responds_to method id d =
    is_response (class_of (type_field d))
    && ((method_of (type_field d) == method) && (id_field d == id))

-- whether d is a response with the method and the transaction ID of the request r
abbrev pub is_answer_to : (r d : List ℕ) → Bool
is_answer_to r d = responds_to (method_of (type_field r)) (id_field r) d

-- the type of the response of a class to the request r: it has the method of r
abbrev pub response_type : MessageClass → List ℕ → ℕ
response_type class r = type_of class (method_of (type_field r))

-- ---- The attributes of a reply

-- a SOFTWARE with the name of this library
abbrev pub own_software : Attribute
own_software = canonical SOFTWARE (codes "stun-types")

-- an ERROR-CODE
abbrev pub error_attribute : ℕ → List ℕ → Attribute
error_attribute code reason = canonical ERROR_CODE (error_value code reason)

-- an UNKNOWN-ATTRIBUTES with these types, unless there are none
abbrev pub unknown_listed : List AttributeType → List Attribute
unknown_listed [] = []
unknown_listed (type ∷ types) = canonical UNKNOWN_ATTRIBUTES (types_encoding (type ∷ types)) ∷ []

-- the reply to a request with attributes of these types, which weren't understood
abbrev pub unknown_reply : List AttributeType → List Attribute
unknown_reply types =
    own_software ∷ error_attribute 420 (codes "Unknown Attributes") ∷ unknown_listed types

-- the reply to a malformed request
abbrev pub bad_reply : List Attribute
bad_reply = own_software ∷ error_attribute 400 (codes "Bad Request") ∷ []

-- ---- What a server replies to a request that it checks

-- the types of the attributes that r shows
abbrev pub shown_types : List ℕ → List AttributeType
shown_types r = map (λ attribute. record { 0 = attribute.type }) (shown r)

-- the types of several lists, one list after the other
abbrev pub joined : List (Bor (List AttributeType)) → List AttributeType
joined = flat_map (λ types. types.now)

-- whether an attribute of this type must be understood, and isn't (RFC 8489, section 14)
abbrev pub is_unknown : List AttributeType → AttributeType → Bool
is_unknown supported type = nat_lt type.0 0x8000 && not (has type.0 (numbers supported))

-- the unknown types that r shows, in order and as often as shown
abbrev pub unknown_types : List AttributeType → List ℕ → List AttributeType
unknown_types supported r = filter (is_unknown supported) (shown_types r)

-- whether r lacks one of the required types
abbrev pub lacks : List AttributeType → List ℕ → Bool
lacks required r = list_any (λ type. not (is_some (nth r type.0 0))) required

-- the attributes of the reply, if there is one: unknown types count first, and then missing ones
abbrev pub check_reply : List AttributeType → List AttributeType → List ℕ → Option (List Attribute)
check_reply supported required r =
    let unknown = unknown_types supported r in
    if length unknown == 0 then (if lacks required r then Some bad_reply else None)
    else Some (unknown_reply unknown)

-- ---- Why a reply is refused

-- why no attribute has this value: its length field can't state the length. Of the attributes of a
-- reply only an UNKNOWN-ATTRIBUTES is as long, with two bytes for each type
abbrev pub making_refusal : List ℕ → Option StunWriteError
making_refusal value =
    if nat_lt 65535 (length value) then Some (TooLarge 32767 (length value / 2)) else None

-- why an attribute isn't made, or isn't added after those before it
unfoldable pub refusal : Option ℕ → List Attribute → Attribute → Option StunWriteError
refusal greatest before a =
    option_or (making_refusal a.value)
    (add_refusal (add a.type a.value) (types before) (20 + length (encodings before)) greatest)

-- the refusal of the first of these attributes that is refused, each after those before it
unfoldable pub first_refusal : Option ℕ → List Attribute → List Attribute → Option StunWriteError
first_refusal greatest before [] = None
first_refusal greatest before (a ∷ attributes) =
    option_or (refusal greatest before a) (first_refusal greatest (before ++ a ∷ []) attributes)

-- those before that one
unfoldable pub accepted : Option ℕ → List Attribute → List Attribute → List Attribute
accepted greatest before [] = []
accepted greatest before (a ∷ attributes) =
    if is_some (refusal greatest before a) then []
    else a ∷ accepted greatest (before ++ a ∷ []) attributes

-- ---- What is written

-- an error response to the request r with these attributes is written: it parses, shows them, and
-- answers r; and more attributes may follow
pub record IsReply (old new : Writer) (r : List ℕ) (attributes : List Attribute) : Type 0 where
  pub bytes : new.bytes ≡ message_encoding (response_type ErrorClass r) (id_field r) attributes
  pub header : is_header new.bytes ≡ true
  pub types : new.types ≡ types attributes
  pub rest : new.rest ≡ drop (length new.bytes) old.rest
  pub spends : Spends old new (length new.bytes) (length new.types)
  pub parses : parse_fault new.bytes ≡ None
  pub shows : shown new.bytes ≡ placed 20 attributes
  pub answers : is_answer_to r new.bytes ≡ true
  pub writable : IsWritable (response_type ErrorClass r) (id_field r) attributes

-- such a response with some of the first of these attributes is written, and not all of them
pub record IsPartOfReply (old new : Writer) (r : List ℕ)
    (attributes : List Attribute) : Type 0 where
  pub written : List Attribute
  pub others : List Attribute
  pub whole : attributes ≡ written ++ others
  pub left_out : others ≢ []
  pub reply : IsReply old new r written

-- what a refusal leaves: the attributes before the refused one; and if an allocation failed,
-- nothing or some of them
abbrev pub Leaves : Writer → Writer → List ℕ → List Attribute → StunWriteError → Type 0
Leaves old new r attributes e =
    (e ≢ OutOfMemory → IsReply old new r (accepted old.greatest [] attributes))
    × (e ≡ OutOfMemory → IsUnchanged old new ⊎ IsPartOfReply old new r attributes)

-- unless out of memory, the result is the first refusal, and Ok if nothing is refused
abbrev pub IsReplyAnswer :
    {T : Type 0} → Option ℕ → List Attribute → Result T StunWriteError → Type 0
IsReplyAnswer greatest attributes result =
    result ≢ Err OutOfMemory
    → MatchOption (first_refusal greatest [] attributes) (IsOk result) (λ e. result ≡ Err e)

-- an error response to r with these attributes is written whole, or up to a refusal
pub record Replies {T : Type 0} (result : Result T StunWriteError)
    (old new : Writer) (r : List ℕ) (attributes : List Attribute) : Type 0 where
  pub answer : IsReplyAnswer old.greatest attributes result
  pub ok : OnOk result (IsReply old new r attributes)
  pub err : IfErr result (Leaves old new r attributes)
  pub spends : Spends old new (length new.bytes) (length new.types)

-- the attribute that a part of a reply becomes
abbrev pub attribute_of : ReplyPart → Attribute
attribute_of Software = own_software
attribute_of (Error code reason) = error_attribute code reason.now
attribute_of (Types types) = canonical UNKNOWN_ATTRIBUTES (types_encoding types.now)

-- a part can be made, but for its length and for memory
abbrev pub IsMakeable : ReplyPart → Type 0
IsMakeable Software = Unit {0}
IsMakeable (Error code reason) = making_fault code reason.now ≡ None
IsMakeable (Types types) = Unit {0}

-- an attribute is made and appended, or it is refused and nothing changes
pub record AddsMade (result : Result (Unit {0}) StunWriteError)
    (old new : Writer) (a : Attribute) : Type 0 where
  pub answer : result ≢ Err OutOfMemory
      → MatchOption
      (option_or (making_refusal a.value)
      (add_refusal (add a.type a.value) old.types (length old.bytes) old.greatest))
      (IsOk result) (λ e. result ≡ Err e)
  pub adds : Adds result old new a.type a.value
  pub fits : OnOk result (length a.value < 2 ^ 16)
