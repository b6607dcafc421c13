-- What a client learns of the reply to its request.
use Rattle.std.proofs.Common.{◌≡◌, ℕ, zero, suc, ltb, ltb-true, ◌^◌, ◌<◌, ◌≤◌, Bool, true, false, List, [], ◌∷◌, ◌++◌, length, map, Option, None, Some, inl, inr, refl, sym, ap, subst, ◌∙◌, arith}
use Rattle.std.specs.List.{filter}
use Rattle.std.specs.Prelude.{not, ◌⊎◌, ◌==◌, ◌&&◌, codes, option_and_then, find, is_some, IsSomeAnd, if◌then◌else◌}
use Rattle.std.specs.Option.{option_map_or, option_or}
use Rattle.std.specs.Str.{IsAscii}
use Rattle.std.proofs.lemmas.Str.{IsUtf8-from_ascii, is_utf8-from_IsUtf8}
use Rattle.std.specs.declared.net.socket_addr.SocketAddr.{SocketAddr}
use Rattle.std.proofs.lemmas.Bool.{ne_eqb}
use Rattle.stun_grammar.specs.declared.attribute_type.AttributeType.{AttributeType}
use Rattle.stun_grammar.specs.declared.error.StunParseError.{StunParseError}
use Rattle.stun_grammar.specs.declared.error.StunParseError.TheVariants.{InvalidAttributeData}
use Rattle.stun_grammar.specs.Numbers.{IsBytes}
use Rattle.stun_grammar.specs.Headers.{type_field, id_field}
use Rattle.stun_grammar.specs.Attributes.{Attribute, canonical, types}
use Rattle.stun_grammar.specs.AttributeTypes.{FINGERPRINT, ERROR_CODE, UNKNOWN_ATTRIBUTES}
use Rattle.stun_grammar.specs.Chains.{Shown, placed}
use Rattle.stun_grammar.specs.ScannedOrder.{has}
use Rattle.stun_grammar.specs.Showing.{shown}
use Rattle.stun_grammar.specs.Writing.{message_encoding, IsWritable}
use Rattle.stun_grammar.proofs.HeadersLemmas.{framed_length, field_fits}
use Rattle.stun_grammar.proofs.ParsingLemmas.{parsed_frame}
use Rattle.stun_grammar.proofs.WritingLemmas.{type-message, id-message, parse-message, shown-message}
use Rattle.stun_base.specs.declared.message_class.MessageClass.{MessageClass}
use Rattle.stun_base.specs.declared.message_class.MessageClass.TheVariants.{Request, Success, Error as ErrorClass}
use Rattle.stun_base.specs.MessageTypes.{type_of, class_of, method_of, is_response}
use Rattle.stun_types.specs.LookingUp.{nth}
use Rattle.stun_values.specs.Addresses.{IsInRange, xored_value}
use Rattle.stun_values.specs.ErrorValues.{error_value}
use Rattle.stun_values.specs.TypeLists.{types_encoding}
use Rattle.stun_types.specs.Replies.{is_answer_to, response_type, own_software, error_attribute, unknown_reply, bad_reply, lacks, is_unknown, unknown_types}
use Rattle.stun_transactions.specs.declared.received.Failure.TheVariants as Failure
use Rattle.stun_transactions.specs.declared.received.Outcome.{Outcome}
use Rattle.stun_transactions.specs.Receiving.{content, content_by_class}
use Rattle.stun_authentication.specs.Codes.{shown_code, value_code}
use Rattle.stun_transactions.specs.Responses.{own_types, first_unknown}
use Rattle.stun_server.specs.Reply.{success_reply, response, finished, unfinished_reply, binding_reply, reply_by_type, reply}
use Rattle.stun_server.proofs.SizesLemmas.{reply_for, request_is}
use Rattle.stun_exchanges.specs.Learning.{IsBindingRequest, Learns, LearnsError}
use Rattle.stun_exchanges.proofs.AddressLemmas.{tells_only}
use Rattle.stun_exchanges.proofs.ReceivedLemmas.{received_as}
use Rattle.stun_exchanges.proofs.WritableLemmas.{id_small, success_unfinished, error_unfinished, mapped_to, finish}

-- what the laws say that this rests on: of a class in a type, of the bits of a type, of what answers
-- a request, and of an attribute in what is written
abbrev KeepsClass : Type 0
KeepsClass = (class : MessageClass) (method : ℕ) → class_of (type_of class method) ≡ class

abbrev HasBits : Type 0
HasBits = (class : MessageClass) (method : ℕ) → type_of class method < 2 ^ 14

abbrev IsAnswer : Type 0
IsAnswer =
    (class : MessageClass) (r : List ℕ) (attributes : List Attribute) → is_response class ≡ true → IsWritable (response_type class r) (id_field r) attributes
    → is_answer_to r (message_encoding (response_type class r) (id_field r) attributes) ≡ true

abbrev IsFoundIn : Type 0
IsFoundIn =
    (type id : ℕ) (before behind : List Attribute) (a : Attribute) → IsWritable type id (before ++ a ∷ behind) → has a.type (types before) ≡ false → has a.type (types behind) ≡ false
    → (nth (message_encoding type id (before ++ a ∷ behind)) a.type 0 ≡ Some (record { offset = length (message_encoding type id before); type = a.type; value = a.value }))
    × (nth (message_encoding type id (before ++ a ∷ behind)) a.type 1 ≡ None)

-- ---- The reply

replied_as : (source : SocketAddr) (r text : List ℕ) → IsBindingRequest r → text ≡ binding_reply [] source r → reply source r ≡ Some text
unfolding reply
replied_as source r text request is =
    ap (λ (o : Option StunParseError). if is_some o then None else reply_by_type (class_of (type_field r)) (method_of (type_field r)) source r) request.parses
    ∙ ap (λ (c : MessageClass). reply_by_type c (method_of (type_field r)) source r) request.class_is
    ∙ ap (λ (m : ℕ). reply_by_type Request m source r) request.method_is
    ∙ ap Some (sym is)

class_there : (class : MessageClass) (r : List ℕ) (attributes : List Attribute) → KeepsClass → IsWritable (response_type class r) (id_field r) attributes
    → class_of (type_field (message_encoding (response_type class r) (id_field r) attributes)) ≡ class
class_there class r attributes classes so = ap class_of (type-message (response_type class r) (id_field r) attributes so.type_fits) ∙ classes class (method_of (type_field r))

-- ---- What the client receives

abbrev type_of_shown : Shown → AttributeType
type_of_shown a = record { 0 = a.type }

-- the first type that isn't one of RFC 8489
abbrev first_other : List AttributeType → Option AttributeType
first_other types = find (λ type. not (has type.0 own_types)) (filter (is_unknown []) types)

-- the content of a response that shows no type beyond those of RFC 8489
content_of : (class : MessageClass) (d : List ℕ) (reported : Outcome) → first_unknown [] d ≡ None → class_of (type_field d) ≡ class → content_by_class None class d ≡ reported → content None [] d ≡ reported
content_of class d reported none is has =
    ap (λ (o : Option AttributeType). option_map_or (λ (type : AttributeType). Outcome.Failed (Failure.UnknownAttribute type)) o (content_by_class None (class_of (type_field d)) d)) none
    ∙ ap (λ (c : MessageClass). content_by_class None c d) is ∙ has

within : (d : List ℕ) (attributes : List Attribute) → shown d ≡ placed 20 attributes → first_other (map type_of_shown (placed 20 attributes)) ≡ None → first_unknown [] d ≡ None
within d attributes shows none = ap (λ (xs : List Shown). first_other (map type_of_shown xs)) shows ∙ none

success_within : (source : SocketAddr) (r : List ℕ) (more : List Attribute) → (more ≡ []) ⊎ ((value : List ℕ) × (more ≡ canonical FINGERPRINT value ∷ []))
    → first_other (map type_of_shown (placed 20 (success_reply source r ++ more))) ≡ None
unfolding placed
success_within source r more (inl e) = rw e refl
success_within source r more (inr e) = rw e.1 refl

error_within : (types : List AttributeType) (more : List Attribute) → (more ≡ []) ⊎ ((value : List ℕ) × (more ≡ canonical FINGERPRINT value ∷ []))
    → first_other (map type_of_shown (placed 20 ((own_software ∷ error_attribute 420 (codes "Unknown Attributes") ∷ canonical UNKNOWN_ATTRIBUTES (types_encoding types) ∷ []) ++ more))) ≡ None
unfolding placed
error_within types more (inl e) = rw e refl
error_within types more (inr e) = rw e.1 refl

-- a FINGERPRINT is of no other type
no_other : (type : ℕ) (more : List Attribute) → (FINGERPRINT == type) ≡ false → (more ≡ []) ⊎ ((value : List ℕ) × (more ≡ canonical FINGERPRINT value ∷ [])) → has type (types more) ≡ false
no_other type more a (inl e) = rw e refl
no_other type more a (inr e) = rw (e.1, a) refl

-- a reply to a request with a FINGERPRINT shows one
printed_in : IsFoundIn → (type id : ℕ) (attributes more : List Attribute) → IsWritable type id (attributes ++ more) → has FINGERPRINT (types attributes) ≡ false → ((value : List ℕ) × (more ≡ canonical FINGERPRINT value ∷ []))
    → is_some (nth (message_encoding type id (attributes ++ more)) FINGERPRINT 0) ≡ true
printed_in found type id attributes more so none (value, is) =
    let writable : IsWritable type id (attributes ++ canonical FINGERPRINT value ∷ []) = subst (λ (xs : List Attribute). IsWritable type id (attributes ++ xs)) is so in
    ap (λ (xs : List Attribute). is_some (nth (message_encoding type id (attributes ++ xs)) FINGERPRINT 0)) is
    ∙ ap is_some (found type id attributes [] (canonical FINGERPRINT value) writable none refl).0

pub learns : KeepsClass → HasBits → IsAnswer → IsFoundIn → (source : SocketAddr) (r : List ℕ) → IsBytes r → IsInRange source → IsBindingRequest r → unknown_types [] r ≡ [] → Learns source r
learns classes bits answering found source r bytes range request none =
    let kind = response_type Success r in
    let id = id_field r in
    let id_fits = id_small r bytes request.parses in
    let plain : unfinished_reply [] source r ≡ response Success r (success_reply source r) = ap (reply_for source r) none in
    let done = finish (nth r FINGERPRINT 0) kind id (success_reply source r) (success_unfinished source r (bits Success (method_of (type_field r))) id_fits) in
    let all = success_reply source r ++ done.more in
    let text = message_encoding kind id all in
    let parses = parse-message kind id all done.writable in
    let answers = answering Success r all refl done.writable in
    let class = class_there Success r all classes done.writable in
    let mapped = mapped_to source r in
    let there = (found kind id [] (own_software ∷ done.more) mapped done.writable refl (no_other mapped.type done.more refl done.last)).0 in
    record {
      text = text;
      replied = replied_as source r text request (sym (ap (finished r) plain ∙ done.text_is));
      taken = received_as (Outcome.Success None) r text parses answers (λ e. printed_in found kind id (success_reply source r) done.more done.writable refl (done.printed e))
          (content_of Success text (Outcome.Success None) (within text all (shown-message kind id all done.writable) (success_within source r done.more done.last)) class refl);
      address = tells_only source r text (record { offset = length (message_encoding kind id []); type = mapped.type; value = mapped.value }) range parses
          (record { answers = answers; succeeds = class }) there (ap (λ (n : ℕ). xored_value n source) (sym (id-message kind id all id_fits)));
    }

-- ---- The error

small : List ℕ → Bool
small [] = true
small (b ∷ bs) = ltb b 128 && small bs

first_true : (a b : Bool) → (a && b) ≡ true → (a ≡ true) × (b ≡ true)
first_true true b e = (refl, e)
first_true false b e = absurd cc

ascii : (bs : List ℕ) → small bs ≡ true → IsAscii bs
unfolding small
ascii [] e i = omega arith
ascii (b ∷ bs) e zero = ltb-true b 128 (first_true (ltb b 128) (small bs) e).0
ascii (b ∷ bs) e (suc i) = ascii bs (first_true (ltb b 128) (small bs) e).1 i

-- the code in the value of the error is 420
code_reported : value_code (error_value 420 (codes "Unknown Attributes")) ≡ Some 420
unfolding small
code_reported =
    let reason = codes "Unknown Attributes" in
    ap (λ (b : Bool). if is_some (option_or None (if true && b then None else Some InvalidAttributeData)) then None else Some 420) (is_utf8-from_IsUtf8 reason (IsUtf8-from_ascii reason (ascii reason refl)))

pub learns_error : KeepsClass → HasBits → IsAnswer → IsFoundIn → (source : SocketAddr) (r : List ℕ) (types : List AttributeType) → IsBytes r → IsBindingRequest r → unknown_types [] r ≡ types → (types ≡ [] → ⊥)
    → LearnsError source r
learns_error classes bits answering found source r [] bytes request is some = absurd (some refl)
learns_error classes bits answering found source r (x ∷ xs) bytes request is some =
    let kind = response_type ErrorClass r in
    let id = id_field r in
    let id_fits = id_small r bytes request.parses in
    let frame = parsed_frame r request.parses in
    let few : length (x ∷ xs) ≤ 16384 = omega (arith, ap length is, request_is [] r bytes request.parses, framed_length r frame, field_fits r bytes) in
    let plain : unfinished_reply [] source r ≡ response ErrorClass r (unknown_reply (x ∷ xs)) =
    ap (reply_for source r) is
    ∙ ap (λ (b : Bool). option_map_or (response ErrorClass r) (if b then (if lacks [] r then Some bad_reply else None) else Some (unknown_reply (x ∷ xs))) (response Success r (success_reply source r)))
    (ne_eqb (length (x ∷ xs)) 0 (λ e. omega (arith, e))) in
    let done = finish (nth r FINGERPRINT 0) kind id (unknown_reply (x ∷ xs)) (error_unfinished r x xs few (bits ErrorClass (method_of (type_field r))) id_fits) in
    let all = unknown_reply (x ∷ xs) ++ done.more in
    let text = message_encoding kind id all in
    let error = error_attribute 420 (codes "Unknown Attributes") in
    let listed = canonical UNKNOWN_ATTRIBUTES (types_encoding (x ∷ xs)) in
    let parses = parse-message kind id all done.writable in
    let answers = answering ErrorClass r all refl done.writable in
    let class = class_there ErrorClass r all classes done.writable in
    let code_there = (found kind id (own_software ∷ []) (listed ∷ done.more) error done.writable refl (no_other ERROR_CODE done.more refl done.last)).0 in
    let types_there = (found kind id (own_software ∷ error ∷ []) done.more listed done.writable refl (no_other UNKNOWN_ATTRIBUTES done.more refl done.last)).0 in
    let code : shown_code text ≡ Some 420 = ap (option_and_then (λ (a : Shown). value_code a.value)) code_there ∙ code_reported in
    record {
      text = text;
      replied = replied_as source r text request (sym (ap (finished r) plain ∙ done.text_is));
      taken = received_as (Outcome.Error 420 None) r text parses answers (λ e. printed_in found kind id (unknown_reply (x ∷ xs)) done.more done.writable refl (done.printed e))
          (content_of ErrorClass text (Outcome.Error 420 None) (within text all (shown-message kind id all done.writable) (error_within (x ∷ xs) done.more done.last)) class
          (ap (λ (o : Option ℕ). option_map_or (λ (n : ℕ). Outcome.Error n None) o (Outcome.Failed Failure.NoErrorCode)) code));
      types = subst (λ (o : Option Shown). IsSomeAnd o (λ (s : Shown). s.value ≡ types_encoding (unknown_types [] r))) (sym types_there) (ap types_encoding (sym is));
    }
