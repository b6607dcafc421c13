-- A reply that is written into a slice, piece by piece.
use Rattle.std.proofs.Common.{◌≡◌, ℕ, ◌+◌, ◌*◌, ◌^◌, ◌<◌, ◌≤◌, Bool, true, false, List, [], ◌∷◌, ◌++◌, length, take, drop, refl, sym, ap, ◌∙◌, append_assoc, lit<, arith}
use Rattle.std.specs.Prelude.{codes, is_some, if◌then◌else◌}
use Rattle.std.specs.declared.net.socket_addr.SocketAddr.{SocketAddr}
use Rattle.std.proofs.Math.Seq.{drop-append-add}
use Rattle.std.proofs.lemmas.List.{length-append, take_at, drop_at, drop-drop}
use Rattle.stun_grammar.specs.declared.attribute_type.AttributeType.{AttributeType}
use Rattle.stun_grammar.specs.Numbers.{be16, padded_length}
use Rattle.stun_grammar.specs.Headers.{id_field}
use Rattle.stun_grammar.specs.Attributes.{Attribute, canonical, encoding, attribute_length}
use Rattle.stun_grammar.specs.AttributeTypes.{XOR_MAPPED_ADDRESS, SOFTWARE, ERROR_CODE, UNKNOWN_ATTRIBUTES, FINGERPRINT}
use Rattle.stun_grammar.specs.Fingerprints.{fingerprint_value}
use Rattle.stun_grammar.specs.Writing.{message_encoding}
use Rattle.stun_grammar.specs.Adding.{appended, grown_length}
use Rattle.stun_grammar.proofs.WritingLemmas.{length-canonical, length-message}
use Rattle.stun_grammar.proofs.AddingLemmas.{appended_length, message_more, fingerprint_length}
use Rattle.stun_base.specs.declared.message_class.MessageClass.TheVariants.{Success, Error as ErrorClass}
use Rattle.stun_values.specs.Addresses.{address_value, IsXored, xored_value}
use Rattle.stun_values.specs.ErrorValues.{error_value}
use Rattle.stun_values.specs.TypeLists.{type_encoding, types_encoding}
use Rattle.stun_values.proofs.ListsLemmas.{flat_map-one, length_of_twos}
use Rattle.stun_types.specs.Replies.{response_type, own_software, unknown_reply}
use Rattle.stun_types.specs.LookingUp.{nth}
use Rattle.stun_server.specs.Reply.{success_reply, response, unfinished_reply, binding_reply}
use Rattle.stun_server.specs.InSlice.{overlaid}
use Rattle.stun_server.proofs.ReplyLemmas.{xored_spelled}
use Rattle.stun_server.proofs.SizesLemmas.{software_length, error_length, short_value, unknown_short, reply_for}

-- ---- The unknown types

-- one more type is written
listed_more : (found : List AttributeType) (x : AttributeType) (dest start : List ℕ) → dest ≡ types_encoding found ++ drop (2 * length found) start
    → take (2 * length found) dest ++ (be16 x.0 ++ drop 2 (drop (2 * length found) dest)) ≡ types_encoding (found ++ x ∷ []) ++ drop (2 * length (found ++ x ∷ [])) start
listed_more found x dest start is =
    let here = 2 * length found in
    let front = types_encoding found in
    let before : take here dest ≡ front = ap (take here) is ∙ take_at front (drop here start) here (length_of_twos found) in
    let behind : drop here dest ≡ drop here start = ap (drop here) is ∙ drop_at front (drop here start) here (length_of_twos found) in
    let next : here + 2 ≡ 2 * length (found ++ x ∷ []) = omega (arith, length-append found (x ∷ [])) in
    let rest : drop 2 (drop here dest) ≡ drop (2 * length (found ++ x ∷ [])) start = ap (drop 2) behind ∙ drop-drop 2 here start ∙ ap (λ (k : ℕ). drop k start) next in
    (λ j. before j ++ (be16 x.0 ++ rest j)) ∙ sym (append_assoc front (be16 x.0) (drop (2 * length (found ++ x ∷ [])) start)) ∙ (λ j. sym (flat_map-one type_encoding found x) j ++ drop (2 * length (found ++ x ∷ [])) start)

-- the types so far are written, up to a place
abbrev pub Written : (types : List AttributeType) (end : ℕ) (dest start : List ℕ) → Type 0
Written types end dest start = (end ≡ 2 * length types) × (dest ≡ types_encoding types ++ drop (2 * length types) start)

pub written_more : (types : List AttributeType) (x : AttributeType) (end next : ℕ) (dest new start : List ℕ) → Written types end dest start → next ≡ end + 2 → new ≡ take end dest ++ (be16 x.0 ++ drop 2 (drop end dest))
    → Written (types ++ x ∷ []) next new start
written_more types x end next dest new start so_far next-is new-is =
    (omega (arith, length-append types (x ∷ []), so_far.0, next-is), new-is ∙ ap (λ (n : ℕ). take n dest ++ (be16 x.0 ++ drop 2 (drop n dest))) so_far.0 ∙ listed_more types x dest start so_far.1)

-- ---- One more attribute

-- a message at the start of a slice, with one more attribute
pub grown : (type id : ℕ) (before : List Attribute) (slice old new value : List ℕ) (atype len : ℕ) → len ≡ length (message_encoding type id before) → old ≡ overlaid (message_encoding type id before) slice → atype < 2 ^ 16 → length value < 2 ^ 16
    → new ≡ appended (take len old) atype value ++ drop (grown_length len (length value)) old
    → new ≡ overlaid (message_encoding type id (before ++ canonical atype value ∷ [])) slice
grown type id before slice old new value atype len len-is old-is t v new-is =
    let text : List ℕ = message_encoding type id before in
    let rest : List ℕ = drop (length text) slice in
    let n : ℕ = 4 + padded_length (length value) in
    let front : take len old ≡ text = ap (take len) old-is ∙ take_at text rest len (sym len-is) in
    let behind : drop (grown_length len (length value)) old ≡ drop (length text + n) slice =
    ap (drop (len + n)) old-is ∙ ap (λ (k : ℕ). drop (k + n) (text ++ rest)) len-is ∙ drop-append-add text rest n ∙ drop-drop n (length text) slice in
    let long : 4 ≤ length text = omega (arith, length-message type id before) in
    let size : length text + n ≡ length (appended text atype value) = sym (appended_length text atype value long t v) in
    new-is ∙ (λ j. appended (front j) atype value ++ behind j) ∙ ap (λ (k : ℕ). appended text atype value ++ drop k slice) size ∙ ap (λ (b : List ℕ). overlaid b slice) (message_more type id before atype value t v)

-- the same of a FINGERPRINT
pub fingered : (text slice old new : List ℕ) (len : ℕ) → len ≡ length text → 20 ≤ len → old ≡ overlaid text slice
    → new ≡ appended (take len old) FINGERPRINT (fingerprint_value (take len old) (length (take len old))) ++ drop (len + 8) old
    → new ≡ overlaid (appended text FINGERPRINT (fingerprint_value text (length text))) slice
fingered text slice old new len len-is long old-is new-is =
    let rest : List ℕ = drop (length text) slice in
    let front : take len old ≡ text = ap (take len) old-is ∙ take_at text rest len (sym len-is) in
    let behind : drop (len + 8) old ≡ drop (length text + 8) slice =
    ap (drop (len + 8)) old-is ∙ ap (λ (k : ℕ). drop (k + 8) (text ++ rest)) len-is ∙ drop-append-add text rest 8 ∙ drop-drop 8 (length text) slice in
    let size : length text + 8 ≡ length (appended text FINGERPRINT (fingerprint_value text (length text))) = sym (fingered_size text (omega (arith, len-is, long))) in
    new-is ∙ (λ j. appended (front j) FINGERPRINT (fingerprint_value (front j) (length (front j))) ++ behind j) ∙ ap (λ (k : ℕ). appended text FINGERPRINT (fingerprint_value text (length text)) ++ drop k slice) size
  where
    fingered_size : (b : List ℕ) → 20 ≤ length b → length (appended b FINGERPRINT (fingerprint_value b (length b))) ≡ length b + 8
    fingered_size b h =
        let four = fingerprint_length b (length b) in
        omega (arith, appended_length b FINGERPRINT (fingerprint_value b (length b)) (omega (arith, h)) (lit< tt) (omega (arith, four)), four)

-- ---- The success response

pub success_size : (source x : SocketAddr) (r : List ℕ) (id : ℕ) → id ≡ id_field r → IsXored id source x → length (response Success r (success_reply source r)) ≡ 36 + attribute_length (length (address_value x))
success_size source x r id id-is xored =
    let value = xored_value (id_field r) source in
    let short = short_value (id_field r) source in
    let mapped = canonical XOR_MAPPED_ADDRESS value in
    let same : length (address_value x) ≡ length value = ap length (xored_spelled id source x xored) ∙ ap (λ (n : ℕ). length (xored_value n source)) id-is in
    omega (arith, same, short, length-message (response_type Success r) (id_field r) (success_reply source r), length-canonical XOR_MAPPED_ADDRESS value (lit< tt) (omega (arith, short)), length-canonical SOFTWARE (codes "stun-types") (lit< tt) (lit< tt), length-append (encoding mapped) (encoding own_software ++ []), length-append (encoding own_software) [])

pub success_long : (source : SocketAddr) (r : List ℕ) → 20 ≤ length (response Success r (success_reply source r))
success_long source r = omega (arith, length-message (response_type Success r) (id_field r) (success_reply source r))

pub success_in : (source x : SocketAddr) (r slice one two three : List ℕ) (id first second : ℕ) → id ≡ id_field r → IsXored id source x → first ≡ 20 → second ≡ grown_length first (length (address_value x))
    → one ≡ overlaid (response Success r []) slice
    → two ≡ appended (take first one) XOR_MAPPED_ADDRESS (address_value x) ++ drop (grown_length first (length (address_value x))) one
    → three ≡ appended (take second two) SOFTWARE (codes "stun-types") ++ drop (grown_length second 10) two
    → three ≡ overlaid (response Success r (success_reply source r)) slice
success_in source x r slice one two three id first second id-is xored first-is second-is one-is two-is three-is =
    let kind = response_type Success r in
    let value = xored_value (id_field r) source in
    let short = short_value (id_field r) source in
    let mapped = canonical XOR_MAPPED_ADDRESS value in
    let same : address_value x ≡ value = xored_spelled id source x xored ∙ ap (λ (n : ℕ). xored_value n source) id-is in
    let header : first ≡ length (message_encoding kind (id_field r) []) = omega (arith, first-is, length-message kind (id_field r) []) in
    let behind : second ≡ length (message_encoding kind (id_field r) (mapped ∷ [])) =
    omega (arith, ap length same, first-is, second-is, short, length-message kind (id_field r) (mapped ∷ []), length-canonical XOR_MAPPED_ADDRESS value (lit< tt) (omega (arith, short)), length-append (encoding mapped) []) in
    let written : two ≡ overlaid (message_encoding kind (id_field r) (mapped ∷ [])) slice =
    grown kind (id_field r) [] slice one two value XOR_MAPPED_ADDRESS first header one-is (lit< tt) (omega (arith, short)) (two-is ∙ ap (λ (v : List ℕ). appended (take first one) XOR_MAPPED_ADDRESS v ++ drop (grown_length first (length v)) one) same) in
    grown kind (id_field r) (mapped ∷ []) slice two three (codes "stun-types") SOFTWARE second behind written (lit< tt) (lit< tt) three-is

-- ---- The error response

pub refusal_in : (r slice one two three four : List ℕ) (types : List AttributeType) (first second third : ℕ) → 0 < length types → length types ≤ 16384
    → first ≡ 20 → second ≡ grown_length first 10 → third ≡ grown_length second 22
    → one ≡ overlaid (response ErrorClass r []) slice
    → two ≡ appended (take first one) SOFTWARE (codes "stun-types") ++ drop (grown_length first 10) one
    → three ≡ appended (take second two) ERROR_CODE (error_value 420 (codes "Unknown Attributes")) ++ drop (grown_length second 22) two
    → four ≡ appended (take third three) UNKNOWN_ATTRIBUTES (types_encoding types) ++ drop (grown_length third (length (types_encoding types))) three
    → four ≡ overlaid (response ErrorClass r (unknown_reply types)) slice
refusal_in r slice one two three four [] first second third some few first-is second-is third-is one-is two-is three-is four-is = absurd (omega (arith, some))
refusal_in r slice one two three four (x ∷ xs) first second third some few first-is second-is third-is one-is two-is three-is four-is =
    let kind = response_type ErrorClass r in
    let id = id_field r in
    let types = x ∷ xs in
    let twos = length_of_twos types in
    let reason = error_value 420 (codes "Unknown Attributes") in
    let error = canonical ERROR_CODE reason in
    let header : first ≡ length (message_encoding kind id []) = omega (arith, first-is, length-message kind id []) in
    let named : second ≡ length (message_encoding kind id (own_software ∷ [])) = omega (arith, first-is, second-is, length-message kind id (own_software ∷ []), software_length) in
    let reported : third ≡ length (message_encoding kind id (own_software ∷ error ∷ [])) = omega (arith, first-is, second-is, third-is, length-message kind id (own_software ∷ error ∷ []), error_length) in
    let software : two ≡ overlaid (message_encoding kind id (own_software ∷ [])) slice = grown kind id [] slice one two (codes "stun-types") SOFTWARE first header one-is (lit< tt) (lit< tt) two-is in
    let code : three ≡ overlaid (message_encoding kind id (own_software ∷ error ∷ [])) slice = grown kind id (own_software ∷ []) slice two three reason ERROR_CODE second named software (lit< tt) (lit< tt) three-is in
    grown kind id (own_software ∷ error ∷ []) slice three four (types_encoding types) UNKNOWN_ATTRIBUTES third reported code (lit< tt) (omega (arith, twos, few)) four-is

-- how long it is
pub refusal_size : (r : List ℕ) (types : List AttributeType) → 0 < length types → length types ≤ 16384 → length (response ErrorClass r (unknown_reply types)) ≡ grown_length 64 (length (types_encoding types))
refusal_size r [] some few = absurd (omega (arith, some))
refusal_size r (x ∷ xs) some few = omega (arith, unknown_short r x xs few, length_of_twos (x ∷ xs))

-- ---- Which of the two it is, and how long

pub unfinished_none : (source : SocketAddr) (r : List ℕ) (types : List AttributeType) → length types ≡ 0 → reply_for source r types ≡ response Success r (success_reply source r)
unfinished_none source r [] none = refl
unfinished_none source r (x ∷ xs) none = absurd (omega (arith, none))

pub finished_size : (finishes : Bool) (text : List ℕ) → 20 ≤ length text → length (if finishes then appended text FINGERPRINT (fingerprint_value text (length text)) else text) ≡ length text + (if finishes then 8 else 0)
finished_size false text long = omega arith
finished_size true text long =
    let four = fingerprint_length text (length text) in
    omega (arith, appended_length text FINGERPRINT (fingerprint_value text (length text)) (omega (arith, long)) (lit< tt) (omega (arith, four)), four)

-- how long the whole reply is
pub whole_is : (supported : List AttributeType) (source : SocketAddr) (r : List ℕ) (len whole : ℕ) (finishes : Bool) → finishes ≡ is_some (nth r FINGERPRINT 0) → len ≡ length (unfinished_reply supported source r) → 20 ≤ len → whole ≡ len + (if finishes then 8 else 0)
    → whole ≡ length (binding_reply supported source r)
whole_is supported source r len whole finishes is len-is long whole-is =
    let text = unfinished_reply supported source r in
    whole-is ∙ ap (λ (b : Bool). len + (if b then 8 else 0)) is ∙ ap (λ (n : ℕ). n + (if is_some (nth r FINGERPRINT 0) then 8 else 0)) len-is ∙ sym (finished_size (is_some (nth r FINGERPRINT 0)) text (omega (arith, len-is, long)))

-- a FINGERPRINT makes it no shorter
pub finished_longer : (supported : List AttributeType) (source : SocketAddr) (r : List ℕ) → 20 ≤ length (unfinished_reply supported source r) → length (unfinished_reply supported source r) ≤ length (binding_reply supported source r)
finished_longer supported source r long = omega (arith, finished_size (is_some (nth r FINGERPRINT 0)) (unfinished_reply supported source r) long)
