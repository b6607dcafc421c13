-- How long a reply is beside its request.
use Rattle.std.proofs.Common.{◌≡◌, ℕ, ◌+◌, ◌*◌, ◌≤◌, Bool, true, false, cond, eqb, List, [], ◌∷◌, ◌++◌, length, drop, map, Option, Some, None, inl, inr, refl, sym, ap, subst, ◌∙◌, lit<, arith}
use Rattle.std.specs.Prelude.{◌⊎◌, if◌then◌else◌, bit_xor, find, is_some, slice_get, codes}
use Rattle.std.specs.List.{filter, zip, AllByRecursion}
use Rattle.std.specs.Option.{option_map_or}
use Rattle.std.specs.Net.Socket.{socket_ip}
use Rattle.std.specs.declared.net.socket_addr.SocketAddr.{SocketAddr}
use Rattle.std.proofs.lemmas.List.{length-append, length-drop, length-map}
use Rattle.std.proofs.lemmas.Slice.Zip.{length-zip}
use Rattle.std.proofs.lemmas.Bool.{eqb-true, ne_eqb}
use Rattle.stun_grammar.specs.declared.attribute_type.AttributeType.{AttributeType}
use Rattle.stun_grammar.specs.Numbers.{IsBytes, padded_length}
use Rattle.stun_grammar.specs.Headers.{type_field, id_field}
use Rattle.stun_grammar.specs.Attributes.{Attribute, IsAttribute, canonical, encoding, encodings}
use Rattle.stun_grammar.specs.AttributeTypes.{FINGERPRINT, XOR_MAPPED_ADDRESS, SOFTWARE, ERROR_CODE, UNKNOWN_ATTRIBUTES}
use Rattle.stun_grammar.specs.Chains.{Shown, chain, placed}
use Rattle.stun_grammar.specs.Showing.{frame_fault, shown, shown_prefix}
use Rattle.stun_grammar.specs.Parsing.{body_fault, parse_fault}
use Rattle.stun_grammar.specs.Fingerprints.{fingerprint_value}
use Rattle.stun_grammar.specs.Adding.{appended}
use Rattle.stun_grammar.specs.Names.{BINDING}
use Rattle.stun_grammar.proofs.AttributesLemmas.{length-encoding, length-encoding-is}
use Rattle.stun_grammar.proofs.WritingLemmas.{length-canonical, length-message}
use Rattle.stun_grammar.proofs.AddingLemmas.{appended_length, fingerprint_length}
use Rattle.stun_grammar.proofs.ShowingLemmas.{shows}
use Rattle.stun_grammar.proofs.ParsingLemmas.{is_fingerprint}
use Rattle.stun_grammar.proofs.HeadersLemmas.{frame_there, header_there, framed_length, field_fits}
use Rattle.stun_grammar.proofs.VerdictsLemmas.{first_none}
use Rattle.stun_grammar.proofs.AuthenticFingerprintLemmas.{shown_right, right_value}
use Rattle.stun_base.specs.declared.message_class.MessageClass.{MessageClass}
use Rattle.stun_base.specs.declared.message_class.MessageClass.TheVariants.{Request, Indication, Success, Error as ErrorClass}
use Rattle.stun_base.specs.MessageTypes.{class_of, method_of}
use Rattle.stun_types.specs.LookingUp.{nth}
use Rattle.stun_values.specs.Addresses.{octets, mask, address_value, IsXored, xored_value}
use Rattle.stun_values.specs.ErrorValues.{error_value}
use Rattle.stun_values.specs.TypeLists.{types_encoding}
use Rattle.stun_values.proofs.ListsLemmas.{length_of_twos}
use Rattle.stun_types.specs.Replies.{response_type, own_software, error_attribute, bad_reply, unknown_reply, is_unknown, lacks, unknown_types}
use Rattle.stun_server.specs.Reply.{comprehended, success_reply, response, unfinished_reply, binding_reply, reply_by_type, reply}
use Rattle.stun_server.specs.Sizes.{IsSmall}
use Rattle.stun_server.proofs.ReplyLemmas.{xored_spelled}

-- ---- What a request has at least

abbrev type_of_shown : Shown → AttributeType
type_of_shown a = record { 0 = a.type }

kept_step : (b : Bool) (x : AttributeType) (xs : List AttributeType) (more n : ℕ) → 4 * length xs + more ≤ n → 4 * length (cond b (x ∷ xs) xs) + more ≤ 4 + n
kept_step true x xs more n e = omega (arith, e)
kept_step false x xs more n e = omega (arith, e)

-- each attribute takes four bytes
takes_four : (test : AttributeType → Bool) (offset : ℕ) (xs : List Attribute) → 4 * length (filter test (map type_of_shown (placed offset xs))) + 0 ≤ length (encodings xs)
unfolding placed
takes_four test offset [] = omega arith
takes_four test offset (x ∷ xs) =
    let others = filter test (map type_of_shown (placed (offset + length (encoding x)) xs)) in
    let step = kept_step (test (record { 0 = x.type })) (record { 0 = x.type }) others 0 (length (encodings xs)) (takes_four test (offset + length (encoding x)) xs) in
    omega (arith, step, length-append (encoding x) (encodings xs), length-encoding x)

at_or_behind : (b : Bool) (o : Option Shown) (x y : Shown) → cond b (Some x) o ≡ Some y → ((b ≡ true) × (x ≡ y)) ⊎ ((b ≡ false) × (o ≡ Some y))
at_or_behind true o x y e = inl (refl, cc)
at_or_behind false o x y e = inr (refl, e)

-- a FINGERPRINT that doesn't pass takes eight more
takes_eight : (test : AttributeType → Bool) (offset : ℕ) (xs : List Attribute) (y : Shown) → test (record { 0 = FINGERPRINT }) ≡ false → AllByRecursion IsAttribute xs
    → find is_fingerprint (placed offset xs) ≡ Some y → length y.value ≡ 4 → 4 * length (filter test (map type_of_shown (placed offset xs))) + 8 ≤ length (encodings xs)
unfolding placed
takes_eight test offset [] y fails all found four = absurd cc
takes_eight test offset (x ∷ xs) y fails all found four =
    let others = filter test (map type_of_shown (placed (offset + length (encoding x)) xs)) in
    let whole = length-append (encoding x) (encodings xs) in
    elim (at_or_behind (eqb x.type FINGERPRINT) (find is_fingerprint (placed (offset + length (encoding x)) xs)) (record { offset = offset; type = x.type; value = x.value }) y found) [
      | inl here ↦
          let size : length x.value ≡ 4 = ap (λ (s : Shown). length s.value) here.1 ∙ four in
          let no : test (record { 0 = x.type }) ≡ false = ap (λ (n : ℕ). test (record { 0 = n })) (eqb-true x.type FINGERPRINT here.0) ∙ fails in
          let none : length (cond (test (record { 0 = x.type })) (record { 0 = x.type } ∷ others) others) ≡ length others = ap (λ (b : Bool). length (cond b (record { 0 = x.type } ∷ others) others)) no in
          omega (arith, none, takes_four test (offset + length (encoding x)) xs, whole, length-encoding-is x all.0, size)
      | inr behind ↦
          let step = kept_step (test (record { 0 = x.type })) (record { 0 = x.type }) others 8 (length (encodings xs)) (takes_eight test (offset + length (encoding x)) xs y fails all.1 behind.1 four) in
          omega (arith, step, whole, length-encoding x)
    ]

first_step : (b : Bool) (x : Shown) (xs : List Shown) (o : Option Shown) → slice_get xs 0 ≡ o → slice_get (cond b (x ∷ xs) xs) 0 ≡ cond b (Some x) o
first_step true x xs o e = refl
first_step false x xs o e = e

-- the first that a filter keeps is the first that is found
first_kept : (test : Shown → Bool) (xs : List Shown) → slice_get (filter test xs) 0 ≡ find test xs
first_kept test [] = refl
first_kept test (x ∷ xs) = first_step (test x) x (filter test xs) (find test xs) (first_kept test xs)

framed : (r : List ℕ) → parse_fault r ≡ None → frame_fault r ≡ None
unfolding parse_fault
framed r parses = (first_none (frame_fault r) (body_fault r) parses).0

-- the bytes of a FINGERPRINT, if it is there
abbrev tail_of : Option Shown → ℕ
tail_of o = if is_some o then 8 else 0

-- a request has a header, four bytes for each unknown type, and its FINGERPRINT
request_by : (supported : List AttributeType) (r : List ℕ) (o : Option Shown) → IsBytes r → parse_fault r ≡ None → find is_fingerprint (shown r) ≡ o → 20 + 4 * length (unknown_types supported r) + tail_of o ≤ length r
request_by supported r None bytes parses found =
    let frame = (framed r parses) in
    let s = shows r bytes frame in
    let attributes = shown_prefix (chain (drop 20 r)) in
    let same : length (unknown_types supported r) ≡ length (filter (is_unknown supported) (map type_of_shown (placed 20 attributes))) = ap (λ (xs : List Shown). length (filter (is_unknown supported) (map type_of_shown xs))) s.shown_is in
    omega (arith, same, takes_four (is_unknown supported) 20 attributes, (header_there r (frame_there r frame)).0, length-drop 20 r, ap length s.whole, length-append (encodings attributes) s.others)
request_by supported r (Some y) bytes parses found =
    let frame = (framed r parses) in
    let s = shows r bytes frame in
    let attributes = shown_prefix (chain (drop 20 r)) in
    let same : length (unknown_types supported r) ≡ length (filter (is_unknown supported) (map type_of_shown (placed 20 attributes))) = ap (λ (xs : List Shown). length (filter (is_unknown supported) (map type_of_shown xs))) s.shown_is in
    let four : length y.value ≡ 4 = ap length (right_value r y (shown_right r attributes y s parses found)) ∙ fingerprint_length r y.offset in
    let eight = takes_eight (is_unknown supported) 20 attributes y refl s.each (ap (find is_fingerprint) (sym s.shown_is) ∙ found) four in
    omega (arith, same, eight, (header_there r (frame_there r frame)).0, length-drop 20 r, ap length s.whole, length-append (encodings attributes) s.others)

pub request_is : (supported : List AttributeType) (r : List ℕ) → IsBytes r → parse_fault r ≡ None → 20 + 4 * length (unknown_types supported r) + tail_of (nth r FINGERPRINT 0) ≤ length r
request_is supported r bytes parses = request_by supported r (nth r FINGERPRINT 0) bytes parses (sym (first_kept is_fingerprint (shown r)))

-- so it shows few unknown types
pub few_types : (supported : List AttributeType) (r : List ℕ) → IsBytes r → parse_fault r ≡ None → length (unknown_types supported r) ≤ 16384
few_types supported r bytes parses = omega (arith, request_is supported r bytes parses, framed_length r (framed r parses), field_fits r bytes)

-- ---- What a reply has

pub short_value : (id : ℕ) (source : SocketAddr) → length (xored_value id source) ≤ 20
short_value id source =
    let ip = octets (socket_ip source) in
    omega (arith, length-map (zip ip (mask id)) (λ (pair : ℕ × ℕ). bit_xor pair.0 pair.1), length-zip ip (mask id))

-- the value of an address that was XORed is short
pub address_short : (id : ℕ) (source x : SocketAddr) → IsXored id source x → length (address_value x) ≤ 20
address_short id source x xored = omega (arith, ap length (xored_spelled id source x xored), short_value id source)

-- the attributes before the list take sixteen bytes, and 44
pub software_length : length (encodings (own_software ∷ [])) ≡ 16
software_length = omega (arith, length-canonical SOFTWARE (codes "stun-types") (lit< tt) (lit< tt), length-append (encoding own_software) [])

pub error_length : length (encodings (own_software ∷ error_attribute 420 (codes "Unknown Attributes") ∷ [])) ≡ 44
error_length =
    let error = error_attribute 420 (codes "Unknown Attributes") in
    omega (
      arith,
      length-canonical SOFTWARE (codes "stun-types") (lit< tt) (lit< tt),
      length-canonical ERROR_CODE (error_value 420 (codes "Unknown Attributes")) (lit< tt) (lit< tt),
      length-append (encoding own_software) (encoding error ++ []),
      length-append (encoding error) [],
    )

pub success_short : (source : SocketAddr) (r : List ℕ) → length (response Success r (success_reply source r)) ≤ 60
success_short source r =
    let value = xored_value (id_field r) source in
    let short = short_value (id_field r) source in
    let mapped = canonical XOR_MAPPED_ADDRESS value in
    omega (arith, short, length-message (response_type Success r) (id_field r) (success_reply source r), length-canonical XOR_MAPPED_ADDRESS value (lit< tt) (omega (arith, short)), length-canonical SOFTWARE (codes "stun-types") (lit< tt) (lit< tt), length-append (encoding mapped) (encoding own_software ++ []), length-append (encoding own_software) [])

pub unknown_short : (r : List ℕ) (x : AttributeType) (xs : List AttributeType) → length (x ∷ xs) ≤ 16384 → length (response ErrorClass r (unknown_reply (x ∷ xs))) ≡ 68 + padded_length (2 * length (x ∷ xs))
unknown_short r x xs few =
    let types = x ∷ xs in
    let error = canonical ERROR_CODE (error_value 420 (codes "Unknown Attributes")) in
    let listed = canonical UNKNOWN_ATTRIBUTES (types_encoding types) in
    let twos = length_of_twos types in
    omega (arith, twos, length-message (response_type ErrorClass r) (id_field r) (unknown_reply types), length-canonical SOFTWARE (codes "stun-types") (lit< tt) (lit< tt), length-canonical ERROR_CODE (error_value 420 (codes "Unknown Attributes")) (lit< tt) (lit< tt), length-canonical UNKNOWN_ATTRIBUTES (types_encoding types) (lit< tt) (omega (arith, twos, few)), length-append (encoding own_software) (encoding error ++ (encoding listed ++ [])), length-append (encoding error) (encoding listed ++ []), length-append (encoding listed) [], ap padded_length twos)

-- a reply without its FINGERPRINT, by the unknown types
abbrev pub reply_for : SocketAddr → List ℕ → List AttributeType → List ℕ
reply_for source r types =
    option_map_or (response ErrorClass r) (if eqb (length types) 0 then (if lacks [] r then Some bad_reply else None) else Some (unknown_reply types)) (response Success r (success_reply source r))

reply_unknown : (source : SocketAddr) (r : List ℕ) (x : AttributeType) (xs : List AttributeType) → length (reply_for source r (x ∷ xs)) ≡ length (response ErrorClass r (unknown_reply (x ∷ xs)))
reply_unknown source r x xs =
    ap (λ (b : Bool). length (option_map_or (response ErrorClass r) (if b then (if lacks [] r then Some bad_reply else None) else Some (unknown_reply (x ∷ xs))) (response Success r (success_reply source r))))
    (ne_eqb (length (x ∷ xs)) 0 (λ e. omega (arith, e)))

-- short enough for a request with so many unknown types
reply_short : (source : SocketAddr) (r : List ℕ) (types : List AttributeType) → length types ≤ 16384
    → (20 ≤ length (reply_for source r types)) × (length (reply_for source r types) ≤ 68 + 4 * length types) × (length (reply_for source r types) ≤ 60 + 12 * length types) × (length (reply_for source r types) ≤ 70 + 2 * length types)
reply_short source r [] few = let short = success_short source r in let long = length-message (response_type Success r) (id_field r) (success_reply source r) in (omega (arith, long), omega (arith, short), omega (arith, short), omega (arith, short))
reply_short source r (x ∷ xs) few = let is = reply_unknown source r x xs ∙ unknown_short r x xs few in (omega (arith, is), omega (arith, is), omega (arith, is), omega (arith, is))

pub unfinished_short : (supported : List AttributeType) (source : SocketAddr) (r : List ℕ) → length (unknown_types supported r) ≤ 16384 → (20 ≤ length (unfinished_reply supported source r)) × (length (unfinished_reply supported source r) ≤ 65547)
unfinished_short supported source r few = let short = reply_short source r (unknown_types supported r) few in (short.0, omega (arith, short.3, few))

finished_by : (o : Option Shown) (text : List ℕ) → 20 ≤ length text → length (if is_some o then appended text FINGERPRINT (fingerprint_value text (length text)) else text) ≡ length text + tail_of o
finished_by None text long = omega arith
finished_by (Some y) text long =
    let four = fingerprint_length text (length text) in
    omega (arith, appended_length text FINGERPRINT (fingerprint_value text (length text)) (omega (arith, long)) (lit< tt) (omega (arith, four)), four)

tail_is : (o : Option Shown) → (tail_of o ≡ 0) ⊎ (tail_of o ≡ 8)
tail_is None = inl refl
tail_is (Some y) = inr refl

-- ---- Both

bounds : (n tail text whole request : ℕ) → text ≤ 68 + 4 * n → text ≤ 60 + 12 * n → text ≤ 70 + 2 * n → whole ≡ text + tail → 20 + 4 * n + tail ≤ request → request ≤ 65555 → (tail ≡ 0) ⊎ (tail ≡ 8)
    → (whole ≤ request + 48) × (whole ≤ 3 * request) × (whole ≤ 32840)
bounds n tail text whole request a b c is has most (inl none) = (omega (arith, a, is, has), omega (arith, b, is, has), omega (arith, c, is, has, most, none))
bounds n tail text whole request a b c is has most (inr some) = (omega (arith, a, is, has), omega (arith, b, is, has, some), omega (arith, c, is, has, most, some))

by_method : (b : Bool) (text t : List ℕ) → cond b (Some text) None ≡ Some t → t ≡ text
by_method true text t e = cc
by_method false text t e = absurd cc

by_class : (class : MessageClass) (method : ℕ) (source : SocketAddr) (r t : List ℕ) → reply_by_type class method source r ≡ Some t → t ≡ binding_reply comprehended source r
by_class Request method source r t e = by_method (eqb method BINDING) (binding_reply comprehended source r) t e
by_class Indication method source r t e = absurd cc
by_class Success method source r t e = absurd cc
by_class ErrorClass method source r t e = absurd cc

-- a reply is one to a message that parses
pub reply_there : (source : SocketAddr) (r t : List ℕ) → reply source r ≡ Some t → (parse_fault r ≡ None) × (t ≡ binding_reply comprehended source r)
unfolding reply
reply_there source r t e = parsed (parse_fault r) refl e
  where
    parsed : (o : Option _) → parse_fault r ≡ o → cond (is_some o) None (reply_by_type (class_of (type_field r)) (method_of (type_field r)) source r) ≡ Some t → (parse_fault r ≡ None) × (t ≡ binding_reply comprehended source r)
    parsed None is made = (is, by_class (class_of (type_field r)) (method_of (type_field r)) source r t made)
    parsed (Some reported) is made = absurd cc

pub small_to_messages : (supported : List AttributeType) (source : SocketAddr) (r : List ℕ) → IsBytes r → parse_fault r ≡ None → IsSmall r (binding_reply supported source r)
small_to_messages supported source r bytes parses =
    let text = binding_reply supported source r in
    let types = unknown_types supported r in
    let has = request_is supported r bytes parses in
    let most : length r ≤ 65555 = omega (arith, framed_length r (framed r parses), field_fits r bytes) in
    let short = reply_short source r types (omega (arith, has, most)) in
    let whole : length text ≡ length (unfinished_reply supported source r) + tail_of (nth r FINGERPRINT 0) = finished_by (nth r FINGERPRINT 0) (unfinished_reply supported source r) short.0 in
    let b = bounds (length types) (tail_of (nth r FINGERPRINT 0)) (length (unfinished_reply supported source r)) (length text) (length r) short.1 short.2 short.3 whole has most (tail_is (nth r FINGERPRINT 0)) in
    record { growth = b.0; factor = b.1; whole = b.2 }

pub small : (source : SocketAddr) (r t : List ℕ) → IsBytes r → reply source r ≡ Some t → IsSmall r t
small source r t bytes made =
    let there = reply_there source r t made in
    subst (IsSmall r) (sym there.1) (small_to_messages comprehended source r bytes there.0)
