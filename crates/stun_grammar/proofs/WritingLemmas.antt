-- What is read of the encoding of a message.
use Rattle.std.proofs.Common.{◌≡◌, ℕ, ◌+◌, ◌-◌, ◌/◌, ◌%◌, ◌^◌, ◌<◌, true, false, eqb, List, [], ◌∷◌, ◌++◌, length, take, drop, None, refl, sym, ap, ◌∙◌, arith}
use Rattle.std.specs.Prelude.{slice_range, nat_eq, bit_xor}
use Rattle.std.specs.List.{AllByRecursion}
use Rattle.std.specs.Cmp.Lexicographic.{pointwise}
use Rattle.std.proofs.lemmas.Bool.{lt-ltb, eq-eqb}
use Rattle.std.proofs.lemmas.Bool.Decides.{Decides-eqb}
use Rattle.std.proofs.lemmas.Slice.Eq.{slice_eq-Decides}
use Rattle.std.proofs.lemmas.List.{length-append, length-replicate, take_at, append-nil}
use Rattle.std.proofs.lemmas.List.Concat.{flat_map-append}
use Rattle.stun_grammar.specs.Numbers.{be16, be32, be96, number, padded_length}
use Rattle.stun_grammar.specs.Headers.{magic_cookie, is_header, type_field, length_field, id_field}
use Rattle.stun_grammar.specs.Attributes.{Attribute, IsAttribute, canonical, encoding, encodings, types}
use Rattle.stun_grammar.specs.Chains.{chain, rest, fault, placed}
use Rattle.stun_grammar.specs.AttributeTypes.{FINGERPRINT}
use Rattle.stun_grammar.specs.ShownOrder.{in_order}
use Rattle.stun_grammar.specs.ScannedOrder.{in_any_order, has}
use Rattle.stun_grammar.specs.Showing.{frame_fault, shown, shown_prefix}
use Rattle.stun_grammar.specs.Parsing.{body_fault, parse_fault, scanned_prefix}
use Rattle.stun_grammar.specs.Fingerprints.{message_before, fingerprint_value, fingerprint_fault, first_fingerprint_fault}
use Rattle.stun_grammar.specs.Checksums.{crc}
use Rattle.stun_grammar.specs.Writing.{message_encoding, IsWritable}
use Rattle.stun_grammar.proofs.NumbersLemmas.{number-be16}
use Rattle.stun_grammar.proofs.AttributesLemmas.{length-encoding-is}
use Rattle.stun_grammar.proofs.ChainsLemmas.{chain-append, chain-nil, rest-none, first_attribute-nil}
use Rattle.stun_grammar.proofs.PrefixesLemmas.{longest_all}
use Rattle.stun_grammar.proofs.ShownOrderLemmas.{in_order-nil}
use Rattle.stun_grammar.proofs.ScannedOrderLemmas.{any_order-nil}
use Rattle.stun_grammar.proofs.ShownOrderCutLemmas.{in_any_order-from}
use Rattle.stun_grammar.proofs.HeadersLemmas.{is_header-long, header, frame-whole}
use Rattle.stun_grammar.proofs.ParsingLemmas.{parse-body, find_first}

-- ---- An attribute as it is written

pub canonical_is : (type : ℕ) (value : List ℕ) → type < 2 ^ 16 → length value < 2 ^ 16 → IsAttribute (canonical type value)
canonical_is type value t v = record {
  type = t;
  value = v;
  padding = omega (arith, length-replicate {A = ℕ} (padded_length (length value) - length value) 0);
}

pub length-canonical : (type : ℕ) (value : List ℕ) → type < 2 ^ 16 → length value < 2 ^ 16 → length (encoding (canonical type value)) ≡ 4 + padded_length (length value)
length-canonical type value t v = length-encoding-is (canonical type value) (canonical_is type value t v)

-- ---- The parts of a message's encoding

pub number-be96 : (n : ℕ) → n < 2 ^ 96 → number (be96 n) ≡ n
number-be96 n h = omega arith

pub length-message : (type id : ℕ) (attributes : List Attribute) → length (message_encoding type id attributes) ≡ 20 + length (encodings attributes)
unfolding message_encoding
length-message type id attributes = omega arith

pub behind-header : (type id : ℕ) (attributes : List Attribute) → drop 20 (message_encoding type id attributes) ≡ encodings attributes
unfolding message_encoding
behind-header type id attributes = refl

pub type-message : (type id : ℕ) (attributes : List Attribute) → type < 2 ^ 14 → type_field (message_encoding type id attributes) ≡ type
unfolding message_encoding
type-message type id attributes fits = number-be16 type (omega arith)

pub field-message : (type id : ℕ) (attributes : List Attribute) → length (encodings attributes) < 2 ^ 16 → length_field (message_encoding type id attributes) ≡ length (encodings attributes)
unfolding message_encoding
field-message type id attributes fits = number-be16 (length (encodings attributes)) fits

pub id-message : (type id : ℕ) (attributes : List Attribute) → id < 2 ^ 96 → id_field (message_encoding type id attributes) ≡ id
unfolding message_encoding
id-message type id attributes fits = number-be96 id fits

pub header-message : (type id : ℕ) (attributes : List Attribute) → type < 2 ^ 14 → is_header (message_encoding type id attributes) ≡ true
unfolding message_encoding
header-message type id attributes fits =
    is_header-long (message_encoding type id attributes) (omega (arith, length-message type id attributes)) ∙ rw (lt-ltb (type / 256 % 256) 64 (omega arith)) refl

pub frame-message : (type id : ℕ) (attributes : List Attribute) → type < 2 ^ 14 → length (encodings attributes) < 2 ^ 16 → frame_fault (message_encoding type id attributes) ≡ None
frame-message type id attributes t fits =
    let b = message_encoding type id attributes in
    let long = length-message type id attributes in
    frame-whole b (header b (omega (arith, long)) (header-message type id attributes t)) (omega (arith, long, field-message type id attributes fits))

-- ---- What is read of it

read : (type id : ℕ) (attributes : List Attribute) → AllByRecursion IsAttribute attributes → chain (drop 20 (message_encoding type id attributes)) ≡ attributes
read type id attributes each =
    ap chain (behind-header type id attributes ∙ sym (append-nil (encodings attributes))) ∙ (chain-append attributes [] each).chain_is ∙ ap (λ (xs : List Attribute). attributes ++ xs) chain-nil ∙ append-nil attributes

left : (type id : ℕ) (attributes : List Attribute) → AllByRecursion IsAttribute attributes → rest (drop 20 (message_encoding type id attributes)) ≡ []
left type id attributes each =
    ap rest (behind-header type id attributes ∙ sym (append-nil (encodings attributes))) ∙ (chain-append attributes [] each).rest_is ∙ rest-none [] first_attribute-nil

short : (type id : ℕ) (attributes : List Attribute) → IsWritable type id attributes → length (encodings attributes) < 2 ^ 16
short type id attributes w = omega (arith, w.length_fits, length-message type id attributes)

pub shown-message : (type id : ℕ) (attributes : List Attribute) → IsWritable type id attributes → shown (message_encoding type id attributes) ≡ placed 20 attributes
unfolding shown
shown-message type id attributes w =
    let prefix : shown_prefix (chain (drop 20 (message_encoding type id attributes))) ≡ attributes =
    ap shown_prefix (read type id attributes w.each) ∙ longest_all (λ q. in_order (types q)) attributes in_order-nil w.ordered in
    rw (frame-message type id attributes w.type_fits (short type id attributes w)) (ap (placed 20) prefix)

pub parse-message : (type id : ℕ) (attributes : List Attribute) → IsWritable type id attributes → parse_fault (message_encoding type id attributes) ≡ None
unfolding body_fault fault
parse-message type id attributes w =
    let scanned : scanned_prefix attributes ≡ attributes = longest_all (λ q. in_any_order (types q)) attributes any_order-nil (in_any_order-from (types attributes) w.ordered) in
    let same : eqb (length attributes) (length attributes) ≡ true = eq-eqb _ _ refl in
    parse-body (message_encoding type id attributes) (frame-message type id attributes w.type_fits (short type id attributes w))
    ∙ rw (read type id attributes w.each, scanned, w.fingerprint, same, left type id attributes w.each) refl

-- ---- A FINGERPRINT that was computed over the message before it

back : ℕ → List Attribute → List ℕ
back id before = be32 magic_cookie ++ (be96 id ++ encodings before)

prefix_back : (type id : ℕ) (before behind : List Attribute) → slice_range (message_encoding type id (before ++ behind)) 4 (20 + length (encodings before)) ≡ back id before
unfolding message_encoding back
prefix_back type id before behind =
    let split : encodings (before ++ behind) ≡ encodings before ++ encodings behind = flat_map-append encoding before behind in
    let whole : be32 magic_cookie ++ (be96 id ++ encodings (before ++ behind)) ≡ (be32 magic_cookie ++ (be96 id ++ encodings before)) ++ encodings behind =
    ap (λ (x : List ℕ). be32 magic_cookie ++ (be96 id ++ x)) split in
    let many : 20 + length (encodings before) - 4 ≡ length (be32 magic_cookie ++ (be96 id ++ encodings before)) = omega arith in
    ap (take (20 + length (encodings before) - 4)) whole ∙ ap (λ (k : ℕ). take k ((be32 magic_cookie ++ (be96 id ++ encodings before)) ++ encodings behind)) many ∙ take_at (be32 magic_cookie ++ (be96 id ++ encodings before)) (encodings behind) _ refl

-- what a FINGERPRINT or an HMAC is computed over does not depend on what is appended later
pub encoding_same : (type id : ℕ) (before behind : List Attribute) (size : ℕ)
    → message_before (message_encoding type id (before ++ behind)) (20 + length (encodings before)) size ≡ message_before (message_encoding type id before) (length (message_encoding type id before)) size
unfolding message_before message_encoding
encoding_same type id before behind size =
    let o : ℕ = 20 + length (encodings before) in
    let same : length (message_encoding type id before) ≡ o = length-message type id before in
    let alone : slice_range (message_encoding type id before) 4 o ≡ back id before = ap (λ (xs : List Attribute). slice_range (message_encoding type id xs) 4 o) (sym (append-nil before)) ∙ prefix_back type id before [] in
    rw (same, prefix_back type id before behind, alone) refl

fingerprint_same : (type id : ℕ) (before behind : List Attribute)
    → fingerprint_value (message_encoding type id (before ++ behind)) (20 + length (encodings before)) ≡ fingerprint_value (message_encoding type id before) (length (message_encoding type id before))
unfolding fingerprint_value
fingerprint_same type id before behind = ap (λ (c : List ℕ). be32 (bit_xor (crc c) 0x5354554E)) (encoding_same type id before behind 8)

pub right_passes : (d : List ℕ) (offset : ℕ) → fingerprint_fault d offset (fingerprint_value d offset) ≡ None
unfolding fingerprint_fault fingerprint_value
right_passes d offset =
    let value = be32 (bit_xor (crc (message_before d offset 8)) 0x5354554E) in
    let same : pointwise nat_eq value value ≡ true = (slice_eq-Decides Decides-eqb value value _ refl).1 refl in
    rw same refl

pub right_where_computed : (type id : ℕ) (before behind : List Attribute) → has FINGERPRINT (types before) ≡ false
    → (let a = canonical FINGERPRINT (fingerprint_value (message_encoding type id before) (length (message_encoding type id before))) in
    first_fingerprint_fault (message_encoding type id (before ++ a ∷ behind)) (placed 20 (before ++ a ∷ behind)) ≡ None)
right_where_computed type id before behind none =
    let a = canonical FINGERPRINT (fingerprint_value (message_encoding type id before) (length (message_encoding type id before))) in
    let d = message_encoding type id (before ++ a ∷ behind) in
    let o : ℕ = 20 + length (encodings before) in
    find_first d before behind a refl none ∙ ap (fingerprint_fault d o) (sym (fingerprint_same type id before (a ∷ behind))) ∙ right_passes d o

-- ---- One more attribute

pub message-more : (type id : ℕ) (attributes : List Attribute) (a : Attribute)
    → (let old = message_encoding type id attributes in
    message_encoding type id (attributes ++ a ∷ []) ≡ take 2 old ++ (be16 (length (encodings attributes) + length (encoding a)) ++ (drop 4 old ++ encoding a)))
unfolding message_encoding
message-more type id attributes a =
    let joined : encodings (attributes ++ a ∷ []) ≡ encodings attributes ++ encoding a = flat_map-append encoding attributes (a ∷ []) ∙ ap (λ (x : List ℕ). encodings attributes ++ x) (append-nil (encoding a)) in
    rw (joined, length-append (encodings attributes) (encoding a)) refl
