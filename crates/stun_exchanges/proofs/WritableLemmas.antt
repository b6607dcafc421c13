-- The replies may be written.
use Rattle.std.proofs.Common.{◌≡◌, ℕ, zero, suc, ◌+◌, ◌*◌, ◌^◌, ◌<◌, ◌≤◌, Bool, true, List, [], ◌∷◌, ◌++◌, length, take, drop, Option, Some, None, inl, inr, refl, sym, ap, subst, lit<, arith}
use Rattle.std.specs.Prelude.{◌⊎◌, fold, is_some, codes, if◌then◌else◌}
use Rattle.std.specs.declared.net.socket_addr.SocketAddr.{SocketAddr}
use Rattle.std.proofs.lemmas.Bool.{le-ltb}
use Rattle.std.proofs.lemmas.List.{append-nil, length-append, length-take, length-drop}
use Rattle.stun_grammar.specs.declared.attribute_type.AttributeType.{AttributeType}
use Rattle.stun_grammar.specs.Numbers.{IsBytes}
use Rattle.stun_grammar.specs.Headers.{id_field}
use Rattle.stun_grammar.specs.Attributes.{Attribute, canonical, encoding, encodings, types, attribute_length}
use Rattle.stun_grammar.specs.AttributeTypes.{FINGERPRINT, XOR_MAPPED_ADDRESS, SOFTWARE, ERROR_CODE, UNKNOWN_ATTRIBUTES}
use Rattle.stun_grammar.specs.Fingerprints.{fingerprint_value}
use Rattle.stun_grammar.specs.Parsing.{parse_fault}
use Rattle.stun_grammar.specs.Writing.{message_encoding, IsWritable}
use Rattle.stun_grammar.specs.Steps.{Step, add, finger, value_length, appended_by}
use Rattle.stun_grammar.specs.Sending.{MayFollow}
use Rattle.stun_grammar.specs.Adding.{grown_length, appended, order_refusal, room_refusal, add_refusal}
use Rattle.stun_grammar.proofs.AddingLemmas.{message_more, fingerprint_length}
use Rattle.stun_grammar.proofs.HeadersLemmas.{header_there}
use Rattle.stun_grammar.proofs.NumbersLemmas.{IsBytes-take, IsBytes-drop}
use Rattle.stun_grammar.proofs.ParsingLemmas.{parsed_header}
use Rattle.stun_grammar.proofs.StepsLemmas.{step_writable, none_writable}
use Rattle.stun_grammar.proofs.WritingLemmas.{length-message, length-canonical}
use Rattle.stun_base.specs.declared.message_class.MessageClass.TheVariants.{Success, Error as ErrorClass}
use Rattle.stun_values.specs.ErrorValues.{error_value}
use Rattle.stun_values.specs.TypeLists.{types_encoding}
use Rattle.stun_values.proofs.ListsLemmas.{length_of_twos}
use Rattle.stun_types.specs.Replies.{response_type, own_software, unknown_reply}
use Rattle.stun_server.specs.Reply.{success_reply}
use Rattle.stun_values.specs.Addresses.{xored_value}
use Rattle.stun_server.proofs.SizesLemmas.{software_length, error_length, short_value}

-- ---- A transaction ID has ninety-six bits

grow : ℕ → ℕ → ℕ
grow zero m = m
grow (suc n) m = grow n (256 * m)

below : (high m : ℕ) (b : List ℕ) → IsBytes b → high < m → fold (λ (h : ℕ) (byte : ℕ). 256 * h + byte) high b < grow (length b) m
unfolding grow
below high m [] bytes small = small
below high m (x ∷ b) bytes small = below (256 * high + x) (256 * m) b bytes.1 (omega (arith, small, bytes.0))

pub id_small : (r : List ℕ) → IsBytes r → parse_fault r ≡ None → id_field r < 2 ^ 96
unfolding grow
id_small r bytes parses =
    let long = (header_there r (parsed_header r parses)).0 in
    let twelve : length (take 12 (drop 8 r)) ≡ 12 = omega (arith, long, length-take 12 (drop 8 r), length-drop 8 r) in
    subst (λ (n : ℕ). id_field r < grow n 1) twelve (below 0 1 (take 12 (drop 8 r)) (IsBytes-take 12 (drop 8 r) (IsBytes-drop 8 r bytes)) (lit< tt))

-- ---- Step by step

-- a writer with no bound refuses no step that nothing blocks, if the message is short enough
no_refusal : (step : Step) (types : List ℕ) (len : ℕ) → order_refusal step types ≡ None → 20 ≤ len → grown_length len (value_length step) ≤ 65555 → add_refusal step types len None ≡ None
unfolding room_refusal
no_refusal step types len none header short = rw (none, le-ltb len 20 header, le-ltb 65555 (grown_length len (value_length step)) short) refl

-- a step that no attribute before it blocks may follow, if the message stays short enough
follows : (type id : ℕ) (before : List Attribute) (step : Step) → order_refusal step (types before) ≡ None → length (encodings before) + attribute_length (value_length step) ≤ 65535
    → MayFollow type id before step
follows type id before step none short =
    let size = length-message type id before in
    no_refusal step (types before) (length (message_encoding type id before)) none (omega (arith, size)) (omega (arith, size, short))

-- a reply without its FINGERPRINT may be written, and one may follow
pub record IsUnfinished (type id : ℕ) (attributes : List Attribute) : Type 0 where
  pub writable : IsWritable type id attributes
  pub unbarred : order_refusal finger (types attributes) ≡ None
  pub short : length (encodings attributes) ≤ 65527

abbrev pub mapped_to : SocketAddr → List ℕ → Attribute
mapped_to source r = canonical XOR_MAPPED_ADDRESS (xored_value (id_field r) source)

pub success_unfinished : (source : SocketAddr) (r : List ℕ) → response_type Success r < 2 ^ 14 → id_field r < 2 ^ 96 → IsUnfinished (response_type Success r) (id_field r) (success_reply source r)
unfolding order_refusal appended_by
success_unfinished source r type_fits id_fits =
    let kind = response_type Success r in
    let id = id_field r in
    let value = xored_value id source in
    let short = short_value id source in
    let mapped = canonical XOR_MAPPED_ADDRESS value in
    let size : length (encodings (mapped ∷ [])) ≤ 24 = omega (arith, short, length-canonical XOR_MAPPED_ADDRESS value (lit< tt) (omega (arith, short)), length-append (encoding mapped) []) in
    let first = step_writable kind id [] (add XOR_MAPPED_ADDRESS value) (none_writable kind id type_fits id_fits) (follows kind id [] (add XOR_MAPPED_ADDRESS value) refl (omega (arith, short))) (lit< tt, omega (arith, short)) (λ e. omega (arith, e), λ e. omega (arith, e), λ e. omega (arith, e)) in
    record {
      writable = step_writable kind id (mapped ∷ []) (add SOFTWARE (codes "stun-types")) first (follows kind id (mapped ∷ []) (add SOFTWARE (codes "stun-types")) refl (omega (arith, size))) (lit< tt, lit< tt) (λ e. omega (arith, e), λ e. omega (arith, e), λ e. omega (arith, e));
      unbarred = refl;
      short = omega (arith, size, length-canonical SOFTWARE (codes "stun-types") (lit< tt) (lit< tt), length-append (encoding mapped) (encoding own_software ++ []), length-append (encoding mapped) [], length-append (encoding own_software) []);
    }

pub error_unfinished : (r : List ℕ) (x : AttributeType) (xs : List AttributeType) → length (x ∷ xs) ≤ 16384 → response_type ErrorClass r < 2 ^ 14 → id_field r < 2 ^ 96
    → IsUnfinished (response_type ErrorClass r) (id_field r) (unknown_reply (x ∷ xs))
unfolding order_refusal appended_by
error_unfinished r x xs few type_fits id_fits =
    let kind = response_type ErrorClass r in
    let id = id_field r in
    let code = error_value 420 (codes "Unknown Attributes") in
    let value = types_encoding (x ∷ xs) in
    let error = canonical ERROR_CODE code in
    let listed = canonical UNKNOWN_ATTRIBUTES value in
    let twos = length_of_twos (x ∷ xs) in
    let small : length value < 2 ^ 16 = omega (arith, twos, few) in
    let first = step_writable kind id [] (add SOFTWARE (codes "stun-types")) (none_writable kind id type_fits id_fits) (follows kind id [] (add SOFTWARE (codes "stun-types")) refl (omega arith)) (lit< tt, lit< tt) (λ e. omega (arith, e), λ e. omega (arith, e), λ e. omega (arith, e)) in
    let second = step_writable kind id (own_software ∷ []) (add ERROR_CODE code) first (follows kind id (own_software ∷ []) (add ERROR_CODE code) refl (omega (arith, software_length))) (lit< tt, lit< tt) (λ e. omega (arith, e), λ e. omega (arith, e), λ e. omega (arith, e)) in
    record {
      writable = step_writable kind id (own_software ∷ error ∷ []) (add UNKNOWN_ATTRIBUTES value) second (follows kind id (own_software ∷ error ∷ []) (add UNKNOWN_ATTRIBUTES value) refl (omega (arith, error_length, twos, few))) (lit< tt, small) (λ e. omega (arith, e), λ e. omega (arith, e), λ e. omega (arith, e));
      unbarred = refl;
      short = omega (
        arith,
        twos,
        few,
        error_length,
        length-canonical UNKNOWN_ATTRIBUTES value (lit< tt) small,
        length-append (encoding own_software) (encoding error ++ []),
        length-append (encoding error) [],
        length-append (encoding own_software) (encoding error ++ (encoding listed ++ [])),
        length-append (encoding error) (encoding listed ++ []),
        length-append (encoding listed) [],
      );
    }

-- ---- With its FINGERPRINT, if it has one

-- a text is written with these attributes, and with a FINGERPRINT or nothing after them
pub record IsFinished (type id : ℕ) (attributes : List Attribute) (wanted : Bool)
    (text : List ℕ) : Type 0 where
  pub more : List Attribute
  pub text_is : text ≡ message_encoding type id (attributes ++ more)
  pub writable : IsWritable type id (attributes ++ more)
  pub last : (more ≡ []) ⊎ ((value : List ℕ) × (more ≡ canonical FINGERPRINT value ∷ []))
  pub printed : wanted ≡ true → (value : List ℕ) × (more ≡ canonical FINGERPRINT value ∷ [])

pub finish : {A : Type 0} (shown : Option A) (type id : ℕ) (attributes : List Attribute) → IsUnfinished type id attributes
    → IsFinished type id attributes (is_some shown) (if is_some shown then appended (message_encoding type id attributes) FINGERPRINT (fingerprint_value (message_encoding type id attributes) (length (message_encoding type id attributes))) else message_encoding type id attributes)
unfolding appended_by
finish None type id attributes so = record {
  more = [];
  text_is = ap (message_encoding type id) (sym (append-nil attributes));
  writable = subst (IsWritable type id) (sym (append-nil attributes)) so.writable;
  last = inl refl;
  printed = λ e. absurd cc;
}
finish (Some x) type id attributes so =
    let text = message_encoding type id attributes in
    let value = fingerprint_value text (length text) in
    let four = fingerprint_length text (length text) in
    record {
      more = canonical FINGERPRINT value ∷ [];
      text_is = message_more type id attributes FINGERPRINT value (lit< tt) (omega (arith, four));
      writable = step_writable type id attributes finger so.writable (follows type id attributes finger so.unbarred (omega (arith, so.short))) tt tt;
      last = inr (value, refl);
      printed = λ e. (value, refl);
    }
