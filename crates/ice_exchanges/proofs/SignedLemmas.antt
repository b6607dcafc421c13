-- What is shown of a message that is signed by MESSAGE-INTEGRITY and has a FINGERPRINT.
use Rattle.std.proofs.Common.{◌≡◌, ℕ, ◌+◌, ◌^◌, ◌<◌, ◌≤◌, Bool, true, false, List, [], ◌∷◌, ◌++◌, length, map, Option, None, Some, refl, ap, ◌∙◌, append_assoc, arith}
use Rattle.std.specs.Prelude.{◌&&◌, ◌==◌, filter, is_some, not, slice_get, if◌then◌else◌}
use Rattle.std.specs.Option.{option_map}
use Rattle.std.specs.List.{AllByRecursion, list_any}
use Rattle.std.proofs.lemmas.Bool.{eq-eqb, or_from, or_parts}
use Rattle.std.proofs.lemmas.List.Folds.{list_any-append}
use Rattle.std.proofs.lemmas.List.{length-append, map-append}
use Rattle.stun_grammar.specs.declared.attribute_type.AttributeType.{AttributeType}
use Rattle.stun_grammar.specs.declared.error.StunParseError.{StunParseError}
use Rattle.stun_grammar.specs.declared.integrity_algorithm.IntegrityAlgorithm.TheVariants.{Sha1}
use Rattle.stun_grammar.specs.Attributes.{Attribute, canonical, encoding, encodings, types}
use Rattle.stun_grammar.specs.AttributeTypes.{FINGERPRINT, MESSAGE_INTEGRITY, is_ending}
use Rattle.stun_grammar.specs.Chains.{Shown, placed}
use Rattle.stun_grammar.specs.Headers.{id_field, type_field}
use Rattle.stun_grammar.specs.Numbers.{padded_length}
use Rattle.stun_grammar.specs.Parsing.{parse_fault}
use Rattle.stun_grammar.specs.ScannedOrder.{has}
use Rattle.stun_grammar.specs.Showing.{shown}
use Rattle.stun_grammar.specs.Steps.{appended_by, finger, sign}
use Rattle.stun_grammar.specs.Writing.{message_encoding}
use Rattle.stun_grammar.proofs.StepsLemmas.{length-with_step, none_writable}
use Rattle.stun_grammar.proofs.WritingLemmas.{id-message, length-canonical, length-message, parse-message, shown-message, type-message}
use Rattle.stun_types.specs.Replies.{is_unknown, unknown_types}
use Rattle.stun_authentication.specs.Identities.{value_of}
use Rattle.stun_authentication.specs.Policies.{is_fingerprinted}
use Rattle.stun_authentication.specs.Writing.{finished, signed, signed_reply}
use Rattle.stun_exchanges.specs.Premises.{HasRoom, IsOpen}
use Rattle.stun_exchanges.proofs.EndedLemmas.{IsFirst, no_print, print_taken}
use Rattle.stun_exchanges.proofs.LoginsWritableLemmas.{IsAdded, adds}
use Rattle.stun_exchanges.proofs.ShortTermLemmas.{once_writable, signed_unprinted}
use Rattle.ice_checks.specs.Judging.{is_message}

-- ---- The first attribute of a type

-- which attribute a look-up finds
first_at : (n : ℕ) (before behind : List Attribute) (a : Attribute) → has a.type (types before) ≡ false
    → slice_get (filter (λ (s : Shown). s.type == a.type) (placed n (before ++ a ∷ behind))) 0 ≡ Some (record { offset = n + length (encodings before); type = a.type; value = a.value })
unfolding placed
first_at n [] behind a none = rw (eq-eqb a.type a.type refl) (ap (λ (m : ℕ). Some (record { offset = m; type = a.type; value = a.value })) (omega arith))
first_at n (x ∷ before) behind a none =
    let both = or_parts (x.type == a.type) (has a.type (types before)) none in
    rw both.0
    (first_at (n + length (encoding x)) before behind a both.1
    ∙ ap (λ (m : ℕ). Some (record { offset = m; type = a.type; value = a.value })) (omega (arith, length-append (encoding x) (encodings before))))

pub first : IsFirst
first d before behind a shows none = ap (λ (s : List Shown). slice_get (filter (λ (x : Shown). x.type == a.type) s) 0) shows ∙ first_at 20 before behind a none

-- ---- It is read

-- d is a message that shows these attributes, and then the two that end it
pub record IsRead (kind id : ℕ) (xs : List Attribute) (d : List ℕ) : Type 0 where
  pub message : is_message d ≡ true
  pub printed : is_fingerprinted d ≡ true
  pub parses : parse_fault d ≡ None
  pub type_is : type_field d ≡ kind
  pub id_is : id_field d ≡ id
  pub more : List Attribute
  pub ends : types more ≡ MESSAGE_INTEGRITY ∷ FINGERPRINT ∷ []
  pub shows : shown d ≡ placed 20 (xs ++ more)

parsed : (o : Option StunParseError) (b : Bool) → o ≡ None → b ≡ true → (not (is_some o) && b) ≡ true
parsed None true e f = refl
parsed None false e f = f
parsed (Some x) b e f = absurd cc

pub read_signed : (kind id : ℕ) (xs : List Attribute) (key : List ℕ) → IsOpen kind id xs → HasRoom kind id (finished true kind id (signed kind id xs Sha1 key)) → IsRead kind id xs (signed_reply true kind id xs Sha1 key)
unfolding appended_by
read_signed kind id xs key plain room =
    let one = signed kind id xs Sha1 key in
    let all = finished true kind id one in
    let so = once_writable true kind id xs Sha1 key plain.writable plain.ordinary room in
    let y = appended_by (sign Sha1 key) (message_encoding kind id xs) in
    let f = appended_by finger (message_encoding kind id one) in
    let parses = parse-message kind id all so in
    let printed = print_taken first true true kind id one so (signed_unprinted kind id xs Sha1 key (no_print (types xs) plain.ordinary)) (λ e. refl) in
    record {
      message = parsed (parse_fault (message_encoding kind id all)) (is_fingerprinted (message_encoding kind id all)) parses printed;
      printed = printed;
      parses = parses;
      type_is = type-message kind id all so.type_fits;
      id_is = id-message kind id all so.id_fits;
      more = y ∷ f ∷ [];
      ends = refl;
      shows = shown-message kind id all so ∙ ap (placed 20) (append_assoc xs (y ∷ []) (f ∷ []));
    }

-- ---- What it shows

-- the value of the first of these attributes that has a type
abbrev pub first_value : (type : ℕ) → List Attribute → Option (List ℕ)
first_value type [] = None
first_value type (x ∷ xs) = if x.type == type then Some x.value else first_value type xs

abbrev value_at : Option Shown → Option (List ℕ)
value_at shown = option_map (λ a. a.value) shown

one_more : (b : Bool) (s : Shown) (rest : List Shown) (o : Option (List ℕ)) → value_at (slice_get rest 0) ≡ o → value_at (slice_get (if b then s ∷ rest else rest) 0) ≡ (if b then Some s.value else o)
one_more true s rest o e = refl
one_more false s rest o e = e

first_placed : (type n : ℕ) (xs : List Attribute) → value_at (slice_get (filter (λ (a : Shown). a.type == type) (placed n xs)) 0) ≡ first_value type xs
unfolding placed
first_placed type n [] = refl
first_placed type n (x ∷ xs) =
    let m = n + length (encoding x) in
    one_more (x.type == type) (record { offset = n; type = x.type; value = x.value }) (filter (λ (a : Shown). a.type == type) (placed m xs)) (first_value type xs) (first_placed type m xs)

-- a type that isn't there has no value
no_value : (type : ℕ) (xs : List Attribute) → has type (types xs) ≡ false → first_value type xs ≡ None
no_value type [] e = refl
no_value type (x ∷ xs) e =
    let both = or_parts (x.type == type) (has type (types xs)) e in
    rw both.0 (no_value type xs both.1)

before_none : (type : ℕ) (xs more : List Attribute) → first_value type more ≡ None → first_value type (xs ++ more) ≡ first_value type xs
before_none type [] more e = e
before_none type (x ∷ xs) more e = ap (λ (o : Option (List ℕ)). if x.type == type then Some x.value else o) (before_none type xs more e)

-- a look-up finds the first of the attributes that was written with the type
pub value_is : (type : ℕ) (d : List ℕ) (xs more : List Attribute) → shown d ≡ placed 20 (xs ++ more) → types more ≡ MESSAGE_INTEGRITY ∷ FINGERPRINT ∷ [] → has type (MESSAGE_INTEGRITY ∷ FINGERPRINT ∷ []) ≡ false
    → value_of d type ≡ first_value type xs
value_is type d xs more shows ends other =
    ap (λ (s : List Shown). value_at (slice_get (filter (λ (a : Shown). a.type == type) s) 0)) shows ∙ first_placed type 20 (xs ++ more)
    ∙ before_none type xs more (no_value type more (ap (has type) ends ∙ other))

-- ---- All of it is understood

abbrev shown_type : Shown → AttributeType
shown_type a = record { 0 = a.type }

abbrev pub is_other : List AttributeType → ℕ → Bool
is_other understood t = is_unknown understood (record { 0 = t })

none_of : (understood : List AttributeType) (n : ℕ) (xs : List Attribute) → list_any (is_other understood) (types xs) ≡ false → filter (is_unknown understood) (map shown_type (placed n xs)) ≡ []
unfolding placed
none_of understood n [] e = refl
none_of understood n (x ∷ xs) e =
    let both = or_parts (is_other understood x.type) (list_any (is_other understood) (types xs)) e in
    rw both.0 (none_of understood (n + length (encoding x)) xs both.1)

pub none_unknown : (understood : List AttributeType) (d : List ℕ) (xs more : List Attribute) → shown d ≡ placed 20 (xs ++ more) → types more ≡ MESSAGE_INTEGRITY ∷ FINGERPRINT ∷ [] → list_any (is_other understood) (types xs) ≡ false
    → list_any (is_other understood) (MESSAGE_INTEGRITY ∷ FINGERPRINT ∷ []) ≡ false → unknown_types understood d ≡ []
none_unknown understood d xs more shows ends one two =
    let all : list_any (is_other understood) (types (xs ++ more)) ≡ false =
    ap (list_any (is_other understood)) (map-append (λ (x : Attribute). x.type) xs more) ∙ list_any-append (is_other understood) (types xs) (types more)
    ∙ or_from (list_any (is_other understood) (types xs)) (list_any (is_other understood) (types more)) one (ap (list_any (is_other understood)) ends ∙ two) in
    ap (λ (s : List Shown). filter (is_unknown understood) (map shown_type s)) shows ∙ none_of understood 20 (xs ++ more) all

-- ---- It may be written

pub one_size : (type : ℕ) (value : List ℕ) (xs : List Attribute) → type < 2 ^ 16 → length value < 2 ^ 16 → length (encodings (canonical type value ∷ xs)) ≡ 4 + padded_length (length value) + length (encodings xs)
one_size type value xs t v = omega (arith, length-canonical type value t v, length-append (encoding (canonical type value)) (encodings xs))

-- attributes of at most 1,400 bytes leave room for those that end the message
pub has_room : (kind id : ℕ) (xs : List Attribute) (key : List ℕ) → length (encodings xs) ≤ 1_400 → HasRoom kind id (finished true kind id (signed kind id xs Sha1 key))
has_room kind id xs key short =
    omega (arith, short, length-message kind id xs, length-with_step kind id xs (sign Sha1 key) tt, length-with_step kind id (signed kind id xs Sha1 key) finger tt)

pub open_of : (kind id : ℕ) (xs : List Attribute) → kind < 2 ^ 14 → id < 2 ^ 96 → AllByRecursion IsAdded xs → list_any is_ending (types xs) ≡ false → length (encodings xs) ≤ 1_400 → IsOpen kind id xs
open_of kind id xs k i all none short = record {
  writable = adds kind id [] xs (none_writable kind id k i) refl all (omega (arith, short, length-message kind id xs));
  ordinary = none;
}
