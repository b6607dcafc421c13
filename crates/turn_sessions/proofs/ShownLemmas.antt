-- What a written message shows: the attributes that it was written with, and those that end it.
use Rattle.std.proofs.Common.{◌≡◌, ℕ, ◌+◌, ◌^◌, ◌<◌, Bool, true, false, List, [], ◌∷◌, ◌++◌, length, map, Option, None, Some, refl, sym, ap, ◌∙◌, append_assoc, arith}
use Rattle.std.specs.Prelude.{◌==◌, filter, slice_get, if◌then◌else◌}
use Rattle.std.specs.Option.{option_map}
use Rattle.std.specs.List.{AllByRecursion, list_any}
use Rattle.std.proofs.lemmas.Bool.{or_from, or_parts}
use Rattle.std.proofs.lemmas.List.Folds.{list_any-append}
use Rattle.std.proofs.lemmas.List.{append-nil, length-append, map-append}
use Rattle.stun_grammar.specs.declared.attribute_type.AttributeType.{AttributeType}
use Rattle.stun_grammar.specs.declared.integrity_algorithm.IntegrityAlgorithm.{IntegrityAlgorithm}
use Rattle.stun_grammar.specs.Attributes.{Attribute, canonical, encoding, encodings, types}
use Rattle.stun_grammar.specs.AttributeTypes.{FINGERPRINT}
use Rattle.stun_grammar.specs.Chains.{Shown, placed}
use Rattle.stun_grammar.specs.Headers.{id_field, type_field}
use Rattle.stun_grammar.specs.Numbers.{padded_length}
use Rattle.stun_grammar.specs.Parsing.{parse_fault}
use Rattle.stun_grammar.specs.ScannedOrder.{has}
use Rattle.stun_grammar.specs.Showing.{shown}
use Rattle.stun_grammar.specs.Steps.{appended_by, finger, sign}
use Rattle.stun_grammar.specs.Verdicts.{type_of_algorithm}
use Rattle.stun_grammar.specs.Writing.{IsWritable, message_encoding}
use Rattle.stun_grammar.proofs.StepsLemmas.{none_writable}
use Rattle.stun_grammar.proofs.WritingLemmas.{id-message, length-canonical, parse-message, shown-message, type-message}
use Rattle.stun_types.specs.Replies.{is_unknown, unknown_types}
use Rattle.stun_authentication.specs.Identities.{value_of}
use Rattle.stun_authentication.specs.Writing.{finished, signed}
use Rattle.stun_exchanges.specs.Premises.{HasRoom}
use Rattle.stun_exchanges.proofs.LoginsWritableLemmas.{IsAdded, adds}

-- ---- What it is

-- d is a message that shows these attributes, and then others of these types
pub record IsRead (kind id : ℕ) (xs : List Attribute) (ends : List ℕ) (d : List ℕ) : Type 0 where
  pub parses : parse_fault d ≡ None
  pub type_is : type_field d ≡ kind
  pub id_is : id_field d ≡ id
  pub more : List Attribute
  pub ends_are : types more ≡ ends
  pub shows : shown d ≡ placed 20 (xs ++ more)

-- a message is the encoding of these attributes, and then of others of these types
pub record IsEnded (xs all : List Attribute) (ends : List ℕ) : Type 0 where
  pub more : List Attribute
  pub whole : all ≡ xs ++ more
  pub ends_are : types more ≡ ends

pub read_message : (kind id : ℕ) (xs all : List Attribute) (ends : List ℕ) → IsEnded xs all ends → IsWritable kind id all → IsRead kind id xs ends (message_encoding kind id all)
read_message kind id xs all ends e so = record {
  parses = parse-message kind id all so;
  type_is = type-message kind id all so.type_fits;
  id_is = id-message kind id all so.id_fits;
  more = e.more;
  ends_are = e.ends_are;
  shows = shown-message kind id all so ∙ ap (placed 20) e.whole;
}

-- an integrity attribute ends a message, and a FINGERPRINT, if there is one
abbrev pub ending_types : IntegrityAlgorithm → (fingerprint : Bool) → List ℕ
ending_types a false = type_of_algorithm a ∷ []
ending_types a true = type_of_algorithm a ∷ FINGERPRINT ∷ []

pub ended_signed : (fingerprint : Bool) (kind id : ℕ) (xs : List Attribute) (a : IntegrityAlgorithm) (key : List ℕ) → IsEnded xs (finished fingerprint kind id (signed kind id xs a key)) (ending_types a fingerprint)
unfolding appended_by
ended_signed false kind id xs a key = record { more = appended_by (sign a key) (message_encoding kind id xs) ∷ []; whole = refl; ends_are = refl }
ended_signed true kind id xs a key =
    let y = appended_by (sign a key) (message_encoding kind id xs) in
    let f = appended_by finger (message_encoding kind id (signed kind id xs a key)) in
    record { more = y ∷ f ∷ []; whole = append_assoc xs (y ∷ []) (f ∷ []); ends_are = refl }

-- without an integrity attribute
abbrev pub print_types : (fingerprint : Bool) → List ℕ
print_types false = []
print_types true = FINGERPRINT ∷ []

pub ended_open : (fingerprint : Bool) (kind id : ℕ) (xs : List Attribute) → IsEnded xs (finished fingerprint kind id xs) (print_types fingerprint)
unfolding appended_by
ended_open false kind id xs = record { more = []; whole = sym (append-nil xs); ends_are = refl }
ended_open true kind id xs = record { more = appended_by finger (message_encoding kind id xs) ∷ []; whole = refl; ends_are = refl }

-- other attributes may come between
pub ended_after : (xs ys all : List Attribute) (ends : List ℕ) → IsEnded (xs ++ ys) all ends → IsEnded xs all (types ys ++ ends)
ended_after xs ys all ends e = record {
  more = ys ++ e.more;
  whole = e.whole ∙ append_assoc xs ys e.more;
  ends_are = map-append (λ (x : Attribute). x.type) ys e.more ∙ ap (λ (l : List ℕ). types ys ++ l) e.ends_are;
}

-- ---- What it shows

-- the value of the first of these attributes that has a type
abbrev pub first_value : (type : ℕ) → List Attribute → Option (List ℕ)
first_value type [] = None
first_value type (x ∷ xs) = if x.type == type then Some x.value else first_value type xs

abbrev value_at : Option Shown → Option (List ℕ)
value_at shown = option_map (λ a. a.value) shown

one_more : (b : Bool) (s : Shown) (rest : List Shown) (o : Option (List ℕ)) → value_at (slice_get rest 0) ≡ o → value_at (slice_get (if b then s ∷ rest else rest) 0) ≡ (if b then Some s.value else o)
one_more true s rest o e = refl
one_more false s rest o e = e

first_placed : (type n : ℕ) (xs : List Attribute) → value_at (slice_get (filter (λ (a : Shown). a.type == type) (placed n xs)) 0) ≡ first_value type xs
unfolding placed
first_placed type n [] = refl
first_placed type n (x ∷ xs) =
    let m = n + length (encoding x) in
    one_more (x.type == type) (record { offset = n; type = x.type; value = x.value }) (filter (λ (a : Shown). a.type == type) (placed m xs)) (first_value type xs) (first_placed type m xs)

-- a type that isn't there has no value
pub no_value : (type : ℕ) (xs : List Attribute) → has type (types xs) ≡ false → first_value type xs ≡ None
no_value type [] e = refl
no_value type (x ∷ xs) e =
    let both = or_parts (x.type == type) (has type (types xs)) e in
    rw both.0 (no_value type xs both.1)

before_none : (type : ℕ) (xs more : List Attribute) → first_value type more ≡ None → first_value type (xs ++ more) ≡ first_value type xs
before_none type [] more e = e
before_none type (x ∷ xs) more e = ap (λ (o : Option (List ℕ)). if x.type == type then Some x.value else o) (before_none type xs more e)

-- a look-up finds the first of the attributes that was written with the type
pub value_is : (type kind id : ℕ) (xs : List Attribute) (ends d : List ℕ) → IsRead kind id xs ends d → has type ends ≡ false → value_of d type ≡ first_value type xs
value_is type kind id xs ends d r other =
    ap (λ (s : List Shown). value_at (slice_get (filter (λ (a : Shown). a.type == type) s) 0)) r.shows ∙ first_placed type 20 (xs ++ r.more)
    ∙ before_none type xs r.more (no_value type r.more (ap (has type) r.ends_are ∙ other))

-- all values of a type
abbrev pub values : (type : ℕ) → List Attribute → List (List ℕ)
values type [] = []
values type (x ∷ xs) = if x.type == type then x.value ∷ values type xs else values type xs

abbrev pub shown_values : (type : ℕ) → List Shown → List (List ℕ)
shown_values type attributes = map (λ (a : Shown). a.value) (filter (λ (a : Shown). a.type == type) attributes)

one_value : (b : Bool) (s : Shown) (rest : List Shown) (vs : List (List ℕ)) → map (λ (a : Shown). a.value) rest ≡ vs → map (λ (a : Shown). a.value) (if b then s ∷ rest else rest) ≡ (if b then s.value ∷ vs else vs)
one_value true s rest vs e = ap (λ (l : List (List ℕ)). s.value ∷ l) e
one_value false s rest vs e = e

values_placed : (type n : ℕ) (xs : List Attribute) → shown_values type (placed n xs) ≡ values type xs
unfolding placed
values_placed type n [] = refl
values_placed type n (x ∷ xs) =
    let m = n + length (encoding x) in
    one_value (x.type == type) (record { offset = n; type = x.type; value = x.value }) (filter (λ (a : Shown). a.type == type) (placed m xs)) (values type xs) (values_placed type m xs)

no_values : (type : ℕ) (xs : List Attribute) → has type (types xs) ≡ false → values type xs ≡ []
no_values type [] e = refl
no_values type (x ∷ xs) e =
    let both = or_parts (x.type == type) (has type (types xs)) e in
    rw both.0 (no_values type xs both.1)

values_before : (type : ℕ) (xs more : List Attribute) → values type more ≡ [] → values type (xs ++ more) ≡ values type xs
values_before type [] more e = e
values_before type (x ∷ xs) more e = ap (λ (vs : List (List ℕ)). if x.type == type then x.value ∷ vs else vs) (values_before type xs more e)

pub values_are : (type kind id : ℕ) (xs : List Attribute) (ends d : List ℕ) → IsRead kind id xs ends d → has type ends ≡ false → shown_values type (shown d) ≡ values type xs
values_are type kind id xs ends d r other =
    ap (shown_values type) r.shows ∙ values_placed type 20 (xs ++ r.more) ∙ values_before type xs r.more (no_values type r.more (ap (has type) r.ends_are ∙ other))

-- ---- All of it is understood

abbrev shown_type : Shown → AttributeType
shown_type a = record { 0 = a.type }

abbrev pub is_other : List AttributeType → ℕ → Bool
is_other understood t = is_unknown understood (record { 0 = t })

none_of : (understood : List AttributeType) (n : ℕ) (xs : List Attribute) → list_any (is_other understood) (types xs) ≡ false → filter (is_unknown understood) (map shown_type (placed n xs)) ≡ []
unfolding placed
none_of understood n [] e = refl
none_of understood n (x ∷ xs) e =
    let both = or_parts (is_other understood x.type) (list_any (is_other understood) (types xs)) e in
    rw both.0 (none_of understood (n + length (encoding x)) xs both.1)

pub none_unknown : (understood : List AttributeType) (kind id : ℕ) (xs : List Attribute) (ends d : List ℕ) → IsRead kind id xs ends d → list_any (is_other understood) (types xs) ≡ false → list_any (is_other understood) ends ≡ false
    → unknown_types understood d ≡ []
none_unknown understood kind id xs ends d r one two =
    let all : list_any (is_other understood) (types (xs ++ r.more)) ≡ false =
    ap (list_any (is_other understood)) (map-append (λ (x : Attribute). x.type) xs r.more) ∙ list_any-append (is_other understood) (types xs) (types r.more)
    ∙ or_from (list_any (is_other understood) (types xs)) (list_any (is_other understood) (types r.more)) one (ap (list_any (is_other understood)) r.ends_are ∙ two) in
    ap (λ (s : List Shown). filter (is_unknown understood) (map shown_type s)) r.shows ∙ none_of understood 20 (xs ++ r.more) all

-- ---- It may be written

pub one_size : (type : ℕ) (value : List ℕ) (xs : List Attribute) → type < 2 ^ 16 → length value < 2 ^ 16 → length (encodings (canonical type value ∷ xs)) ≡ 4 + padded_length (length value) + length (encodings xs)
one_size type value xs t v = omega (arith, length-canonical type value t v, length-append (encoding (canonical type value)) (encodings xs))

pub writable : (kind id : ℕ) (xs : List Attribute) → kind < 2 ^ 14 → id < 2 ^ 96 → AllByRecursion IsAdded xs → HasRoom kind id xs → IsWritable kind id xs
writable kind id xs k i all room = adds kind id [] xs (none_writable kind id k i) refl all room
