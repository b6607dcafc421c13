-- The attributes that a message had when a writer resumed it.
use Rattle.std.proofs.Common.{◌≡◌, ℕ, ◌+◌, ◌-◌, ◌≤◌, min, ◌||◌, ◌&&◌, not, Bool, true, false, List, [], ◌∷◌, ◌++◌, length, take, drop, Option, Some, None, refl, sym, ap, ◌∙◌, inl, inr, arith}
use Rattle.std.specs.Prelude.{filter, is_some, ◌==◌, if◌then◌else◌}
use Rattle.std.specs.List.{list_any, list_all}
use Rattle.std.specs.Option.{option_map, option_or}
use Rattle.std.proofs.Math.Bool.{or_assoc, or-false}
use Rattle.std.proofs.Math.Seq.{take-nil}
use Rattle.std.proofs.lemmas.Bool.{cases_Bool, cases_eq, cases_lt, eq-eqb, ne_eqb, not-true, and_parts, or_parts}
use Rattle.std.proofs.lemmas.List.{length-append, length-drop, drop-drop, drop-append-le, take-append-le, take_all, take_min, nil_from_length}
use Rattle.std.proofs.lemmas.List.Folds.{find-append}
use Rattle.stun_grammar.specs.declared.attribute_type.AttributeType.{AttributeType}
use Rattle.stun_grammar.specs.AttributeTypes.{is_ending}
use Rattle.stun_grammar.specs.Attributes.{attribute_encoding, encoding, encodings, types}
use Rattle.stun_grammar.specs.Chains.{first_attribute, chain, rest}
use Rattle.stun_grammar.specs.ScannedOrder.{has}
use Rattle.stun_grammar.specs.Adding.{appended, first_of, numbers}
use Rattle.stun_grammar.proofs.AttributesLemmas.{length-encoding}
use Rattle.stun_grammar.proofs.ChainsLemmas.{chain-none, chain-some, rest-none, rest-some, chain-nil}
use Rattle.stun_attributes.specs.declared.wire.raw.RawAttribute.{RawAttribute}
use Rattle.stun_attributes.specs.Raw.{Finds, raw_type}
use Rattle.stun_types.specs.declared.writing.listed.Listed.{Listed}
use Rattle.stun_types.specs.Resuming.{message_types}
use Rattle.stun_types.specs.Listing.{counted, listed_types}
use Rattle.stun_types.proofs.WrittenTypesLemmas.{none_ends}

-- ---- One attribute after another

-- the attribute at an offset, and those after it
pub record Next (d : List ℕ) (offset behind type : ℕ) : Type 0 where
  pub types_are : types (chain (drop offset d)) ≡ type ∷ types (chain (drop behind d))
  pub rest_is : rest (drop offset d) ≡ rest (drop behind d)
  pub end_is : offset + length (encodings (chain (drop offset d))) ≡ behind + length (encodings (chain (drop behind d)))

pub next : (raw : RawAttribute) (behind offset : ℕ) (d : List ℕ) → Finds raw behind offset d → Next d offset behind (raw_type raw)
next raw behind offset d found =
    let a = found.attribute in
    let there : drop (length (encoding a)) (drop offset d) ≡ drop behind d = drop-drop (length (encoding a)) offset d ∙ ap (λ (n : ℕ). drop n d) (sym found.behind_is) in
    let chain_is : chain (drop offset d) ≡ a ∷ chain (drop behind d) = chain-some (drop offset d) a found.first_is ∙ ap (λ (b : List ℕ). a ∷ chain b) there in
    record {
      types_are = ap types chain_is ∙ ap (λ (t : ℕ). t ∷ types (chain (drop behind d))) (sym found.raw_is.raw_is.type_is);
      rest_is = rest-some (drop offset d) a found.first_is ∙ ap rest there;
      end_is = rw chain_is (omega (arith, found.behind_is, length-append (encoding a) (encodings (chain (drop behind d)))));
    }

-- the next one begins after it
pub behind_more : (raw : RawAttribute) (behind offset : ℕ) (d : List ℕ) → Finds raw behind offset d → offset + 4 ≤ behind
behind_more raw behind offset d found = omega (arith, found.behind_is, length-encoding found.attribute)

-- no attribute is there
pub record Last (d : List ℕ) (offset : ℕ) : Type 0 where
  pub types_are : types (chain (drop offset d)) ≡ []
  pub rest_is : rest (drop offset d) ≡ drop offset d
  pub end_is : offset + length (encodings (chain (drop offset d))) ≡ offset

pub last : (offset : ℕ) (d : List ℕ) → first_attribute (drop offset d) ≡ None → Last d offset
last offset d e = record {
  types_are = ap types (chain-none (drop offset d) e);
  rest_is = rest-none (drop offset d) e;
  end_is = rw (chain-none (drop offset d) e) (omega arith);
}

-- whether an ending type is among those from an offset on, and those after the attribute there
pub ends_next : (ends now : Bool) (ts behind : List ℕ) (type : ℕ) → ts ≡ type ∷ behind → now ≡ is_ending type → (ends || list_any is_ending ts) ≡ ((ends || now) || list_any is_ending behind)
ends_next ends now ts behind type e f = rw (e, f) (sym (or_assoc ends (is_ending type) (list_any is_ending behind)))

-- at the end all of them were looked at
pub ends_last : (ends : Bool) (all behind : List ℕ) → list_any is_ending all ≡ (ends || list_any is_ending behind) → behind ≡ [] → ends ≡ list_any is_ending all
ends_last ends all behind e none = sym (e ∙ rw none (or-false ends))

-- ---- The types that count

pub counted_more : (all : Bool) (type : ℕ) (ts : List ℕ) → (all || not (is_ending type)) ≡ true → counted all (type ∷ ts) ≡ type ∷ counted all ts
unfolding counted
counted_more true type ts e = refl
counted_more false type ts e = rw e refl

pub counted_not : (all : Bool) (type : ℕ) (ts : List ℕ) → (all || not (is_ending type)) ≡ false → counted all (type ∷ ts) ≡ counted all ts
unfolding counted
counted_not true type ts e = absurd (cc e)
counted_not false type ts e = rw e refl

pub counted_nil : (all : Bool) → counted all [] ≡ []
unfolding counted
counted_nil true = refl
counted_nil false = refl

-- if no ending type is among them, ordinary types are all
none_dropped : (ts : List ℕ) → list_any is_ending ts ≡ false → filter (λ type. not (is_ending type)) ts ≡ ts
none_dropped [] e = refl
none_dropped (t ∷ ts) e =
    let parts = or_parts (is_ending t) (list_any is_ending ts) e in
    rw (parts.0, none_dropped ts parts.1) refl

pub counted_all : (all : Bool) (ts : List ℕ) → all ≡ list_any is_ending ts → counted all ts ≡ ts
unfolding counted
counted_all true ts e = refl
counted_all false ts e = none_dropped ts (sym e)

none_left : (ts : List ℕ) → list_any is_ending (filter (λ type. not (is_ending type)) ts) ≡ false
none_left [] = refl
none_left (t ∷ ts) = elim (cases_Bool (is_ending t)) [
  | inl ends ↦ rw ends (none_left ts)
  | inr not_ending ↦ rw (not_ending, not_ending) (none_left ts)
]

-- ---- Looking for types

-- if ending types don't count, none of them is found
none_found : (asked : List AttributeType) (ts : List ℕ) → list_all (λ a. is_ending a.0) asked ≡ true → first_of (numbers asked) (counted false ts) ≡ None
unfolding counted
none_found asked ts all = none_ends asked (filter (λ type. not (is_ending type)) ts) (none_left ts) all

pub found_here : (asked ts : List ℕ) (all : Bool) (type : ℕ) → ((all || not (is_ending type)) && has type asked) ≡ true → first_of asked (counted all (type ∷ ts)) ≡ Some type
found_here asked ts all type e =
    let parts = and_parts (all || not (is_ending type)) (has type asked) e in
    rw (counted_more all type ts parts.0, parts.1) refl

pub found_later : (asked ts : List ℕ) (all : Bool) (type : ℕ) → ((all || not (is_ending type)) && has type asked) ≡ false → first_of asked (counted all (type ∷ ts)) ≡ first_of asked (counted all ts)
found_later asked ts all type e = elim (cases_Bool (all || not (is_ending type))) [
  | inl counts ↦
      let other : has type asked ≡ false = rw counts at e in
      rw (counted_more all type ts counts, other) refl
  | inr passed ↦ ap (first_of asked) (counted_not all type ts passed)
]

-- nothing is found among no types
pub found_none : (asked : List ℕ) (all : Bool) (ts : List ℕ) → ts ≡ [] → first_of asked (counted all ts) ≡ None
found_none asked all ts e = rw (e, counted_nil all) refl

some_number : (found : Option AttributeType) → is_some found ≡ is_some (option_map (λ (f : AttributeType). f.0) found)
some_number None = refl
some_number (Some f) = refl

found_is_some : (type : ℕ) (ts : List ℕ) → is_some (first_of (type ∷ []) ts) ≡ has type ts
found_is_some type [] = refl
found_is_some type (t ∷ ts) = elim (cases_eq type t) [
  | inl same ↦ rw (eq-eqb type t same, eq-eqb t type (sym same)) refl
  | inr other ↦ rw (ne_eqb type t other, ne_eqb t type (λ e. other (sym e))) (found_is_some type ts)
]

-- a type is found among types if it is one of them
pub found_is_has : (found : Option AttributeType) (type : ℕ) (ts : List ℕ) → option_map (λ (f : AttributeType). f.0) found ≡ first_of (type ∷ []) ts → is_some found ≡ has type ts
found_is_has found type ts e = some_number found ∙ ap is_some e ∙ found_is_some type ts

-- ---- More bytes after them

-- as many of their bytes are in a message as it has after its header
same_part : (n len : ℕ) (message more : List ℕ) → length message ≡ len → take (min n (len - 20)) (drop 20 (message ++ more)) ≡ take n (drop 20 message)
same_part n len message more is =
    let behind : length (drop 20 message) ≡ len - 20 = omega (arith, length-drop 20 message) in
    elim (cases_lt (length message) 20) [
      | inl short ↦
          let none : min n (len - 20) ≡ 0 = omega arith in
          rw (none, nil_from_length (drop 20 message) (omega (arith, behind)), take-nil {A = ℕ} n) refl
      | inr long ↦
          rw (drop-append-le 20 message more long)
          (take-append-le (min n (len - 20)) (drop 20 message) more (omega (arith, behind)) ∙ ap (λ (k : ℕ). take (min n k) (drop 20 message)) (sym behind) ∙ take_min n (drop 20 message))
    ]

pub listed_more : (listed : Listed) (len : ℕ) (message more : List ℕ) → length message ≡ len
    → listed_types (record { bytes = min listed.bytes (len - 20); ends = listed.ends }) (message ++ more) ≡ listed_types listed message
unfolding listed_types
listed_more listed len message more is = ap (λ (b : List ℕ). counted listed.ends (types (chain b))) (same_part listed.bytes len message more is)

pub behind_appended : (message : List ℕ) (type : ℕ) (value : List ℕ) → 20 ≤ length message → drop 20 (appended message type value) ≡ drop 20 (message ++ attribute_encoding type value)
unfolding appended
behind_appended [] type value long = absurd (omega (arith, long))
behind_appended (a ∷ []) type value long = absurd (omega (arith, long))
behind_appended (a ∷ b ∷ []) type value long = absurd (omega (arith, long))
behind_appended (a ∷ b ∷ c ∷ []) type value long = absurd (omega (arith, long))
behind_appended (a ∷ b ∷ c ∷ f ∷ d) type value long = refl

pub listed_appended : (listed : Listed) (len : ℕ) (message : List ℕ) (type : ℕ) (value : List ℕ) → length message ≡ len → 20 ≤ len
    → listed_types (record { bytes = min listed.bytes (len - 20); ends = listed.ends }) (appended message type value) ≡ listed_types listed message
unfolding listed_types
listed_appended listed len message type value is long =
    ap (λ (b : List ℕ). counted listed.ends (types (chain (take (min listed.bytes (len - 20)) b)))) (behind_appended message type value (omega arith))
    ∙ ap (λ (b : List ℕ). counted listed.ends (types (chain b))) (same_part listed.bytes len message (attribute_encoding type value) is)

-- ---- None of them, and the whole of them

-- no bytes hold them
pub none_listed : (listed : Listed) (message : List ℕ) (asked : List AttributeType) → listed.bytes ≡ 0 → first_of (numbers asked) (listed_types listed message) ≡ None
unfolding listed_types
none_listed listed message asked e = rw e (found_none (numbers asked) listed.ends (types (chain [])) (ap types chain-nil))

-- none of them ends a message
pub none_ending : (listed : Listed) (message : List ℕ) (asked : List AttributeType) → not listed.ends ≡ true → list_all (λ a. is_ending a.0) asked ≡ true → first_of (numbers asked) (listed_types listed message) ≡ None
unfolding listed_types
none_ending listed message asked e all = rw (not-true listed.ends e) (none_found asked (types (chain (take listed.bytes (drop 20 message)))) all)

pub listed_none : (all : Bool) (message : List ℕ) → listed_types (record { bytes = 0; ends = all }) message ≡ []
unfolding listed_types
listed_none all message = rw chain-nil (counted_nil all)

-- no message has none of them
pub listed_nothing : (listed : Listed) → listed_types listed [] ≡ []
unfolding listed_types
listed_nothing listed = rw (take-nil {A = ℕ} listed.bytes, chain-nil) (counted_nil listed.ends)

pub listed_whole : (message : List ℕ) (n : ℕ) (ends : Bool) → n ≡ length message - 20 → ends ≡ list_any is_ending (message_types message)
    → listed_types (record { bytes = n; ends = ends }) message ≡ message_types message
unfolding listed_types
listed_whole message n ends whole e =
    ap (λ (b : List ℕ). counted ends (types (chain b))) (take_all n (drop 20 message) (omega (arith, length-drop 20 message))) ∙ counted_all ends (message_types message) e

-- ---- Those that were there, and those written since

-- what is found among the former is found first
pub found_first : (asked listed written : List ℕ) (found : ℕ) → Some found ≡ first_of asked listed → Some found ≡ first_of asked (listed ++ written)
found_first asked listed written found e = sym (find-append (λ type. has type asked) listed written ∙ ap (λ (o : Option ℕ). option_or o (first_of asked written)) (sym e))

pub found_second : (asked listed written : List ℕ) (n : ℕ) → None ≡ first_of asked listed → (n ≡ 0 → ⊥) → first_of asked (listed ++ (if n == 0 then [] else written)) ≡ first_of asked written
found_second asked listed written n e some =
    let there : (if n == 0 then [] else written) ≡ written = rw (ne_eqb n 0 some) refl in
    ap (λ (ts : List ℕ). first_of asked (listed ++ ts)) there ∙ find-append (λ type. has type asked) listed written ∙ ap (λ (o : Option ℕ). option_or o (first_of asked written)) (sym e)

-- a writer without bytes has neither
pub neither : (listed : Listed) (bytes written : List ℕ) → bytes ≡ [] → listed_types listed bytes ++ (if length bytes == 0 then [] else written) ≡ []
neither listed bytes written e = rw (e, listed_nothing listed) refl
