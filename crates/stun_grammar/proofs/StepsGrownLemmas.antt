-- A message whose attributes are any, with one more that a step appends.
use Rattle.std.proofs.Common.{◌≡◌, ℕ, ◌+◌, ◌-◌, ◌≤◌, Bool, true, false, eqb, List, [], ◌∷◌, ◌++◌, length, drop, Option, None, refl, sym, ap, ◌∙◌, inl, inr, arith}
use Rattle.std.specs.Prelude.{if◌then◌else◌, ◌==◌}
use Rattle.std.specs.Option.{option_map_or}
use Rattle.std.proofs.lemmas.Bool.{cases_Bool, cases_eq, or_from, or_parts, ne_eqb}
use Rattle.std.proofs.lemmas.List.{map-append, take_at, take_all, append-nil}
use Rattle.std.proofs.lemmas.List.Folds.{list_any-append}
use Rattle.stun_grammar.specs.declared.error.StunParseError.{StunParseError}
use Rattle.stun_grammar.specs.Attributes.{Attribute, encodings, types, attribute_encoding}
use Rattle.stun_grammar.specs.AttributeTypes.{FINGERPRINT}
use Rattle.stun_grammar.specs.Chains.{Shown, chain, rest, fault, placed}
use Rattle.stun_grammar.specs.ScannedOrder.{has, in_any_order}
use Rattle.stun_grammar.specs.ShownOrder.{in_order}
use Rattle.stun_grammar.specs.Showing.{frame_fault, shown, shown_prefix}
use Rattle.stun_grammar.specs.Parsing.{body_fault, parse_fault, scanned_prefix}
use Rattle.stun_grammar.specs.Fingerprints.{ending_length_field, message_before, masked_checksum, fingerprint_value, fingerprint_fault, first_fingerprint_fault}
use Rattle.stun_grammar.specs.Checksums.{crc}
use Rattle.stun_grammar.specs.declared.integrity_algorithm.IntegrityAlgorithm.TheVariants.{Sha1, Sha256}
use Rattle.stun_grammar.specs.Numbers.{be16}
use Rattle.stun_grammar.specs.Steps.{Step, add, sign, sign_given, finger, appended_by, IsOrdinaryStep}
use Rattle.stun_grammar.specs.Adding.{appended}
use Rattle.stun_grammar.proofs.WritingLemmas.{right_passes}
use Rattle.stun_grammar.proofs.ParsingLemmas.{parse-body, find_none, find_first, placed-append}
use Rattle.stun_grammar.proofs.PrefixesLemmas.{longest_exists, longest_all}
use Rattle.stun_grammar.proofs.PrefixesGrownLemmas.{longest_more}
use Rattle.stun_grammar.proofs.ScannedOrderLemmas.{any_order-nil}
use Rattle.stun_grammar.proofs.ShownOrderLemmas.{in_order-nil, in_order_closed}

types_more : (xs : List Attribute) (a : Attribute) → types (xs ++ a ∷ []) ≡ types xs ++ a.type ∷ []
types_more xs a = map-append (λ (x : Attribute). x.type) xs (a ∷ [])

-- ---- Why it is refused

-- no FINGERPRINT among attributes is none to refuse
no_print : (d : List ℕ) (xs : List Attribute) → has FINGERPRINT (types xs) ≡ false → first_fingerprint_fault d (placed 20 xs) ≡ None
no_print d xs none = ap (λ o. option_map_or (λ (a : Shown). fingerprint_fault d a.offset a.value) o None) (find_none 20 xs none)

-- what is scanned of attributes without a FINGERPRINT has none
scanned_none : (xs : List Attribute) → has FINGERPRINT (types xs) ≡ false → has FINGERPRINT (types (scanned_prefix xs)) ≡ false
scanned_none xs none =
    let is = longest_exists (λ (q : List Attribute). in_any_order (types q)) xs any_order-nil in
    let parts : types xs ≡ types (scanned_prefix xs) ++ types is.others = ap types is.whole ∙ map-append (λ (x : Attribute). x.type) (scanned_prefix xs) is.others in
    (or_parts (has FINGERPRINT (types (scanned_prefix xs))) (has FINGERPRINT (types is.others)) (sym (list_any-append (λ x. eqb x FINGERPRINT) (types (scanned_prefix xs)) (types is.others)) ∙ ap (has FINGERPRINT) (sym parts) ∙ none)).0

-- the FINGERPRINT of the whole is refused only if it is the last attribute, and wrong
last_right : (d : List ℕ) (xs : List Attribute) (a : Attribute) → has FINGERPRINT (types xs) ≡ false → (a.type ≡ FINGERPRINT → fingerprint_fault d (20 + length (encodings xs)) a.value ≡ None)
    → first_fingerprint_fault d (placed 20 (xs ++ a ∷ [])) ≡ None
last_right d xs a none right = elim (cases_eq a.type FINGERPRINT) [
  | inl is ↦ find_first d xs [] a is none ∙ right is
  | inr other ↦ no_print d (xs ++ a ∷ []) (ap (has FINGERPRINT) (types_more xs a) ∙ list_any-append (λ x. eqb x FINGERPRINT) (types xs) (a.type ∷ []) ∙ or_from _ _ none (or_from _ _ (ne_eqb a.type FINGERPRINT other) refl))
]

no_fault : (b : Bool) (offset : ℕ) (r : List ℕ) → r ≡ [] → (if b then fault offset r else None) ≡ None
unfolding fault
no_fault true offset r nil = rw nil refl
no_fault false offset r nil = refl

-- a message of whole attributes parses if none is a FINGERPRINT
pub none_parses : (d : List ℕ) → frame_fault d ≡ None → has FINGERPRINT (types (chain (drop 20 d))) ≡ false → fault (20 + length (encodings (chain (drop 20 d)))) (rest (drop 20 d)) ≡ None → parse_fault d ≡ None
unfolding body_fault
none_parses d framed none whole =
    parse-body d framed ∙ rw (no_print d (scanned_prefix (chain (drop 20 d))) (scanned_none (chain (drop 20 d)) none), whole) (either (length (scanned_prefix (chain (drop 20 d))) == length (chain (drop 20 d))))
  where
    either : (b : Bool) → ◌≡◌ {A = Option StunParseError} (if b then None else None) None
    either true = refl
    either false = refl

-- a message parses if no attribute but its last is a FINGERPRINT, and this is right
pub grown_parses : (d : List ℕ) (xs : List Attribute) (a : Attribute) → frame_fault d ≡ None → chain (drop 20 d) ≡ xs ++ a ∷ [] → rest (drop 20 d) ≡ [] → has FINGERPRINT (types xs) ≡ false
    → (a.type ≡ FINGERPRINT → fingerprint_fault d (20 + length (encodings xs)) a.value ≡ None) → parse_fault d ≡ None
unfolding body_fault
grown_parses d xs a framed chain_is nothing none right =
    let is : scanned_prefix (xs ++ a ∷ []) ≡ if in_any_order (types (xs ++ a ∷ [])) then xs ++ a ∷ [] else scanned_prefix xs = longest_more (λ (q : List Attribute). in_any_order (types q)) xs a in
    let by : (b : Bool) → first_fingerprint_fault d (placed 20 (if b then xs ++ a ∷ [] else scanned_prefix xs)) ≡ None =
    λ b. elim (cases_Bool b) [ inl all ↦ rw all (last_right d xs a none right) | inr less ↦ rw less (no_print d (scanned_prefix xs) (scanned_none xs none)) ] in
    parse-body d framed
    ∙ rw (chain_is, is, by (in_any_order (types (xs ++ a ∷ [])))) (no_fault _ _ (rest (drop 20 d)) nothing)

-- ---- What is shown of it

fails : (b : Bool) → (b ≡ true → ⊥) → b ≡ false
fails true not = absurd (not refl)
fails false not = refl

longest_shown : (xs : List Attribute) (a : Attribute) → (in_order (types xs) ≡ true → in_order (types xs ++ a.type ∷ []) ≡ true)
    → placed 20 (shown_prefix (xs ++ a ∷ [])) ≡ placed 20 (shown_prefix xs) ++ (if in_order (types xs) then placed (20 + length (encodings xs)) (a ∷ []) else [])
longest_shown xs a ordered =
    let is : shown_prefix (xs ++ a ∷ []) ≡ if in_order (types (xs ++ a ∷ [])) then xs ++ a ∷ [] else shown_prefix xs = longest_more (λ (q : List Attribute). in_order (types q)) xs a in
    elim (cases_Bool (in_order (types xs))) [
      | inl shows ↦
          let whole : in_order (types (xs ++ a ∷ [])) ≡ true = ap in_order (types_more xs a) ∙ ordered shows in
          let all : shown_prefix xs ≡ xs = longest_all (λ (q : List Attribute). in_order (types q)) xs in_order-nil shows in
          rw (is, whole, shows, all) (placed-append 20 xs (a ∷ []))
      | inr ends ↦
          let not_whole : in_order (types (xs ++ a ∷ [])) ≡ false = fails _ (λ whole. cc (ends, in_order_closed (types xs) (a.type ∷ []) (sym (ap in_order (types_more xs a)) ∙ whole))) in
          rw (is, not_whole, ends) (sym (append-nil (placed 20 (shown_prefix xs))))
    ]

-- all of it, if all was shown before; otherwise what was
pub grown_shows : (d e : List ℕ) (xs : List Attribute) (a : Attribute) → frame_fault d ≡ None → frame_fault e ≡ None → chain (drop 20 d) ≡ xs ++ a ∷ [] → chain (drop 20 e) ≡ xs
    → (in_order (types xs) ≡ true → in_order (types xs ++ a.type ∷ []) ≡ true)
    → shown d ≡ shown e ++ (if in_order (types xs) then placed (20 + length (encodings xs)) (a ∷ []) else [])
unfolding shown
grown_shows d e xs a framed before chain_is were ordered =
    rw (framed, before, chain_is, were) (longest_shown xs a ordered)

-- ---- The attribute that a step appends

-- what a FINGERPRINT is computed over doesn't depend on what is appended
before_more : (message : List ℕ) (type : ℕ) (value : List ℕ) → 4 ≤ length message → message_before (appended message type value) (length message) 8 ≡ message_before message (length message) 8
unfolding message_before appended
before_more [] type value long = absurd (omega (arith, long))
before_more (a ∷ []) type value long = absurd (omega (arith, long))
before_more (a ∷ b ∷ []) type value long = absurd (omega (arith, long))
before_more (a ∷ b ∷ c ∷ []) type value long = absurd (omega (arith, long))
before_more (a ∷ b ∷ c ∷ e ∷ message) type value long =
    let n = length (a ∷ b ∷ c ∷ e ∷ message) in
    let left : n - 4 ≡ length message = omega arith in
    ap (λ (xs : List ℕ). a ∷ b ∷ (be16 (ending_length_field n 8) ++ xs)) (take_at message (attribute_encoding type value) (n - 4) (sym left) ∙ sym (take_all (n - 4) message (omega (arith, left))))

value_more : (message : List ℕ) (type : ℕ) (value : List ℕ) → 4 ≤ length message → fingerprint_value (appended message type value) (length message) ≡ fingerprint_value message (length message)
unfolding fingerprint_value
value_more message type value long = ap (λ (c : List ℕ). masked_checksum (crc c)) (before_more message type value long)

finger_value : (message : List ℕ) (step : Step) → IsOrdinaryStep step → (appended_by step message).type ≡ FINGERPRINT → (appended_by step message).value ≡ fingerprint_value message (length message)
unfolding appended_by
finger_value message (add type value) plain is = absurd (plain.2 is)
finger_value message (sign Sha1 key) plain is = absurd (omega (arith, is))
finger_value message (sign Sha256 key) plain is = absurd (omega (arith, is))
finger_value message (sign_given Sha1 given) plain is = absurd (omega (arith, is))
finger_value message (sign_given Sha256 given) plain is = absurd (omega (arith, is))
finger_value message finger plain is = refl

right_by : (d : List ℕ) (offset : ℕ) (value : List ℕ) → value ≡ fingerprint_value d offset → fingerprint_fault d offset value ≡ None
right_by d offset value is = ap (fingerprint_fault d offset) is ∙ right_passes d offset

-- a FINGERPRINT that a step appends is right
pub print_right : (message : List ℕ) (step : Step) (a : Attribute) → a ≡ appended_by step message → IsOrdinaryStep step → 4 ≤ length message → a.type ≡ FINGERPRINT
    → fingerprint_fault (appended message a.type a.value) (length message) a.value ≡ None
print_right message step a by plain long is =
    right_by (appended message a.type a.value) (length message) a.value
    (ap (λ (x : Attribute). x.value) by ∙ finger_value message step plain (sym (ap (λ (x : Attribute). x.type) by) ∙ is) ∙ sym (value_more message a.type a.value long))
