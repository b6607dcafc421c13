-- What a writer begins or adds can be resumed.
use Rattle.std.proofs.Common.{◌≡◌, ℕ, ◌+◌, ◌-◌, ◌^◌, ◌<◌, ◌≤◌, List, [], ◌∷◌, ◌++◌, length, drop, None, refl, sym, ap, subst, ◌∙◌, inl, inr, arith}
use Rattle.std.specs.List.{AllByRecursion}
use Rattle.std.proofs.lemmas.Bool.{cases_lt, cases_eq, lt-ltb, le-ltb, ne_eqb}
use Rattle.std.proofs.lemmas.List.{append-nil, drop-append-le, length-append, map-append, take_at, nil_from_length}
use Rattle.std.proofs.lemmas.List.Concat.{flat_map-append}
use Rattle.stun_grammar.specs.Numbers.{padded_length, IsBytes}
use Rattle.stun_grammar.specs.Attributes.{Attribute, IsAttribute, canonical, encoding, encodings, types}
use Rattle.stun_grammar.specs.Chains.{stated_length, first_attribute, chain, rest, fault}
use Rattle.stun_grammar.specs.Headers.{length_field}
use Rattle.stun_grammar.specs.Showing.{frame_fault}
use Rattle.stun_grammar.specs.Writing.{message_encoding, greatest_length}
use Rattle.stun_grammar.specs.Adding.{appended, grown_length}
use Rattle.stun_grammar.proofs.NumbersLemmas.{IsBytes-behind, IsBytes-drop, number-be16}
use Rattle.stun_grammar.proofs.AttributesLemmas.{first_attribute_is, first_attribute_takes}
use Rattle.stun_grammar.proofs.ChainsLemmas.{chain_exists, chain-encodings, none_or_some}
use Rattle.stun_grammar.proofs.HeadersLemmas.{header, header_there, frame_there, frame-whole}
use Rattle.stun_grammar.proofs.ShowingLemmas.{AllByRecursion-append}
use Rattle.stun_grammar.proofs.WritingLemmas.{canonical_is, behind-header, frame-message, length-message}
use Rattle.stun_grammar.proofs.AddingLemmas.{appended_begins, appended_length}
use Rattle.stun_types.specs.Resuming.{message_types, whole_fault, resume_fault}
use Rattle.stun_types.proofs.ListedLemmas.{behind_appended}
use Rattle.stun_types.proofs.ResumingLemmas.{both_none, enough_there}

-- ---- Attributes with nothing after them

-- if an attribute could begin and none does, it is no fault only if nothing is there
nothing_left : (offset : ℕ) (r : List ℕ) → first_attribute r ≡ None → fault offset r ≡ None → r ≡ []
unfolding fault
nothing_left offset r none e = elim (cases_eq (length r) 0) [
  | inl nil ↦ nil_from_length r nil
  | inr some ↦
      let there = ne_eqb (length r) 0 some in
      elim (cases_lt (length r) 4) [
        | inl short ↦ absurd (cc (rw (there, lt-ltb (length r) 4 short) at e))
        | inr header ↦
            let no_short = le-ltb (length r) 4 header in
            elim (cases_lt (length r) (4 + stated_length r)) [
              | inl short ↦ absurd (cc (rw (there, no_short, lt-ltb (length r) (4 + stated_length r) short) at e))
              | inr value ↦
                  let value_there = le-ltb (length r) (4 + stated_length r) value in
                  elim (cases_lt (length r) (4 + padded_length (stated_length r))) [
                    | inl short ↦ absurd (cc (rw (there, no_short, value_there, lt-ltb (length r) (4 + padded_length (stated_length r)) short) at e))
                    | inr long ↦ absurd (cc (none, first_attribute_is r (stated_length r) refl long))
                  ]
            ]
      ]
]

-- whole attributes, and nothing else
pub record IsWhole (b : List ℕ) : Type 0 where
  pub spelled : b ≡ encodings (chain b)
  pub each : AllByRecursion IsAttribute (chain b)

pub is_whole : (offset : ℕ) (b : List ℕ) → IsBytes b → fault offset (rest b) ≡ None → IsWhole b
is_whole offset b bytes e =
    let is = chain_exists b bytes in
    let behind : IsBytes (rest b) = IsBytes-behind (encodings (chain b)) (rest b) (subst IsBytes is.whole bytes) in
    let none : first_attribute (rest b) ≡ None = elim (none_or_some (first_attribute (rest b))) [
      | inl none ↦ none
      | inr (a, some) ↦ let taken = first_attribute_takes (rest b) a behind some in absurd (is.ends a (drop (length (encoding a)) (rest b)) taken.0 taken.1)
    ] in
    let nil = nothing_left offset (rest b) none e in
    record { spelled = is.whole ∙ ap (λ (r : List ℕ). encodings (chain b) ++ r) nil ∙ append-nil (encodings (chain b)); each = is.each }

-- with one more attribute they are whole attributes again
pub record Grown (b : List ℕ) (a : Attribute) : Type 0 where
  pub chain_is : chain (b ++ encoding a) ≡ chain b ++ a ∷ []
  pub rest_is : rest (b ++ encoding a) ≡ []
  pub whole : IsWhole (b ++ encoding a)

pub grown : (b : List ℕ) (a : Attribute) → IsWhole b → IsAttribute a → Grown b a
grown b a whole is =
    let spelled : b ++ encoding a ≡ encodings (chain b ++ a ∷ []) =
    ap (λ (x : List ℕ). x ++ encoding a) whole.spelled ∙ sym (flat_map-append encoding (chain b) (a ∷ []) ∙ ap (λ (x : List ℕ). encodings (chain b) ++ x) (append-nil (encoding a))) in
    let each = AllByRecursion-append IsAttribute (chain b) (a ∷ []) whole.each (is, tt) in
    let read = chain-encodings (chain b ++ a ∷ []) each in
    let chain_is : chain (b ++ encoding a) ≡ chain b ++ a ∷ [] = ap chain spelled ∙ read.0 in
    record {
      chain_is = chain_is;
      rest_is = ap rest spelled ∙ read.1;
      whole = record { spelled = spelled ∙ ap encodings (sym chain_is); each = subst (AllByRecursion IsAttribute) (sym chain_is) each };
    }

nothing_behind : (offset : ℕ) (r : List ℕ) → r ≡ [] → fault offset r ≡ None
unfolding fault
nothing_behind offset r nil = rw nil refl

-- ---- The message with one more attribute

field_appended : (message : List ℕ) (type : ℕ) (value : List ℕ) → 20 ≤ length message → grown_length (length message) (length value) ≤ greatest_length
    → length_field (appended message type value) ≡ grown_length (length message) (length value) - 20
unfolding appended
field_appended [] type value long fits = absurd (omega (arith, long))
field_appended (a ∷ []) type value long fits = absurd (omega (arith, long))
field_appended (a ∷ b ∷ message) type value long fits = number-be16 (grown_length (length (a ∷ b ∷ message)) (length value) - 20) (omega (arith, fits))

pub frame_appended : (message : List ℕ) (type : ℕ) (value : List ℕ) → type < 2 ^ 16 → length value < 2 ^ 16 → frame_fault message ≡ None → grown_length (length message) (length value) ≤ greatest_length
    → frame_fault (appended message type value) ≡ None
frame_appended message type value t v framed fits =
    let begun = header_there message (frame_there message framed) in
    let size = appended_length message type value (omega (arith, begun.0)) t v in
    frame-whole (appended message type value) (header (appended message type value) (omega (arith, size, begun.0)) (appended_begins message type value begun.1))
    (omega (arith, size, begun.0, field_appended message type value begun.0 fits))

pub goes_on : (message : List ℕ) (type : ℕ) (value : List ℕ) → IsBytes message → type < 2 ^ 16 → length value < 2 ^ 16 → whole_fault message ≡ None → grown_length (length message) (length value) ≤ greatest_length
    → (whole_fault (appended message type value) ≡ None) × (message_types (appended message type value) ≡ message_types message ++ type ∷ [])
unfolding whole_fault
goes_on message type value bytes t v e fits =
    let b = drop 20 message in
    let a = canonical type value in
    let parts = both_none (frame_fault message) (fault (20 + length (encodings (chain b))) (rest b)) e in
    let begun = header_there message (frame_there message parts.0) in
    let more = grown b a (is_whole _ b (IsBytes-drop 20 message bytes) parts.1) (canonical_is type value t v) in
    let behind : drop 20 (appended message type value) ≡ b ++ encoding a = behind_appended message type value begun.0 ∙ drop-append-le 20 message (encoding a) begun.0 in (
      rw (frame_appended message type value t v parts.0 fits) (nothing_behind _ (rest (drop 20 (appended message type value))) (ap rest behind ∙ more.rest_is)),
      ap (λ (x : List ℕ). types (chain x)) behind ∙ ap types more.chain_is ∙ map-append (λ (x : Attribute). x.type) (chain b) (a ∷ []),
    )

-- ---- The encoding of a message

pub encoding_goes_on : (type id : ℕ) (attributes : List Attribute) → type < 2 ^ 14 → AllByRecursion IsAttribute attributes → length (message_encoding type id attributes) ≤ greatest_length
    → (whole_fault (message_encoding type id attributes) ≡ None) × (message_types (message_encoding type id attributes) ≡ types attributes)
unfolding whole_fault
encoding_goes_on type id attributes t each fits =
    let d = message_encoding type id attributes in
    let read = chain-encodings attributes each in
    let behind = behind-header type id attributes in (
      rw (frame-message type id attributes t (omega (arith, fits, length-message type id attributes))) (nothing_behind _ (rest (drop 20 d)) (ap rest behind ∙ read.1)),
      ap (λ (x : List ℕ). types (chain x)) behind ∙ ap types read.0,
    )

-- ---- In a slice

pub there_in_slice : (message more : List ℕ) → resume_fault (message ++ more) (length message) ≡ whole_fault message
there_in_slice message more =
    enough_there (message ++ more) (length message) (omega (arith, length-append message more)) ∙ ap whole_fault (take_at message more (length message) refl)
