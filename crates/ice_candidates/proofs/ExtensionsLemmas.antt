-- A step in the words of extensions, and their text.
use Rattle.std.proofs.Common.{◌≡◌, ℕ, ◌<◌, true, false, eqb, List, [], ◌∷◌, ◌++◌, Option, Some, None, length, refl, sym, ap, ◌∙◌, arith, inl, inr, append_assoc, append-nil}
use Rattle.std.specs.Prelude.{is_some, is_none}
use Rattle.std.specs.Borrow.{Bor}
use Rattle.std.specs.List.{list_all, flat_map, join_with_byte, onto_first}
use Rattle.std.proofs.lemmas.Bool.{cases_Bool}
use Rattle.std.proofs.lemmas.Option.{none-some}
use Rattle.std.proofs.lemmas.List.Splits.{join_with_byte-slice_split}
use Rattle.ice_candidates.specs.declared.errors.Wanted.TheVariants as wanted
use Rattle.ice_candidates.specs.Chars.{is_visible, is_option}
use Rattle.ice_candidates.specs.Fields.{is_extension_name}
use Rattle.ice_candidates.specs.Words.{words, words_of, first_word, other_words}
use Rattle.ice_candidates.specs.Reading.{stop, extensions_fault, pairs_of}
use Rattle.ice_candidates.specs.Lines.{options_fault}
use Rattle.ice_candidates.specs.Texts.{extension_text}

onto_some : (c : ℕ) (ws : List (List ℕ)) → 0 < length (onto_first c ws)
onto_some c [] = omega arith
onto_some c (w ∷ ws) = omega arith

-- a text has at least one word
pub words_some : (text : List ℕ) → 0 < length (words text)
words_some [] = omega arith
words_some (c ∷ text) = elim (cases_Bool (eqb c 32)) [
  | inl space ↦ rw space (omega arith)
  | inr other ↦ rw other (onto_some c (words text))
]

pub left_some : (left : Option (Bor (List ℕ))) → is_some left ≡ true → 0 < length (words_of left)
left_some None e = absurd (cc e)
left_some (Some text) e = words_some text.now

-- ---- Why words are no extensions

pub name_fault : (ws : List (List ℕ)) → 0 < length ws → is_extension_name (first_word ws) ≡ false
    → extensions_fault ws ≡ Some (stop wanted.ExtensionName ws)
name_fault [] some e = absurd (omega arith)
name_fault (n ∷ []) some e = rw e refl
name_fault (n ∷ v ∷ ws) some e = rw e refl

pub pair_more : (ws : List (List ℕ)) → 0 < length (other_words ws) → is_extension_name (first_word ws) ≡ true → list_all is_visible (first_word (other_words ws)) ≡ true
    → extensions_fault ws ≡ extensions_fault (other_words (other_words ws))
pair_more [] some e f = absurd (omega arith)
pair_more (n ∷ []) some e f = absurd (omega arith)
pair_more (n ∷ v ∷ ws) some e f = rw (e, f) refl

-- ---- Why words are no options

pub option_fault : (ws : List (List ℕ)) → 0 < length ws → is_option (first_word ws) ≡ false
    → options_fault ws ≡ Some (stop wanted.IceOption ws)
option_fault [] some e = absurd (omega arith)
option_fault (w ∷ ws) some e = rw e refl

-- ---- The text of extensions

-- what the words after a pair are, if there is no fault
pair_parts : (n v : List ℕ) (ws : List (List ℕ)) → extensions_fault (n ∷ v ∷ ws) ≡ None → extensions_fault ws ≡ None
pair_parts n v ws e = elim (cases_Bool (is_extension_name n)) [
  | inl named ↦ elim (cases_Bool (list_all is_visible v)) [
    | inl seen ↦ rw (named, seen) at e
    | inr not_seen ↦ absurd (let fault = rw (named, not_seen) at e in none-some _ (sym fault))
  ]
  | inr not_named ↦ absurd (let fault = rw not_named at e in none-some _ (sym fault))
]

one_none : (n : List ℕ) → extensions_fault (n ∷ []) ≡ None → ⊥
one_none n e = none-some _ (sym e)

-- the text of one extension, before more
pub extension_item : (n v more : List ℕ) → extension_text (n, v) ++ more ≡ 32 ∷ (n ++ 32 ∷ (v ++ more))
extension_item n v more = simp append_assoc

joined_text : (ws : List (List ℕ)) → 0 < length ws → extensions_fault ws ≡ None → flat_map extension_text (pairs_of ws) ≡ 32 ∷ join_with_byte 32 ws
joined_text [] some e = absurd (omega arith)
joined_text (n ∷ []) some e = absurd (one_none n e)
joined_text (n ∷ v ∷ []) some e = extension_item n v [] ∙ ap (λ (l : List ℕ). 32 ∷ (n ++ 32 ∷ l)) (append-nil v)
joined_text (n ∷ v ∷ m ∷ ws) some e =
    ap (λ (l : List ℕ). extension_text (n, v) ++ l) (joined_text (m ∷ ws) (omega arith) (pair_parts n v (m ∷ ws) e)) ∙ extension_item n v (32 ∷ join_with_byte 32 (m ∷ ws))

is_none-true : {A : Type 0} (o : Option A) → is_none o ≡ true → o ≡ None
is_none-true None e = refl
is_none-true (Some x) e = absurd (cc e)

-- the text of extensions is a space and what is left of the line
pub extensions_text : (text : List ℕ) → is_none (extensions_fault (words text)) ≡ true → flat_map extension_text (pairs_of (words text)) ≡ 32 ∷ text
extensions_text text e =
    joined_text (words text) (words_some text) (is_none-true (extensions_fault (words text)) e)
    ∙ ap (λ (l : List ℕ). 32 ∷ l) (join_with_byte-slice_split 32 text)

-- ---- The first extension

none-is_none : {A : Type 0} (o : Option A) → o ≡ None → is_none o ≡ true
none-is_none o e = rw e refl

-- what is left after a pair has no fault either
pub others_sound : (ws : List (List ℕ)) → is_none (extensions_fault ws) ≡ true → is_none (extensions_fault (other_words (other_words ws))) ≡ true
others_sound [] e = refl
others_sound (n ∷ []) e = refl
others_sound (n ∷ v ∷ ws) e = none-is_none (extensions_fault ws) (pair_parts n v ws (is_none-true (extensions_fault (n ∷ v ∷ ws)) e))

pub pairs_first : (ws : List (List ℕ)) → 0 < length ws → is_none (extensions_fault ws) ≡ true
    → pairs_of ws ≡ (first_word ws, first_word (other_words ws)) ∷ pairs_of (other_words (other_words ws))
pairs_first [] some e = absurd (omega arith)
pairs_first (n ∷ []) some e = absurd (one_none n (is_none-true (extensions_fault (n ∷ [])) e))
pairs_first (n ∷ v ∷ ws) some e = refl
