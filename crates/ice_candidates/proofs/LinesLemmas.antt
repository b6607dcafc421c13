-- The text of an attribute is read as this attribute.
use Rattle.std.proofs.Common.{◌≡◌, ℕ, true, eqb, List, [], ◌∷◌, ◌++◌, Option, Some, None, Ok, length, refl, sym, ap, ◌∙◌, append-nil}
use Rattle.std.specs.Prelude.{codes, not, ◌&&◌}
use Rattle.std.specs.List.{list_all, AllByRecursion, join_with_byte}
use Rattle.std.proofs.lemmas.Bool.{and_parts}
use Rattle.ice_candidates.specs.declared.errors.Wanted.TheVariants as wanted
use Rattle.ice_candidates.specs.Chars.{is_ice_char, is_option}
use Rattle.ice_candidates.specs.Candidates.{Fields}
use Rattle.ice_candidates.specs.Words.{words}
use Rattle.ice_candidates.specs.Reading.{◌>>=◌, at_start, attribute_of, or_fault, placed, without_type}
use Rattle.ice_candidates.specs.Lines.{Attribute, candidate, username_fragment, password, options, lite, end_of_candidates, valued, with_value, line_of, options_fault, read_line}
use Rattle.ice_candidates.specs.LineTexts.{attribute_text, MayBeWritten}
use Rattle.ice_candidates.specs.Texts.{candidate_text, AreOfTypes, is_in_range}
use Rattle.ice_candidates.proofs.GrammarLemmas.{spelled_read}
use Rattle.ice_candidates.proofs.LineLemmas.{attribute_at}
use Rattle.ice_candidates.proofs.TextLemmas.{NoSpace, items_text, words_items, all_no_space, later_words, text_parts, text_spelled}

-- a line with the name and the value of an attribute is read by its name
named_read : (name value : List ℕ) (a : Attribute) → attribute_of (name ++ 58 ∷ value) ≡ (name, Some value) → without_type (name ++ 58 ∷ value) ≡ name ++ 58 ∷ value
    → valued (at_start wanted.Attribute (name ++ 58 ∷ value)) name value ≡ Ok a → read_line (name ++ 58 ∷ value) ≡ Ok a
named_read name value a parts whole read =
    let line = name ++ 58 ∷ value in
    ap (λ (l : List ℕ). placed line (line_of l)) whole
    ∙ ap (λ (p : List ℕ × Option (List ℕ)). placed line (with_value (at_start wanted.Attribute line) p.0 p.1)) parts
    ∙ ap (placed line) read

candidate_again : (c : Fields) → AreOfTypes c → is_in_range c ≡ true → read_line (candidate_text c) ≡ Ok (candidate c)
candidate_again c of is =
    let value = c.foundation ++ items_text (later_words c) in
    ap read_line (text_parts c)
    ∙ named_read (codes "candidate") value (candidate c) (attribute_at (codes "candidate") value refl) refl
    (ap (λ r. r >>= λ x. Ok (candidate x)) (spelled_read (words value) c (text_spelled c of is)))

-- ---- Options

no_spaces : (ws : List (List ℕ)) → list_all is_option ws ≡ true → AllByRecursion NoSpace ws
no_spaces [] all = tt
no_spaces (w ∷ ws) all =
    let parts = and_parts (is_option w) (list_all is_option ws) all in
    (all_no_space is_ice_char w refl (and_parts (not (eqb (length w) 0)) (list_all is_ice_char w) parts.0).1, no_spaces ws parts.1)

joined_items : (w : List ℕ) (ws : List (List ℕ)) → join_with_byte 32 (w ∷ ws) ≡ w ++ items_text ws
joined_items w [] = sym (append-nil w)
joined_items w (v ∷ ws) = ap (λ (l : List ℕ). w ++ 32 ∷ l) (joined_items v ws)

words_joined : (ws : List (List ℕ)) → (not (eqb (length ws) 0) && list_all is_option ws) ≡ true → words (join_with_byte 32 ws) ≡ ws
words_joined [] is = absurd (cc is)
words_joined (w ∷ ws) is =
    let all = no_spaces (w ∷ ws) (and_parts (not (eqb (length (w ∷ ws)) 0)) (list_all is_option (w ∷ ws)) is).1 in
    ap words (joined_items w ws) ∙ words_items w ws all.0 all.1

no_fault : (ws : List (List ℕ)) → list_all is_option ws ≡ true → options_fault ws ≡ None
no_fault [] all = refl
no_fault (w ∷ ws) all =
    let parts = and_parts (is_option w) (list_all is_option ws) all in
    rw parts.0 (no_fault ws parts.1)

options_again : (ws : List (List ℕ)) → (not (eqb (length ws) 0) && list_all is_option ws) ≡ true → read_line (codes "ice-options:" ++ join_with_byte 32 ws) ≡ Ok (options ws)
options_again ws is =
    let value = join_with_byte 32 ws in
    let split = words_joined ws is in
    named_read (codes "ice-options") value (options ws) (attribute_at (codes "ice-options") value refl) refl
    (ap (λ l. or_fault (options_fault l) (options l)) split ∙ ap (λ o. or_fault o (options ws)) (no_fault ws (and_parts (not (eqb (length ws) 0)) (list_all is_option ws) is).1))

pub attribute_again : (a : Attribute) → MayBeWritten a → read_line (attribute_text a) ≡ Ok a
attribute_again (candidate c) may = candidate_again c may.0 may.1
attribute_again (username_fragment t) may =
    named_read (codes "ice-ufrag") t (username_fragment t) (attribute_at (codes "ice-ufrag") t refl) refl (rw may refl)
attribute_again (password t) may =
    named_read (codes "ice-pwd") t (password t) (attribute_at (codes "ice-pwd") t refl) refl (rw may refl)
attribute_again (options ws) may = options_again ws may
attribute_again lite may = refl
attribute_again end_of_candidates may = refl
