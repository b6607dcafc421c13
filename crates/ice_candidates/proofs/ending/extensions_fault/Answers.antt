use Rattle.std.proofs.Common.{◌≡◌, ◌<◌, true, false, Some, length, sym, ap, ◌∙◌}
use Rattle.std.specs.Prelude.{not}
use Rattle.std.specs.List.{list_all}
use Rattle.ice_candidates.specs.Chars.{is_visible}
use Rattle.ice_candidates.specs.Words.{words_of, first_word, other_words}
use Rattle.ice_candidates.specs.Fields.{is_extension_name}
use Rattle.ice_candidates.specs.Reading.{extensions_fault}
use Rattle.ice_candidates.proofs.ExtensionsLemmas.{left_some, name_fault, pair_more}
use Rattle.ice_candidates.proofs.ending.extensions_fault.Goals as goal

pub returns-then-not-is_extension_name : goal.returns-then-not-is_extension_name
returns-then-not-is_extension_name c =
    let ws = words_of c.loop-left.left in
    let other : is_extension_name (first_word ws) ≡ false = ap is_extension_name (sym c.next_word.ensures.word) ∙ sym c.is_extension_name.ensures ∙ c.if-not-is_extension_name.true in
    ap Some c.stop.ensures ∙ sym (name_fault ws (left_some c.loop-left.left (sym c.is_some.ensures ∙ c.loop-left-test.true)) other) ∙ c.loop-left.invariant

pub loop-left-preserved : goal.loop-left-preserved
loop-left-preserved c =
    let ws = words_of c.loop-left.left in
    let named : is_extension_name (first_word ws) ≡ true = ap is_extension_name (sym c.next_word.ensures.word) ∙ sym c.is_extension_name.ensures ∙ c.if-not-is_extension_name.false in
    let after : words_of c.next_word.result.1 ≡ other_words ws = c.next_word.ensures.others in
    let some : 0 < length (other_words ws) = rw (← after) (left_some c.next_word.result.1 (c.is_none.ensures ∙ ap not c.if-is_none.false)) in
    let seen : list_all is_visible (first_word (other_words ws)) ≡ true =
    ap (λ l. list_all is_visible (first_word l)) (sym after) ∙ ap (list_all is_visible) (sym c.next_word-in-loop-left.ensures.word) ∙ sym c.are_visible.ensures ∙ c.if-not-are_visible.false in
    ap extensions_fault (c.next_word-in-loop-left.ensures.others ∙ ap other_words after) ∙ sym (pair_more ws some named seen) ∙ c.loop-left.invariant
