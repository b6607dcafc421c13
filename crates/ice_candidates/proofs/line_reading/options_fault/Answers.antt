use Rattle.std.proofs.Common.{◌≡◌, false, Some, sym, ap, ◌∙◌}
use Rattle.ice_candidates.specs.Chars.{is_option}
use Rattle.ice_candidates.specs.Words.{words_of, first_word}
use Rattle.ice_candidates.proofs.ExtensionsLemmas.{left_some, option_fault}
use Rattle.ice_candidates.proofs.line_reading.options_fault.Goals as goal

pub returns-then-not-is_option : goal.returns-then-not-is_option
returns-then-not-is_option c =
    let ws = words_of c.loop-left.left in
    let other : is_option (first_word ws) ≡ false = ap is_option (sym c.next_word.ensures.word) ∙ sym c.is_option.ensures ∙ c.if-not-is_option.true in
    ap Some c.stop.ensures ∙ sym (option_fault ws (left_some c.loop-left.left (sym c.is_some.ensures ∙ c.loop-left-test.true)) other) ∙ c.loop-left.invariant
