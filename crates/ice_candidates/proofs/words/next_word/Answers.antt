use Rattle.std.proofs.Common.{ap, sym, ◌∙◌, arith}
use Rattle.ice_candidates.specs.Words.{first_word, other_words}
use Rattle.ice_candidates.proofs.WordsLemmas.{words_none, words_first}
use Rattle.ice_candidates.proofs.words.next_word.Goals as goal

pub returns-in-Some-split_once-clause-word : goal.returns-in-Some-split_once-clause-word
returns-in-Some-split_once-clause-word c =
    let parts = c.in-Some-split_once.ensures.byte (omega arith) (λ w o x. x) in
    rw c.in-Some.is (parts.0 ∙ sym (ap first_word (words_first c.in-Some.text.now parts.2)))

pub returns-in-Some-split_once-clause-others : goal.returns-in-Some-split_once-clause-others
returns-in-Some-split_once-clause-others c =
    let parts = c.in-Some-split_once.ensures.byte (omega arith) (λ w o x. x) in
    rw (c.in-Some.is, parts.1) (sym (ap other_words (words_first c.in-Some.text.now parts.2)))

pub returns-in-None-clause-word : goal.returns-in-None-clause-word
returns-in-None-clause-word c =
    let none = c.in-None.ensures.byte (omega arith) (λ w o x. x) in
    rw c.in-Some.is (sym (ap first_word (words_none c.in-Some.text.now none)))

pub returns-in-None-clause-others : goal.returns-in-None-clause-others
returns-in-None-clause-others c =
    let none = c.in-None.ensures.byte (omega arith) (λ w o x. x) in
    rw c.in-Some.is (sym (ap other_words (words_none c.in-Some.text.now none)))
