use Rattle.std.proofs.Common.{◌≡◌, ap, ◌∙◌}
use Rattle.std.specs.Prelude.{not}
use Rattle.ice_candidates.specs.Words.{words_of, other_words}
use Rattle.ice_candidates.proofs.ExtensionsLemmas.{left_some, others_sound, pairs_first}
use Rattle.ice_candidates.proofs.extensions.Extensions.split_first.Goals as goal

pub invariant_of-result : goal.invariant_of-result
invariant_of-result c =
    let ws = words_of c.args.self.now.rest in
    let others : words_of c.next_word-2.result.1 ≡ other_words (other_words ws) = c.next_word-2.ensures.others ∙ ap other_words c.next_word.ensures.others in
    record { sound = rw others (others_sound ws c.args.self.now.sound) }

pub returns : goal.returns
returns c =
    let ws = words_of c.args.self.now.rest in
    let others : words_of c.next_word-2.result.1 ≡ other_words (other_words ws) = c.next_word-2.ensures.others ∙ ap other_words c.next_word.ensures.others in
    let first = pairs_first ws (left_some c.args.self.now.rest (c.is_none.ensures ∙ ap not c.if-is_none.false)) c.args.self.now.sound in
    rw (c.next_word.ensures.word, c.next_word-2.ensures.word, c.next_word.ensures.others, others) first
