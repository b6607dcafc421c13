use Rattle.std.proofs.Common.{rules, arith, [], refl, ap, ◌∙◌}
use Rattle.stun_grammar.specs.Parsing.{parse_fault}
use Rattle.user_examples.proofs.there.write_own.Goals as goal

pub returns-clause-parses : goal.returns-clause-parses
returns-clause-parses g c =
    let law = c.added_is_shown.ensures in
    let begun = law.begun _ _ _ _ c.in_ok-message.ensures.begun in
    let added = law.added _ _ _ _ _ [] _ _ begun (search rules) (omega arith) (omega arith) c.in_ok-add_attribute.ensures.answer c.in_ok-add_attribute.ensures.adds refl in
    ap parse_fault c.finish.ensures ∙ (law.shown _ _ _ [] [] _ _ added refl).0

pub returns-clause-shows : goal.returns-clause-shows
returns-clause-shows g c =
    let law = c.added_is_shown.ensures in
    let begun = law.begun _ _ _ _ c.in_ok-message.ensures.begun in
    let added = law.added _ _ _ _ _ [] _ _ begun (search rules) (omega arith) (omega arith) c.in_ok-add_attribute.ensures.answer c.in_ok-add_attribute.ensures.adds refl in
    rw (c.finish.ensures) (law.shown _ _ _ [] [] _ _ added refl).1
