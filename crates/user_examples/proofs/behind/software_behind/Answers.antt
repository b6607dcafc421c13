use Rattle.std.proofs.Common.{ℕ, ◌-◌, ap, ◌∙◌, length, take, lit<, arith, rules}
use Rattle.std.proofs.lemmas.Result.{err_from_is_err_and}
use Rattle.stun_grammar.specs.Steps.{add}
use Rattle.stun_attributes.specs.Texts.{text_bytes}
use Rattle.stun_types.specs.Resuming.{message_types}
use Rattle.user_examples.proofs.BehindLemmas.{refused_by_rules, not_refused, added_parses}
use Rattle.user_examples.proofs.behind.software_behind.Goals as goal

pub returns-in_err-answer-clause-answer : goal.returns-in_err-answer-clause-answer
returns-in_err-answer-clause-answer c none =
    let p = err_from_is_err_and c.from_residual-in_err-answer.result c.from_residual-in_err-answer.ensures.1 in
    let begun = c.resume_at-message.ensures in
    let place = c.in_ok-point.ensures.0 in
    rw (p.1, p.2) (refused_by_rules (add 0x8022 (text_bytes c.args.software.now)) (message_types (take c.args.written c.args.buf.now)) _ c.args.written _ (length c.args.buf.now) _ _ _ _ c.in_err-answer.field-0.0
    (begun.types ∙ ap (λ (n : ℕ). message_types (take n c.args.buf.now)) place)
    (begun.size ∙ place)
    begun.greatest
    (begun.ready_bytes ∙ ap (λ (n : ℕ). length c.args.buf.now - n) place)
    begun.ready_types
    c.in_err-answer.ensures.answer)

pub returns-clause-parses : goal.returns-clause-parses
returns-clause-parses c =
    let begun = c.resume_at-message.ensures in
    let added = c.in_ok-answer.ensures in
    let parses = added_parses c.resumed_parses.ensures.step_parses c.args.buf.now _ _ _ _ (text_bytes c.args.software.now) _ _ _ 0x8022 _ c.are_bytes.ensures c.in_ok-point.ensures.1.fault
    (λ e. omega (arith, e), λ e. omega (arith, e), λ e. omega (arith, e)) (lit< tt) added.short begun.bytes begun.types (not_refused _ _ added.answer) added.ok.bytes c.finish-written.ensures.slice c.finish-written.ensures.written in
    search (rules, parses)
