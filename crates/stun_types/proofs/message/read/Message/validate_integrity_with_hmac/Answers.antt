use Rattle.std.proofs.Common.{sym, rules, ◌∙◌}
use Rattle.stun_grammar.specs.Accepting.{IsAuthenticThrough}
use Rattle.stun_grammar.specs.Verdicts.{is_checked_type}
use Rattle.stun_grammar.proofs.AcceptingLemmas.{is_authentic_through, if_ok, carried_whole, carried_prefix}
use Rattle.stun_grammar.proofs.VerdictsLemmas.{verdict_given, verdict_keyed}
use Rattle.stun_types.specs.GivenHmacs.{given}
use Rattle.stun_types.specs.Message.{message_bytes}
use Rattle.stun_types.proofs.message.read.Message.validate_integrity_with_hmac.Goals as goal

pub returns-clause-verdict : goal.returns-clause-verdict
returns-clause-verdict c = c.finish.ensures.verdict c.args.made_for (message_bytes c.args.self.now) c.in_ok-check.ensures.check

pub returns-clause-keyed : goal.returns-clause-keyed
returns-clause-keyed c = λ key gives. returns-clause-verdict c ∙ verdict_given (is_checked_type c.args.made_for) key (given c.args.hmac.now) (message_bytes c.args.self.now) gives

pub returns-clause-accepted : goal.returns-clause-accepted
returns-clause-accepted c = λ key gives.
    let d = message_bytes c.args.self.now in
    if_ok c.finish.result (IsAuthenticThrough c.args.made_for key d) (λ a e. is_authentic_through c.args.made_for key d a c.integrity_check.ensures.bytes c.args.self.now.parsed (sym (returns-clause-keyed c key gives) ∙ e))

pub returns-in_err-check-clause-keyed : goal.returns-in_err-check-clause-keyed
returns-in_err-check-clause-keyed c = λ key gives. search (verdict_keyed, rules)

pub returns-in_err-check-clause-carried : goal.returns-in_err-check-clause-carried
returns-in_err-check-clause-carried c = λ key t a none gives.
    carried_whole c.args.made_for c.from_residual.result key (message_bytes c.args.self.now) t a c.integrity_check.ensures.bytes c.args.self.now.parsed (search (verdict_keyed, rules)) none

pub returns-clause-carried : goal.returns-clause-carried
returns-clause-carried c = λ key t a none gives.
    carried_whole c.args.made_for c.finish.result key (message_bytes c.args.self.now) t a c.integrity_check.ensures.bytes c.args.self.now.parsed (returns-clause-keyed c key gives) none

pub returns-in_err-check-clause-carried_own : goal.returns-in_err-check-clause-carried_own
returns-in_err-check-clause-carried_own c = λ key t a own gives.
    carried_prefix c.args.made_for c.from_residual.result key (message_bytes c.args.self.now) t a c.integrity_check.ensures.bytes c.args.self.now.parsed (search (verdict_keyed, rules)) own

pub returns-clause-carried_own : goal.returns-clause-carried_own
returns-clause-carried_own c = λ key t a own gives.
    carried_prefix c.args.made_for c.finish.result key (message_bytes c.args.self.now) t a c.integrity_check.ensures.bytes c.args.self.now.parsed (returns-clause-keyed c key gives) own
