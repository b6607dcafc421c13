use Rattle.std.proofs.Common.{refl, ◌∙◌}
use Rattle.stun_grammar.specs.Verdicts.{is_checked_type}
use Rattle.stun_types.specs.GivenHmacs.{given, checked_text}
use Rattle.stun_types.specs.Validating.{shown_integrity}
use Rattle.stun_types.proofs.GivenHmacsLemmas.{by_last, by_key}
use Rattle.stun_types.proofs.message.validate.check.IntegrityCheck.finish.Goals as goal

pub returns-clause-verdict : goal.returns-clause-verdict
returns-clause-verdict c = λ m d t. c.compare_hmac.ensures d ∙ by_last (is_checked_type m) (given c.args.hmac.now) d (shown_integrity c.args.self.now.found) t.checked.last_is

pub returns-clause-keyed : goal.returns-clause-keyed
returns-clause-keyed c = λ m d keys t is. returns-clause-verdict c m d t ∙ by_key m d c.args.self.now (checked_text c.args.self.now) c.args.hmac.now keys t refl is
