use Rattle.std.proofs.Common.{sym, ◌∙◌}
use Rattle.stun_types.specs.GivenHmacs.{given}
use Rattle.stun_types.specs.Validating.{shown_integrity}
use Rattle.stun_types.proofs.ValidatingLemmas.{own_algorithm}
use Rattle.stun_types.proofs.GivenHmacsLemmas.{failed_by, ok_by}
use Rattle.stun_types.proofs.message.validate.compare.compare_hmac.Goals as goal

pub returns-then-not-is_right : goal.returns-then-not-is_right
returns-then-not-is_right c = λ d.
    sym (failed_by (given c.args.hmac.now) d (shown_integrity c.args.found) c.args.found.algorithm (own_algorithm c.args.found.algorithm) c.requires.lawful (sym c.is_right.ensures ∙ c.if-not-is_right.true))

pub returns : goal.returns
returns c = λ d.
    sym (ok_by (given c.args.hmac.now) d (shown_integrity c.args.found) c.args.found.algorithm (own_algorithm c.args.found.algorithm) c.requires.lawful (sym c.is_right.ensures ∙ c.if-not-is_right.false))
