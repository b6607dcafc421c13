use Rattle.stun_types.specs.Message.{message_bytes}
use Rattle.stun_types.specs.Validating.{shown_integrity}
use Rattle.stun_types.proofs.ValidatingLemmas.{past_header, before_end}
use Rattle.stun_types.proofs.message.read.Message.integrity_check.Goals as goal

pub of-requires-clause-header : goal.of-requires-clause-header
of-requires-clause-header c = past_header c.args.made_for (message_bytes c.args.self.now) (shown_integrity c.in_ok-found.found) c.find_checked.ensures.bytes c.in_ok-found.ensures.verdict

pub of-requires-clause-within : goal.of-requires-clause-within
of-requires-clause-within c = before_end c.args.made_for (message_bytes c.args.self.now) (shown_integrity c.in_ok-found.found) c.find_checked.ensures.bytes c.in_ok-found.ensures.verdict

pub returns-clause-check : goal.returns-clause-check
returns-clause-check c = c.of.ensures c.args.made_for c.in_ok-found.ensures.verdict
