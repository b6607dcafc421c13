use Rattle.std.proofs.Common.{subst}
use Rattle.stun_base.specs.MessageTypes.{method_of}
use Rattle.stun_grammar.specs.Headers.{type_field}
use Rattle.stun_types.specs.Message.{message_bytes}
use Rattle.stun_authentication.specs.Answers.{Tells as Decides}
use Rattle.turn_server.proofs.ReportingLemmas.{decision_reported}
use Rattle.turn_server.proofs.judging.judge_decided.Goals as goal

pub returns-in-Accepted : goal.returns-in-Accepted
returns-in-Accepted c site decision realm decides =
    let d = message_bytes c.args.request.now in
    decision_reported c.args.sets_df site (method_of (type_field d)) d c.in-Accepted.accepted c.judge_accepted.result
    (λ user key algorithm. c.judge_accepted.ensures site user key algorithm realm) decision (subst (Decides decision) c.in-Accepted.is decides)
