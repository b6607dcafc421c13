use Rattle.stun_authentication.specs.ShortTerm.{short_term}
use Rattle.stun_types.specs.Message.{message_bytes}
use Rattle.std.proofs.Common.{sym, ◌∙◌}
use Rattle.ice_checks.specs.Judging.{policy}
use Rattle.ice_checks.specs.Sessions.{key_of}
use Rattle.ice_checks.specs.Views.{logins_of}
use Rattle.ice_checks.proofs.JudgingLemmas.{decided_so}
use Rattle.ice_checks.proofs.judging.requested.Goals as goal

pub returns-in-Ok : goal.returns-in-Ok
returns-in-Ok c =
    let d = message_bytes c.args.message.now in
    c.accepted.ensures ∙ sym (decided_so c.args.base c.args.from d (short_term policy (key_of (logins_of c.args.session.now)) d) c.in-Ok.algorithm c.in-Ok.ensures)
