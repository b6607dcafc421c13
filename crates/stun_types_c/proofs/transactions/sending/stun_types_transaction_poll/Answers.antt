use Rattle.std.proofs.Common.{◌≡◌}
use Rattle.stun_types_c.specs.Transactions.{wanted_of}
use Rattle.stun_types_c.proofs.KeptLemmas.{polls}
use Rattle.stun_types_c.proofs.transactions.sending.stun_types_transaction_poll.Goals as goal
use Rattle.stun_types_c.proofs.transactions.sending.stun_types_transaction_poll.Goals.{in-Send, in-WaitUntil, in-Ended}

pub returns : goal.returns
returns c =
    let reported : c.match-action.wanted ≡ wanted_of c.poll-action.result = elim c.match-action.branch [
      | in-Send w ↦ rw w.in-Send.is w.wanted-is
      | in-WaitUntil w ↦ rw (w.in-WaitUntil.is, ← w.millis.ensures) w.wanted-is
      | in-Ended w ↦ rw (w.in-Ended.is, ← w.end_number.ensures, ← w.from.ensures) w.wanted-is
    ] in
    polls c.args.now c.moment_of.result c.args.kept.now c.store.new.kept c.args.wanted.now c.match-action.wanted c.in-Some.parts c.poll-action.new.self c.poll-action.result c.plain-2.result c.moment_of.ensures c.in-Some.ensures c.poll-action.ensures.polls c.store.ensures reported c.plain-2.ensures
