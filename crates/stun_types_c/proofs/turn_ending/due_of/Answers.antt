use Rattle.stun_types_c.proofs.TurnLemmas.{next_is_due}
use Rattle.stun_types_c.proofs.turn_ending.due_of.Goals as goal

pub returns-in-Some : goal.returns-in-Some
returns-in-Some c =
    next_is_due c.args.core.now c.in-Some.due c.shown_due.result c.in-Some.ensures c.shown_due.ensures
