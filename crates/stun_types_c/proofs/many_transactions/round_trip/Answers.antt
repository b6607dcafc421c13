use Rattle.stun_types_c.proofs.ManyTransactionsLemmas.{timed, untimed}
use Rattle.stun_types_c.proofs.many_transactions.round_trip.Goals as goal

pub returns-in-Some : goal.returns-in-Some
returns-in-Some c =
    rw c.millis.ensures (timed c.args.kept.now c.in_ok-parts.parts c.args.now c.moment_of.result c.in-Some.time c.in_ok-parts.ensures c.moment_of.ensures c.in-Some.ensures.0 c.in-Some.ensures.1)

pub returns-in-None : goal.returns-in-None
returns-in-None c = untimed c.args.kept.now c.in_ok-parts.parts c.args.now c.in_ok-parts.ensures c.in-None.ensures
