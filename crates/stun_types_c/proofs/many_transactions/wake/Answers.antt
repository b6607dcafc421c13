use Rattle.stun_types_c.proofs.ManyTransactionsLemmas.{wakes, sleeps}
use Rattle.stun_types_c.proofs.many_transactions.wake.Goals as goal

pub returns-in-Some : goal.returns-in-Some
returns-in-Some c = rw c.millis.ensures (wakes c.args.kept.now c.in_ok-parts.parts c.in-Some.at c.in_ok-parts.ensures c.in-Some.ensures.0 c.in-Some.ensures.1)

pub returns-in-None : goal.returns-in-None
returns-in-None c = sleeps c.args.kept.now c.in_ok-parts.parts c.in_ok-parts.ensures c.in-None.ensures
