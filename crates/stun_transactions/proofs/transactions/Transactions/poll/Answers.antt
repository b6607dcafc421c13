use Rattle.stun_transactions.proofs.SlotsLemmas.{polls_distinct}
use Rattle.stun_transactions.proofs.transactions.Transactions.poll.Goals as goal

pub invariant_of-self : goal.invariant_of-self
invariant_of-self g c =
    polls_distinct c.self.inside.slots c.args.now c.poll.result c.poll.new.slots c.poll.ensures c.self.invariant
