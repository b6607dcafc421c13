use Rattle.std.proofs.Common.{refl}
use Rattle.stun_transactions.specs.Transactions.{after_receiving}
use Rattle.stun_transactions.specs.Slots.{addressee}
use Rattle.stun_transactions.proofs.SlotsLemmas.{changed_distinct}
use Rattle.stun_transactions.proofs.transactions.Transactions.receive.Goals as goal

pub invariant_of-self : goal.invariant_of-self
invariant_of-self g c =
    rw c.receive.ensures.slots (changed_distinct (after_receiving c.args.understood.now c.args.bytes.now) (λ t. refl) (addressee c.args.bytes.now c.self.inside.slots) c.self.inside.slots c.self.invariant)
