use Rattle.std.proofs.Common.{refl}
use Rattle.stun_transactions.specs.Transactions.{stopping}
use Rattle.stun_transactions.specs.Slots.{place_of}
use Rattle.stun_transactions.proofs.SlotsLemmas.{changed_distinct}
use Rattle.stun_transactions.proofs.transactions.Transactions.stop_sending.Goals as goal

pub invariant_of-self : goal.invariant_of-self
invariant_of-self g c =
    rw c.stop_sending.ensures.slots (changed_distinct stopping (λ t. refl) (place_of c.args.id c.self.inside.slots) c.self.inside.slots c.self.invariant)
