use Rattle.std.proofs.Common.{◌≡◌, List, Option, None, Some, subst}
use Rattle.std.specs.Prelude.{MatchResult}
use Rattle.stun_types.specs.Message.{message_bytes}
use Rattle.stun_transactions.specs.declared.transaction.Transaction.{Transaction}
use Rattle.stun_transactions.specs.declared.plan.Plan.{Plan}
use Rattle.stun_transactions.specs.Slots.{add_fault, Adds}
use Rattle.stun_transactions.proofs.SlotsLemmas.{add_distinct, begun}
use Rattle.stun_transactions.proofs.transactions.Transactions.begin.Goals as goal

pub invariant_of-self : goal.invariant_of-self
invariant_of-self g c =
    add_distinct c.in-Ok.transaction c.self.inside.slots c.add.new.slots c.add.result c.add.ensures c.self.invariant

pub returns-in-Ok : goal.returns-in-Ok
returns-in-Ok g c =
    let r = message_bytes c.args.request.now in
    let plan : Plan = record { schedule = c.args.schedule; transport = c.args.transport } in
    let P : List (Option Transaction) → Type 0 = λ old.
    MatchResult c.add.result
    (λ _. (add_fault c.args.protection r old ≡ None) × Adds r plan c.args.protection c.args.usage c.args.now old c.add.new.slots)
    (λ e. (add_fault c.args.protection r old ≡ Some e) × (c.add.new.slots ≡ old)) in
    subst P c.self.view_is
    (begun r plan c.args.protection c.args.usage c.args.now c.in-Ok.transaction c.self.inside.slots c.add.new.slots c.add.result c.in-Ok.ensures.0 c.in-Ok.ensures.1 c.add.ensures)
