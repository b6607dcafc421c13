use Rattle.std.proofs.Common.{◌≡◌, ℕ, ◌<◌, length, Option, None, rules, slice_index_or}
use Rattle.stun_transactions.specs.declared.transaction.Transaction.{Transaction}
use Rattle.stun_transactions.proofs.SlotsLemmas.{free_distinct}
use Rattle.stun_transactions.proofs.transactions.Transactions.new.Goals as goal

pub returns-clause-free : goal.returns-clause-free
returns-clause-free g c k d below =
    let called = c.from_fn.ensures.items.at k d (rw c.from_fn.ensures.items.long at below) in
    search (rules, called)

pub invariant_of-result : goal.invariant_of-result
invariant_of-result g c =
    let free : (k : ℕ) (d : Option Transaction) → k < length c.from_fn.result → slice_index_or c.from_fn.result k d ≡ None =
    λ k d below. let called = c.from_fn.ensures.items.at k d (rw c.from_fn.ensures.items.long at below) in search (rules, called) in
    free_distinct c.from_fn.result free
