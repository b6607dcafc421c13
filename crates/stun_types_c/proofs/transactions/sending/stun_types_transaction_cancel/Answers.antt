use Rattle.stun_types_c.proofs.KeptLemmas.{ends}
use Rattle.stun_types_c.proofs.transactions.sending.stun_types_transaction_cancel.Goals as goal

pub returns : goal.returns
returns c = ends _ _ _ _ _ _ c.in-Some.ensures c.cancel.ensures c.store.ensures c.plain-2.ensures
