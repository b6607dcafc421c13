use Rattle.stun_types_c.proofs.KeptLemmas.{stops}
use Rattle.stun_types_c.proofs.transactions.sending.stun_types_transaction_stop_sending.Goals as goal

pub returns : goal.returns
returns c = stops _ _ _ _ _ c.in-Some.ensures c.stop_sending.ensures c.store.ensures c.plain-2.ensures
