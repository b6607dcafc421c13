use Rattle.stun_types_c.proofs.shared_key.SharedKey.TheSendSync.{the_send, the_sync}
use Rattle.stun_types_c.proofs.laws.handle_may_be_shared.Goals as goal

-- a shared key is a place and a number
pub returns-clause-sent : goal.returns-clause-sent
returns-clause-sent c = the_send

pub returns-clause-shared : goal.returns-clause-shared
returns-clause-shared c = the_sync
