use Rattle.stun_types_c.proofs.key_handle.KeyHandle.TheSendSync.{the_send}
use Rattle.stun_types_c.proofs.laws.handle_may_go_to_another_thread.Goals as goal

-- a handle is a place and a number
pub returns : goal.returns
returns c = the_send
