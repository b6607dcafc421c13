use Rattle.stun_types_c.proofs.turn_handle.CTurn.TheSendSync.{the_send}
use Rattle.stun_types_c.proofs.laws.server_may_go_to_another_thread.Goals as goal

-- a handle is a place and a number
pub returns : goal.returns
returns c = the_send
