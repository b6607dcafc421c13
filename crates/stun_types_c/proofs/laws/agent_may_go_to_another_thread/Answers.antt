use Rattle.stun_types_c.proofs.ice_handle.CIce.TheSendSync.{the_send}
use Rattle.stun_types_c.proofs.laws.agent_may_go_to_another_thread.Goals as goal

-- a handle is a place and a number
pub returns : goal.returns
returns c = the_send
