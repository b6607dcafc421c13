-- The place of an agent may go to another thread: what it owns of the agent and of its memory may.
use denote.Param.Send.{IsSend, sendable}
use Rattle.std.proofs.alloc.Global.TheSendSync.{the_field_send}
use Rattle.std.specs.contracts.alloc.Global.{the_row as Heap}
use Rattle.stun_types_c.specs.contracts.ice_core.IceCore.{the_row as Core}
use Rattle.stun_types_c.proofs.ice_core.IceCore.TheSendSync.{the_send}
use Rattle.stun_types_c.specs.contracts.ice_place.IcePlace as place
use Rattle.stun_types_c.proofs.SendingLemmas.{owning_sends, kept}

pub send : IsSend place.the_row
send =
    owning_sends place.struct (place.the_codes Heap.coded) place.the_heap (search sendable, (the_field_send, tt))
    (λ value. kept Core the_send value.alloc value.at value.value)
