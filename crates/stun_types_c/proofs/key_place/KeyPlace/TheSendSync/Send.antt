-- The place of a key may go to another thread: what it owns of the key and of its memory may.
use denote.Param.Send.{IsSend, sendable}
use Rattle.std.proofs.alloc.Global.TheSendSync.{the_field_send}
use Rattle.std.specs.contracts.alloc.Global.{the_row as Heap}
use Rattle.stun_keys.specs.contracts.keys.integrity_key.IntegrityKey.{the_row as Key}
use Rattle.stun_keys.proofs.keys.integrity_key.IntegrityKey.TheSendSync.{the_send}
use Rattle.stun_types_c.specs.contracts.key_place.KeyPlace as place
use Rattle.stun_types_c.proofs.SendingLemmas.{owning_sends, kept}

pub send : IsSend place.the_row
send =
    owning_sends place.struct (place.the_codes Heap.coded) place.the_heap (search sendable, (the_field_send, tt))
    (λ value. kept Key the_send value.alloc value.at value.value)
