-- What is known of a shared key holds in every thread.
use Rattle.std.specs.Prelude.{Option, Some, None}
use base.Fml.{ftrue}
use base.Shift.{Keyless}
use denote.Exit.{Exit, unchanged, leaves, hidden, under}
use denote.Param.Send.{IsSend, AllSend, Quiet, owning_send, struct_send, sendable}
use denote.RawPtr.{Ptr, block_ptr, null_ptr, block_of, count_of, in_block}
use denote.Struct.Owning.{shape, fields, to}
use denote.Struct.Struct.{exits_of}
use Rattle.stun_keys.specs.contracts.keys.integrity_key.IntegrityKey.{the_row as Key}
use Rattle.stun_keys.proofs.keys.integrity_key.IntegrityKey.TheSendSync.{the_sync as key_syncs}
use Rattle.stun_types_c.specs.KeyMemory.{shared_if_some}
use Rattle.stun_types_c.specs.contracts.shared_place.SharedPlace.{the_row, the_type}

somewhere : (p : Ptr) → Keyless (in_block p ftrue)
somewhere (block_ptr b o) = tt
somewhere null_ptr = tt

owned : (p : Ptr) (value : Option Key.Denot) → Keyless (shared_if_some Key p value)
owned p None = tt
owned p (Some key) = λ life. ((somewhere p, key_syncs.shared key (block_of p) (count_of p) life), λ share. tt)

quiet : {D X : Type 0} (to : D → X) (e : Exit X) → Quiet e → Quiet (hidden (under to e))
quiet to unchanged q = λ x w. tt
quiet to (leaves L l S s r₀) q = λ d. q (to d)

pub send : IsSend the_row
send =
    let all : AllSend (fields the_type) = (search sendable, tt) in
    owning_send the_type all (λ place. owned place.at place.value)
    (λ k. quiet (to the_type) (exits_of k (fields the_type))
    ((struct_send (shape the_type) all).leaving k))
