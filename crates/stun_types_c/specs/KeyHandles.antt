-- Keys in the hands of C.
use Rattle.std.specs.Prelude.{Option}
use Rattle.stun_keys.specs.declared.keys.integrity_key.IntegrityKey.{IntegrityKey}
use Rattle.stun_types_c.specs.declared.key_handle.KeyHandle.{KeyHandle}
use Rattle.stun_types_c.specs.declared.shared_key.SharedKey.{SharedKey}

-- the key that a handle holds
abbrev pub held_key : KeyHandle → Option IntegrityKey
held_key handle = handle.place.value

-- the key that a call shares with others
abbrev pub shared_key : SharedKey → Option IntegrityKey
shared_key shared = shared.place.value
