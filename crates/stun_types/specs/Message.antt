-- The bytes of a message.
use Rattle.std.specs.Prelude.{ℕ, List}
use Rattle.stun_types.specs.declared.message.read.Message.{Message}

-- the bytes that the message was parsed from
abbrev pub message_bytes : Message → List ℕ
message_bytes message = message.bytes.now
