use Rattle.std.proofs.Common.{◌≡◌, ◌∙◌}
use Rattle.stun_types.specs.Message.{message_bytes}
use Rattle.user_examples.proofs.kinds.marker_there_and_back.Goals as goal

pub unreachable-requires : goal.unreachable-requires
unreachable-requires c =
    let one = c.empty_is_read_back.ensures c.new.result in
    let bytes : message_bytes c.in_ok-message.message ≡ c.in_ok-bytes.bytes.items = c.in_ok-message.ensures.1 ∙ c.deref.ensures.value in
    let read = c.typed_is_read_back.ensures.same _ c.new.result c.attribute.result one c.in_ok-bytes.ensures.shows (rw (← bytes) c.attribute.ensures.reads) in
    cc (read, c.in_default.is)
