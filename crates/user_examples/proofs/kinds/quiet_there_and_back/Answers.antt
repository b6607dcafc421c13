use Rattle.std.proofs.Common.{rules, ◌≡◌, ◌∙◌}
use Rattle.stun_attributes.specs.Kinds.{fields_held}
use Rattle.stun_types.specs.Message.{message_bytes}
use Rattle.user_examples.specs.Kinds.{flag_number}
use Rattle.user_examples.proofs.KindsLemmas.{flag_held, flag_fits}
use Rattle.user_examples.proofs.kinds.quiet_there_and_back.Goals as goal

pub unreachable-requires : goal.unreachable-requires
unreachable-requires c =
    let flag = fields_held c.new.result in
    let one = c.packed_attribute_is_read_back.ensures c.new.result (flag_held flag) (c.number_is_read_back.ensures.one (flag_number flag) (flag_fits flag)) in
    let bytes : message_bytes c.in_ok-message.message ≡ c.in_ok-bytes.bytes.items = c.in_ok-message.ensures.1 ∙ c.deref.ensures.value in
    let read = c.typed_is_read_back.ensures.same _ c.new.result c.attribute.result one c.in_ok-bytes.ensures.shows (rw (← bytes) c.attribute.ensures.reads) in
    cc (read, c.in_default.is)

pub returns : goal.returns
returns c =
    let flag = fields_held c.new.result in
    let one = c.packed_attribute_is_read_back.ensures c.new.result (flag_held flag) (c.number_is_read_back.ensures.one (flag_number flag) (flag_fits flag)) in
    let bytes : message_bytes c.in_ok-message.message ≡ c.in_ok-bytes.bytes.items = c.in_ok-message.ensures.1 ∙ c.deref.ensures.value in
    let read = c.typed_is_read_back.ensures.same _ c.new.result c.attribute.result one c.in_ok-bytes.ensures.shows (rw (← bytes) c.attribute.ensures.reads) in
    search (rules, read)
