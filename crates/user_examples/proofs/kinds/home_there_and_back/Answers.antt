use Rattle.std.proofs.Common.{◌≡◌, ◌∙◌}
use Rattle.stun_types.specs.Message.{message_bytes}
use Rattle.user_examples.proofs.kinds.home_there_and_back.Goals as goal

pub returns : goal.returns
returns c = λ mine other.
    let bytes : message_bytes c.in_ok-message.message ≡ c.in_ok-bytes.bytes.items = c.in_ok-message.ensures.1 ∙ c.deref.ensures.value in
    let reads = c.typed_is_read_back.ensures.reads _ c.args.home.now c.attribute.result c.in_ok-bytes.ensures.shows (rw (← bytes) c.attribute.ensures.reads) in
    let same = c.address_attribute_is_read_back.ensures.xored c.args.home.now mine c.attribute.result reads in
    let here = rw c.in_ok-read.was at same in
    here other
