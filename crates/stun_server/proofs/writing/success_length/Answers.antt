use Rattle.std.proofs.Common.{arith}
use Rattle.stun_attributes.specs.Kinds.{xored_of}
use Rattle.stun_types.specs.Message.{message_bytes}
use Rattle.stun_server.proofs.InSliceLemmas.{success_size}
use Rattle.stun_server.proofs.writing.success_length.Goals as goal

pub returns : goal.returns
returns c =
    let size = success_size c.args.source (xored_of c.new-mapped.result) (message_bytes c.args.request.now) c.transaction_id.result c.transaction_id.ensures c.new-mapped.ensures in
    omega (arith, size, c.grown_length-len.ensures.length, c.grown_length.ensures.length)
