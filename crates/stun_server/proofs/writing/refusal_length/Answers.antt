use Rattle.std.proofs.Common.{arith}
use Rattle.stun_types.specs.Replies.{unknown_types}
use Rattle.stun_server.proofs.InSliceLemmas.{refusal_size}
use Rattle.stun_server.proofs.writing.refusal_length.Goals as goal

pub returns : goal.returns
returns c =
    let r = c.args.unknown.now.request.now in
    let few = c.count-count.ensures in
    omega (arith, refusal_size r (unknown_types c.args.unknown.now.supported.now r) c.requires (omega (arith, few.count, few.few)), c.grown_length-len.ensures.length, c.grown_length-len-2.ensures.length, c.grown_length.ensures.length)
