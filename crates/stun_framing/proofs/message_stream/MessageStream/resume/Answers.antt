use Rattle.std.proofs.Common.{None, sym, subst}
use Rattle.stun_framing.specs.declared.gather.Gathered.{Gathered}
use Rattle.stun_framing.specs.Fields.{IsStream}
use Rattle.stun_framing.proofs.ResumingLemmas.{resumes_if, resumed_is}
use Rattle.stun_framing.proofs.message_stream.MessageStream.resume.Goals as goal

pub invariant_of-result : goal.invariant_of-result
invariant_of-result c =
    let held = c.in-Some.ensures in
    subst (λ (gathered : Gathered). IsStream c.args.carries c.args.buffer.now gathered None) (sym held.1)
    (resumed_is c.args.carries c.args.buffer.now c.args.held (resumes_if c.args.carries c.args.buffer.now c.args.held held.0))
