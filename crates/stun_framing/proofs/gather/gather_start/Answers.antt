use Rattle.std.proofs.Common.{arith}
use Rattle.stun_framing.proofs.GatheringLemmas.{start_held, first_refused}
use Rattle.stun_framing.proofs.gather.gather_start.Goals as goal

pub returns-in-Ok-clause-start : goal.returns-in-Ok-clause-start
returns-in-Ok-clause-start c =
    start_held c.args.carries c.args.buffer.now c.fill-start.new.buffer c.args.piece.now c.args.held c.fill-start.result c.in-Ok.wanted
    c.fill-start.auto.buffer (omega arith) (omega arith) c.fill-start.ensures.count c.fill-start.ensures.bytes c.in-Ok.ensures.0 c.in-Ok.ensures.1

pub returns-in-Err-clause-start : goal.returns-in-Err-clause-start
returns-in-Err-clause-start c =
    first_refused c.args.carries c.args.buffer.now c.fill-start.new.buffer c.args.piece.now c.args.held c.fill-start.result 4 c.in-Err.fault
    c.fill-start.ensures.bytes c.fill-start.ensures.stays c.in-Err.ensures
