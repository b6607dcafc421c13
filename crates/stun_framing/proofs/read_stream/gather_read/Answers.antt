use Rattle.std.proofs.Common.{arith}
use Rattle.stun_framing.proofs.ReadingLemmas.{holds_read, refuses_read}
use Rattle.stun_framing.proofs.read_stream.gather_read.Goals as goal

pub returns-in-Ok-clause-first : goal.returns-in-Ok-clause-first
returns-in-Ok-clause-first c =
    holds_read c.args.carries c.args.buffer.now c.args.gathered.held c.args.count c.in-Ok.wanted (omega (arith, c.requires.within, c.requires.gathered.wanted_is)) c.requires.there c.in-Ok.ensures.0 c.in-Ok.ensures.1

pub returns-in-Err-clause-first : goal.returns-in-Err-clause-first
returns-in-Err-clause-first c = refuses_read c.args.carries c.args.buffer.now c.args.gathered.held c.args.count c.in-Err.fault c.in-Err.ensures
