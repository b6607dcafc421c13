use Rattle.stun_grammar.proofs.HeadersLemmas.{header_there, frame_there}
use Rattle.std.proofs.Common.{ap, arith}
use Rattle.stun_types.specs.Iterating.{borrowed}
use Rattle.stun_types.proofs.IteratingLemmas.{from_start, length-items}
use Rattle.stun_types.proofs.reading.frame.iter_framed.Goals as goal

pub invariant_of-result : goal.invariant_of-result
invariant_of-result c = record { within = (header_there c.args.bytes.now (frame_there c.args.bytes.now c.requires)).0 }

pub returns-clause-items : goal.returns-clause-items
returns-clause-items c = ap borrowed (from_start c.args.bytes.now c.requires)

pub returns-clause-bound : goal.returns-clause-bound
returns-clause-bound c = omega (arith, length-items 0 20 c.args.bytes.now)
