use Rattle.std.proofs.Common.{arith}
use Rattle.stun_grammar.proofs.HeadersLemmas.{frame_there, header_there}
use Rattle.stun_types.proofs.IteratingLemmas.{from_start, unframed}
use Rattle.stun_types_c.proofs.attribute.start.Goals as goal

pub returns-in-Ok : goal.returns-in-Ok
returns-in-Ok c = record {
  behind = omega arith;
  within = (header_there c.args.bytes.now (frame_there c.args.bytes.now c.in-Ok.ensures)).0;
  shows = from_start c.args.bytes.now c.in-Ok.ensures;
}

pub returns-in-Err : goal.returns-in-Err
returns-in-Err c = unframed c.args.bytes.now c.in-Err.field-0 c.in-Err.ensures
