use Rattle.std.proofs.Common.{take, arith}
use Rattle.stun.proofs.StreamLemmas.{consumes_behind}
use Rattle.stun.proofs.stream.read_piece.Goals as goal

pub returns-in-Ok : goal.returns-in-Ok
returns-in-Ok g c =
    let remaining = g.R.Read.remaining in
    let reported = c.in-Ok.ensures in
    record {
      within = reported.bound.0;
      read = consumes_behind (remaining c.args.reader.now) (remaining c.loop-turn.reader) (remaining c.read.new.self) (take c.in-Ok.count c.read.new.buf) c.loop-turn.invariant reported.bytes.0;
      ended = λ none. reported.bytes.1 none (omega (arith, c.requires, c.loop-turn.auto.piece, c.read.auto.buf));
    }
