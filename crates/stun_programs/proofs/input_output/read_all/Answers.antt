use Rattle.std.proofs.Common.{◌++◌, take, arith}
use Rattle.std.proofs.lemmas.List.{length-append}
use Rattle.stun_programs.proofs.KnownBytesLemmas.{Consumes-append}
use Rattle.stun_programs.proofs.input_output.read_all.Goals as goal

pub returns-then-count-most : goal.returns-then-count-most
returns-then-count-most g c =
    let remaining = g.R.Read.remaining in
    let reported = c.in-Ok.ensures in
    record {
      input = c.loop-turn.input.items ++ take c.in-Ok.count c.read.new.buf;
      read = Consumes-append (remaining c.args.reader.now) (remaining c.loop-turn.reader) (remaining c.read.new.self) c.loop-turn.input.items (take c.in-Ok.count c.read.new.buf) c.loop-turn.invariant.read reported.bytes.0;
      long = omega (arith, c.loop-turn.input.ok.0, c.len.ensures, c.if-count-most.true, reported.bound.1, length-append c.loop-turn.input.items (take c.in-Ok.count c.read.new.buf));
    }
