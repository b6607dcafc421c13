use Rattle.std.proofs.Common.{take, length, ap, arith}
use Rattle.std.proofs.lemmas.List.{take_rest, length-drop}
use Rattle.stun_programs.proofs.KnownBytesLemmas.{Appends-keep, Appends-more}
use Rattle.stun_programs.proofs.input_output.write_all.Goals as goal
use Rattle.stun_programs.proofs.input_output.write_all.Goals.{in-Ok, in-Err+else-ne}

pub loop-turn-preserved : goal.loop-turn-preserved
loop-turn-preserved g c =
    let contents = g.W.Write.contents in
    let bytes = c.args.bytes.now in
    elim c.match-write.branch [
      | in-Ok w ↦
          let reported = w.in-Ok.ensures in
          record {
            written = rw w.written-is (Appends-more (contents c.args.writer.now) (contents c.loop-turn.writer) (contents c.write.new.self) bytes c.loop-turn.written w.in-Ok.count c.loop-turn.invariant.written reported.bytes);
            within = omega (arith, reported.bound, length-drop c.loop-turn.written bytes, ap length (take_rest bytes c.loop-turn.written));
          }
      | in-Err+else-ne w ↦
          let reported = w.in-Err.ensures in
          record {
            written = rw w.written-is (Appends-keep (contents c.args.writer.now) (contents c.loop-turn.writer) (contents c.write.new.self) (take c.loop-turn.written bytes) c.loop-turn.invariant.written reported.bytes);
            within = omega arith;
          }
    ]
