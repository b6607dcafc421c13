use Rattle.std.specs.Fmt.{decimal}
use Rattle.stun_text.proofs.Joining.{both, spelled_so}
use Rattle.stun_text.proofs.ListsLemmas.{commas_next}
use Rattle.stun_attributes.proofs.wire.printed.put_bytes.Goals as goal

pub loop-i-preserved : goal.loop-i-preserved
loop-i-preserved g c =
    let wrote = g.S.TextSink.wrote in
    let joins = g.met.S.TextSink.joins in
    let before = c.loop-i.invariant in
    let one = c.in_ok-put_byte.ensures in
    spelled_so wrote joins (commas_next decimal c.args.bytes.now c.loop-i.i 0 c.loop-i-test.true) (both wrote joins before one)
