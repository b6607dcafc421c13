use Rattle.std.proofs.Common.{arith}
use Rattle.std.proofs.lemmas.Grind.{common_steps}
use Rattle.stun_text.proofs.Joining.{both, spelled_so}
use Rattle.stun_text.proofs.address.put_groups.Goals as goal

pub loop-group-preserved : goal.loop-group-preserved
loop-group-preserved g c =
    let wrote = g.S.TextSink.wrote in
    let joins = g.met.S.TextSink.joins in
    let kept = c.loop-group.invariant in
    let colon = c.in_ok-put.ensures in
    let last = c.in_ok-put_group-2.ensures in
    spelled_so wrote joins (grind (arith, common_steps)) (both wrote joins kept (both wrote joins colon last))
