use Rattle.std.proofs.Common.{rules, arith}
use Rattle.std.proofs.lemmas.Grind.{common_steps}
use Rattle.stun_text.proofs.Joining.{both, spelled_so}
use Rattle.std.specs.Net.Text.{hex_groups_text}
use Rattle.stun_text.proofs.address.put_compressed.Goals as goal

pub returns : goal.returns
unfolding hex_groups_text
returns g c =
    let wrote = g.S.TextSink.wrote in
    let joins = g.met.S.TextSink.joins in
    let a = c.in_ok-put_groups.ensures in
    let b = c.in_ok-put.ensures in
    let d = c.in_ok-put_groups-2.ensures in
    spelled_so wrote joins (first_of (search rules, grind (arith, common_steps))) (both wrote joins a (both wrote joins b d))

pub returns-then-length-le1 : goal.returns-then-length-le1
unfolding hex_groups_text
returns-then-length-le1 g c = first_of (search rules, grind (arith, common_steps))
