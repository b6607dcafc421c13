use Rattle.std.proofs.Common.{rules, arith}
use Rattle.std.proofs.lemmas.Grind.{common_steps}
use Rattle.stun_text.proofs.Joining.{both, spelled_so}
use Rattle.stun_base.proofs.message_type.put_class_and_method.Goals as goal

pub returns : goal.returns
returns g c =
    let wrote = g.S.TextSink.wrote in
    let joins = g.met.S.TextSink.joins in
    let a = c.in_ok-put.ensures in
    let b = c.in_ok-put-2.ensures in
    let d = c.in_ok-put_numbered.ensures in
    spelled_so wrote joins (first_of (search rules, grind (arith, common_steps))) (both wrote joins a (both wrote joins b d))
