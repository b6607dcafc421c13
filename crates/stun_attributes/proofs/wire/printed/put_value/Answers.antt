use Rattle.std.proofs.Common.{rules, arith}
use Rattle.std.proofs.lemmas.Grind.{common_steps}
use Rattle.stun_text.proofs.Joining.{both, spelled_so}
use Rattle.stun_attributes.proofs.wire.printed.put_value.Goals as goal

pub returns : goal.returns
returns g c =
    let wrote = g.S.TextSink.wrote in
    let joins = g.met.S.TextSink.joins in
    let a = c.in_ok-put.ensures in
    let b = c.in_ok-put_decimal.ensures in
    let d = c.in_ok-put-2.ensures in
    let e = c.in_ok-put_data.ensures in
    let f = c.in_ok-put-3.ensures in
    spelled_so wrote joins (first_of (search rules, grind (arith, common_steps))) (both wrote joins a (both wrote joins b (both wrote joins d (both wrote joins e f))))
