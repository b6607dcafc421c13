use Rattle.std.proofs.Common.{◌≡◌, ℕ, ◌/◌, ◌++◌, length, ap, arith}
use Rattle.stun_text.proofs.Joining.{both, spelled_so}
use Rattle.stun_text.specs.Lists.{with_commas, comma_before}
use Rattle.stun_plain_text.proofs.TypesLemmas.{types_more}
use Rattle.stun_plain_text.specs.PlainValues.{type_text}
use Rattle.stun_values.specs.TypeLists.{types_within}
use Rattle.stun_plain_text.proofs.types.put_types_in.Goals as goal

pub loop-i-preserved : goal.loop-i-preserved
loop-i-preserved g c =
    let wrote = g.S.TextSink.wrote in
    let joins = g.met.S.TextSink.joins in
    let next = comma_before c.loop-i.i ++ type_text c.number_at.result in
    let before = c.loop-i.invariant in
    let one = c.in_ok-put_listed.ensures in
    spelled_so wrote joins (types_more type_text c.loop-i.i c.number_at.result c.args.value.now c.number_at.ensures) (both wrote joins {b = next} before one)

pub returns : goal.returns
returns g c =
    let value = c.args.value.now in
    let all : c.loop-i.i ≡ length value / 2 = omega arith in
    let before = c.loop-i.invariant in
    spelled_so g.S.TextSink.wrote g.met.S.TextSink.joins (ap (λ (n : ℕ). with_commas type_text (types_within n value)) all) before
