use Rattle.stun_text.proofs.Joining.{both, spelled_so}
use Rattle.stun_text.proofs.ListsLemmas.{commas_next}
use Rattle.stun_grammar.specs.declared.attribute_type.AttributeType.{AttributeType}
use Rattle.stun_grammar.specs.Names.{attribute_type_debug}
use Rattle.stun_values.proofs.types.put_types.Goals as goal

pub loop-i-preserved : goal.loop-i-preserved
loop-i-preserved g c =
    let wrote = g.S.TextSink.wrote in
    let joins = g.met.S.TextSink.joins in
    let before = c.loop-i.invariant in
    let one = c.in_ok-put_listed.ensures in
    spelled_so wrote joins (commas_next (λ (type : AttributeType). attribute_type_debug type.0) c.args.types.now c.loop-i.i (record { 0 = 0 }) c.loop-i-test.true) (both wrote joins before one)
