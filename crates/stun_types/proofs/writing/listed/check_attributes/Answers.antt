use Rattle.std.proofs.Common.{refl, ap, ◌∙◌, arith}
use Rattle.std.proofs.lemmas.Result.{err_from_is_err_and}
use Rattle.stun_grammar.specs.declared.attribute_type.AttributeType.{AttributeType}
use Rattle.stun_grammar.specs.AttributeTypes.{is_ending}
use Rattle.stun_types.specs.Resuming.{message_types}
use Rattle.stun_types.proofs.ListedLemmas.{next, last, behind_more, ends_next, ends_last}
use Rattle.stun_types.proofs.writing.listed.check_attributes.Goals as goal

pub walk-init : goal.walk-init
walk-init c = record { within = c.requires; end_is = refl; rest_is = refl; ends = refl }

pub returns-in_err-attribute : goal.returns-in_err-attribute
returns-in_err-attribute c =
    let p = err_from_is_err_and c.from_residual.result c.from_residual.ensures.1 in
    let reported = c.in_err-attribute.ensures in
    let end = last c.walk.offset c.args.message.now reported.0 in
    rw (p.1, p.2) (rw (c.walk.invariant.end_is, end.end_is, c.walk.invariant.rest_is, end.rest_is) reported.1)

pub walk-smaller : goal.walk-smaller
walk-smaller c =
    let reported = rw c.in-Some.is at c.in_ok-attribute.ensures in
    omega (arith, reported.0, behind_more c.in-Some.attribute c.in-Some.behind c.walk.offset c.args.message.now reported.1)

pub walk-preserved : goal.walk-preserved
walk-preserved c =
    let reported = rw c.in-Some.is at c.in_ok-attribute.ensures in
    let step = next c.in-Some.attribute c.in-Some.behind c.walk.offset c.args.message.now reported.1 in
    let number = ap (λ (type : AttributeType). type.0) c.get_type.ensures ∙ c.header.ensures.atype in
    record {
      within = reported.0;
      end_is = c.walk.invariant.end_is ∙ step.end_is;
      rest_is = c.walk.invariant.rest_is ∙ step.rest_is;
      ends = c.walk.invariant.ends ∙ ends_next c.walk.ends c.is_ending-ends.result _ _ _ step.types_are (c.is_ending-ends.ensures ∙ ap is_ending number);
    }

pub returns : goal.returns
returns c =
    let reported = rw c.in_default.is at c.in_ok-attribute.ensures in
    let end = last c.walk.offset c.args.message.now reported.0 in
    (rw (c.walk.invariant.end_is, end.end_is, c.walk.invariant.rest_is, end.rest_is) reported.1, ends_last c.walk.ends (message_types c.args.message.now) _ c.walk.invariant.ends end.types_are)
