use Rattle.std.proofs.Common.{List, ℕ, sym, ap, ◌∙◌, arith}
use Rattle.stun_grammar.specs.declared.attribute_type.AttributeType.{AttributeType}
use Rattle.stun_grammar.specs.Adding.{first_of, numbers}
use Rattle.stun_types.specs.Listing.{counted}
use Rattle.stun_types.proofs.ListedLemmas.{next, last, behind_more, found_here, found_later, found_none}
use Rattle.stun_types.proofs.writing.listed.find_listed.Goals as goal

pub walk-smaller : goal.walk-smaller
walk-smaller c =
    let reported = rw c.in-Some.is at c.whole_attribute_at.ensures in
    omega (arith, reported.0, behind_more c.in-Some.attribute c.in-Some.behind c.walk.offset c.args.attributes.now reported.1)

pub walk-preserved : goal.walk-preserved
walk-preserved c =
    let reported = rw c.in-Some.is at c.whole_attribute_at.ensures in
    let step = next c.in-Some.attribute c.in-Some.behind c.walk.offset c.args.attributes.now reported.1 in
    let number = ap (λ (type : AttributeType). type.0) c.get_type-atype.ensures ∙ c.header.ensures.atype in
    let here = rw number at (sym c.is_found.ensures ∙ c.if-is_found.false) in
    record {
      within = reported.0;
      found = c.walk.invariant.found
          ∙ ap (λ (ts : List ℕ). first_of (numbers c.args.asked.now) (counted c.args.ends ts)) step.types_are
          ∙ found_later (numbers c.args.asked.now) _ c.args.ends _ here;
    }

pub returns : goal.returns
returns c =
    let reported = rw c.in_default.is at c.whole_attribute_at.ensures in
    let end = last c.walk.offset c.args.attributes.now reported in
    sym (c.walk.invariant.found ∙ found_none (numbers c.args.asked.now) c.args.ends _ end.types_are)

pub returns-then-is_found : goal.returns-then-is_found
returns-then-is_found c =
    let reported = rw c.in-Some.is at c.whole_attribute_at.ensures in
    let step = next c.in-Some.attribute c.in-Some.behind c.walk.offset c.args.attributes.now reported.1 in
    let number = ap (λ (type : AttributeType). type.0) c.get_type-atype.ensures ∙ c.header.ensures.atype in
    let here = rw number at (sym c.is_found.ensures ∙ c.if-is_found.true) in
    rw number (sym (c.walk.invariant.found
    ∙ ap (λ (ts : List ℕ). first_of (numbers c.args.asked.now) (counted c.args.ends ts)) step.types_are
    ∙ found_here (numbers c.args.asked.now) _ c.args.ends _ here))
