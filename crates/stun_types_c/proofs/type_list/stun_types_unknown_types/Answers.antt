use Rattle.std.proofs.Common.{◌≡◌, List, rules, length, map-id, ap, refl, ◌∙◌, sym, arith}
use Rattle.std.proofs.lemmas.Iterator.Consumers.{YieldsList-from_first, YieldsList-turn, YieldsList-end}
use Rattle.std.proofs.lemmas.List.{length-map}
use Rattle.stun_grammar.specs.declared.attribute_type.AttributeType.{AttributeType}
use Rattle.stun_grammar.specs.Adding.{numbers}
use Rattle.stun_text.specs.Slices.{laid_over}
use Rattle.stun_types.specs.Replies.{unknown_types}
use Rattle.stun_types.specs.UnknownTypes.{types_left}
use Rattle.stun_types_c.proofs.TypeListsLemmas.{reported_more, few_unknown}
use Rattle.stun_types_c.proofs.type_list.stun_types_unknown_types.Goals as goal

pub overflow_add-count : goal.overflow_add-count
overflow_add-count c =
    let found = unknown_types c.args.supported.now c.args.bytes.now in
    let start = ap types_left c.into_iter-atype-iterator.ensures.into_iter_gives ∙ c.new-atype-items.ensures in
    let all = YieldsList-from_first (λ (t : AttributeType). t) types_left {s = c.into_iter-atype-iterator.result} found start in
    let here = YieldsList-turn all c.loop-atype.yielded c.loop-atype.atype-iterator c.loop-atype.yielded_by c.next.result c.next.new.self c.in-Some.atype c.in-Some.is c.next.ensures.steps in
    omega (arith, c.loop-atype.invariant.0, here.0, few_unknown c.args.supported.now c.args.bytes.now)

pub loop-atype-preserved : goal.loop-atype-preserved
loop-atype-preserved c =
    reported_more c.loop-atype.yielded c.in-Some.atype c.loop-atype.count _ c.loop-atype.types c.put_behind.new.types c.args.types.now c.loop-atype.invariant refl (search rules)

pub returns : goal.returns
returns c =
    let found = unknown_types c.args.supported.now c.args.bytes.now in
    let start = ap types_left c.into_iter-atype-iterator.ensures.into_iter_gives ∙ c.new-atype-items.ensures in
    let all = YieldsList-from_first (λ (t : AttributeType). t) types_left {s = c.into_iter-atype-iterator.result} found start in
    let ended = YieldsList-end all c.loop-atype.yielded c.loop-atype.atype-iterator c.loop-atype.yielded_by c.next.result c.next.new.self c.in-None.is c.next.ensures.steps in
    let same : c.loop-atype.yielded ≡ found = sym (map-id c.loop-atype.yielded) ∙ ended.0 in
    record {
      count = c.loop-atype.invariant.0 ∙ ap length same ∙ sym (length-map found (λ (t : AttributeType). t.0));
      types = c.loop-atype.invariant.1 ∙ ap (λ (types : List AttributeType). laid_over (numbers types) c.args.types.now) same;
    }
