use Rattle.std.proofs.Common.{◌∷◌, [], map-id, ap, ◌∙◌, sym, arith}
use Rattle.std.proofs.lemmas.Iterator.Consumers.{YieldsList-from_first, YieldsList-so_far, YieldsList-turn, YieldsList-end}
use Rattle.std.proofs.lemmas.List.{length-append}
use Rattle.stun_grammar.specs.declared.attribute_type.AttributeType.{AttributeType}
use Rattle.stun_types.specs.Replies.{unknown_types}
use Rattle.stun_types.specs.UnknownTypes.{types_left}
use Rattle.ice_checks.specs.Types.{listed_types, understood}
use Rattle.ice_checks.proofs.UnknownLemmas.{all_listed, first_listed, listed_written, one_more, room_for_one}
use Rattle.ice_checks.proofs.unknown.write_unknown.Goals as goal

pub returns-then-count-eq-MOST : goal.returns-then-count-eq-MOST
returns-then-count-eq-MOST c =
    let found = unknown_types understood c.args.message.now in
    let loop = c.loop-atype in
    let start = ap types_left c.into_iter-atype-iterator.ensures.into_iter_gives ∙ c.new-atype-items.ensures ∙ ap (λ types. unknown_types types c.args.message.now) c.understood.ensures in
    let all = YieldsList-from_first (λ (t : AttributeType). t) types_left {s = c.into_iter-atype-iterator.result} found start in
    let so_far = sym (map-id loop.yielded) ∙ YieldsList-so_far all loop.yielded loop.atype-iterator loop.yielded_by in
    let full = c.if-count-eq-MOST.true in
    listed_written loop.yielded (listed_types c.args.message.now) loop.count loop.dest c.args.dest.now loop.invariant.0 (first_listed loop.yielded found so_far (sym loop.invariant.0 ∙ full)) loop.invariant.2

pub write_type-requires : goal.write_type-requires
write_type-requires c =
    let found = unknown_types understood c.args.message.now in
    let loop = c.loop-atype in
    let start = ap types_left c.into_iter-atype-iterator.ensures.into_iter_gives ∙ c.new-atype-items.ensures ∙ ap (λ types. unknown_types types c.args.message.now) c.understood.ensures in
    let all = YieldsList-from_first (λ (t : AttributeType). t) types_left {s = c.into_iter-atype-iterator.result} found start in
    let here = YieldsList-turn all loop.yielded loop.atype-iterator loop.yielded_by c.next.result c.next.new.self c.in-Some.atype c.in-Some.is c.next.ensures.steps in
    room_for_one loop.yielded found loop.count loop.dest c.args.dest.now loop.invariant.0 (omega (arith, loop.invariant, c.if-count-eq-MOST.false)) here.0 loop.invariant.2 c.requires

pub loop-atype-preserved : goal.loop-atype-preserved
loop-atype-preserved c =
    let loop = c.loop-atype in (
      omega (arith, loop.invariant.0, length-append loop.yielded (c.in-Some.atype ∷ [])),
      omega (arith, loop.invariant, c.if-count-eq-MOST.false),
      one_more loop.yielded c.in-Some.atype loop.count loop.dest c.write_type.new.dest c.args.dest.now loop.invariant.0 loop.invariant.2 c.write_type.ensures,
    )

pub returns : goal.returns
returns c =
    let found = unknown_types understood c.args.message.now in
    let loop = c.loop-atype in
    let start = ap types_left c.into_iter-atype-iterator.ensures.into_iter_gives ∙ c.new-atype-items.ensures ∙ ap (λ types. unknown_types types c.args.message.now) c.understood.ensures in
    let all = YieldsList-from_first (λ (t : AttributeType). t) types_left {s = c.into_iter-atype-iterator.result} found start in
    let ended = YieldsList-end all loop.yielded loop.atype-iterator loop.yielded_by c.next.result c.next.new.self c.in-None.is c.next.ensures.steps in
    listed_written loop.yielded (listed_types c.args.message.now) loop.count loop.dest c.args.dest.now loop.invariant.0 (all_listed loop.yielded found (sym (map-id loop.yielded) ∙ ended.0) (omega (arith, loop.invariant))) loop.invariant.2
