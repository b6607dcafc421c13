use Rattle.std.proofs.Common.{length, map-id, ap, ◌∙◌, sym, arith}
use Rattle.std.proofs.lemmas.Iterator.Consumers.{YieldsList-from_first, YieldsList-so_far, YieldsList-end}
use Rattle.stun_grammar.specs.declared.attribute_type.AttributeType.{AttributeType}
use Rattle.stun_types.specs.Replies.{unknown_types}
use Rattle.stun_types.specs.UnknownTypes.{types_left}
use Rattle.ice_checks.specs.Types.{understood}
use Rattle.ice_checks.proofs.UnknownLemmas.{all_listed, first_listed}
use Rattle.ice_checks.proofs.unknown.unknown_count.Goals as goal

pub returns-then-count-eq-MOST-clause-count : goal.returns-then-count-eq-MOST-clause-count
returns-then-count-eq-MOST-clause-count c =
    let found = unknown_types understood c.args.message.now in
    let loop = c.loop-atype in
    let start = ap types_left c.into_iter-atype-iterator.ensures.into_iter_gives ∙ c.new-atype-items.ensures ∙ ap (λ types. unknown_types types c.args.message.now) c.understood.ensures in
    let all = YieldsList-from_first (λ (t : AttributeType). t) types_left {s = c.into_iter-atype-iterator.result} found start in
    let so_far = sym (map-id loop.yielded) ∙ YieldsList-so_far all loop.yielded loop._atype-iterator loop.yielded_by in
    let full = c.if-count-eq-MOST.true in
    sym full ∙ loop.invariant.0 ∙ ap length (first_listed loop.yielded found so_far (sym loop.invariant.0 ∙ full))

pub returns-clause-count : goal.returns-clause-count
returns-clause-count c =
    let found = unknown_types understood c.args.message.now in
    let loop = c.loop-atype in
    let start = ap types_left c.into_iter-atype-iterator.ensures.into_iter_gives ∙ c.new-atype-items.ensures ∙ ap (λ types. unknown_types types c.args.message.now) c.understood.ensures in
    let all = YieldsList-from_first (λ (t : AttributeType). t) types_left {s = c.into_iter-atype-iterator.result} found start in
    let ended = YieldsList-end all loop.yielded loop._atype-iterator loop.yielded_by c.next.result c.next.new.self c.in-None.is c.next.ensures.steps in
    loop.invariant.0 ∙ ap length (all_listed loop.yielded found (sym (map-id loop.yielded) ∙ ended.0) (omega (arith, loop.invariant)))
