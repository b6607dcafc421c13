use Rattle.std.proofs.Common.{take, sym, ap, ◌∙◌}
use Rattle.std.specs.Option.{option_map}
use Rattle.stun_types_c.specs.declared.password_algorithms.AlgorithmList.{AlgorithmList}
use Rattle.stun_types_c.proofs.RefusalsLemmas.{refused}
use Rattle.stun_types_c.proofs.refusals.stun_types_refuse_long_term.Goals as goal

pub returns-in-Some-algorithms_in : goal.returns-in-Some-algorithms_in
returns-in-Some-algorithms_in c =
    let few = c.in-Some-algorithms_in.algorithms in
    refused c.args.request.now c.args.code c.args.asked.now c.in-Some.refusal (take few.count few.all) c.refuse_asking.result _ _
    c.in-Ok.ensures.0 (sym c.long_term_refusal.ensures ∙ c.in-Some.is) (c.algorithms_in.ensures ∙ ap (option_map (λ (one : AlgorithmList). take one.count one.all)) c.in-Some-algorithms_in.is)
    (rw c.in-Ok.ensures.1 at c.refuse_asking.ensures)
