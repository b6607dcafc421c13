use Rattle.std.proofs.Common.{List, ℕ, sym, subst}
use Rattle.std.proofs.lemmas.List.{take_rest}
use Rattle.std.proofs.lemmas.Result.{err_from_is_err_and}
use Rattle.stun.specs.StreamSteps.{Serving}
use Rattle.stun.proofs.StreamLemmas.{taken_on, stopped}
use Rattle.stun.proofs.stream.take_all.Goals as goal

pub loop-rest-preserved : goal.loop-rest-preserved
loop-rest-preserved g c = λ left left' held serving.
    let contents = g.W.Write.contents in
    let rest : List ℕ = c.loop-rest.rest.now in
    subst (λ (xs : List ℕ). Serving c.args.source left left' held (contents c.take.new.writer) c.take.new.stream xs) (sym (take_rest rest c.in_ok-taken.taken))
    (taken_on c.args.source left left' held (contents c.loop-rest.writer) (contents c.take.new.writer) c.loop-rest.stream c.take.new.stream rest c.in_ok-taken.taken
    (c.loop-rest.invariant left left' held serving) c.in_ok-taken.ensures)

pub returns-in_err-taken : goal.returns-in_err-taken
returns-in_err-taken g c = λ left left' held serving.
    let contents = g.W.Write.contents in
    let p = err_from_is_err_and c.from_residual.result c.from_residual.ensures.1 in
    rw (p.1, p.2) (stopped c.args.source left left' held (contents c.loop-rest.writer) (contents c.take.new.writer) c.loop-rest.stream c.loop-rest.rest.now c.in_err-taken.field-0.0
    (c.loop-rest.invariant left left' held serving) c.in_err-taken.ensures)
