use Rattle.std.proofs.Common.{◌≡◌, ◌++◌, ◌<◌, List, length, take, drop, get_or, true, sym, ap, ◌∙◌, arith}
use Rattle.ice_machine.specs.declared.pairs.Pair.{Pair}
use Rattle.ice_machine.specs.Agents.{is_at}
use Rattle.ice_machine.specs.Steps.{changed_first}
use Rattle.ice_agent_state.proofs.PairsLemmas.{no_pair}
use Rattle.ice_agent_state.proofs.AskedLemmas.{first_here}
use Rattle.ice_agent_state.proofs.polling.replace.Goals as goal

pub returns-then-is_at : goal.returns-then-is_at
returns-then-is_at c =
    let lt : c.loop-i.i < length c.loop-i.pairs = omega arith in
    let passes : is_at c.args.base c.args.remote (get_or c.loop-i.pairs c.loop-i.i no_pair) ≡ true = sym c.is_at.ensures ∙ c.if-is_at.true in
    first_here (is_at c.args.base c.args.remote) (λ _. c.args.pair) c.loop-i.pairs c.loop-i.i no_pair lt passes
    ∙ ap (λ (zs : List Pair). take c.loop-i.i zs ++ changed_first (is_at c.args.base c.args.remote) (λ _. c.args.pair) (drop c.loop-i.i zs)) c.loop-i.invariant.same
    ∙ sym c.loop-i.invariant.so_far
