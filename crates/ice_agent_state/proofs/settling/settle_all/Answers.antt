use Rattle.std.proofs.Common.{◌≡◌, ◌+◌, ◌++◌, ◌<◌, length, map, take, drop, set, get_or, sym, subst, arith}
use Rattle.std.proofs.lemmas.List.{get_or_default}
use Rattle.std.proofs.lemmas.List.Edits.{map_over_more}
use Rattle.ice_machine.specs.declared.pairs.Pair.{Pair}
use Rattle.ice_machine.specs.Steps.{settled}
use Rattle.ice_agent_state.specs.Agents.{setup_of}
use Rattle.ice_agent_state.proofs.PairsLemmas.{no_pair}
use Rattle.ice_agent_state.proofs.settling.settle_all.Goals as goal

pub loop-i-preserved : goal.loop-i-preserved
loop-i-preserved c =
    let F = settled (setup_of c.args.settings.now) c.args.now in
    let x : Pair = get_or c.loop-i.pairs c.loop-i.i no_pair in
    let lt : c.loop-i.i < length c.loop-i.pairs = omega arith in
    let within : c.loop-i.i < length c.args.pairs.now = omega arith in
    subst (λ (y : Pair). set c.loop-i.pairs c.loop-i.i y ≡ map {B = Pair} F (take (c.loop-i.i + 1) c.args.pairs.now) ++ drop (c.loop-i.i + 1) c.args.pairs.now) (sym c.settle.ensures)
    (map_over_more F c.args.pairs.now c.loop-i.pairs c.loop-i.i x within c.loop-i.invariant (get_or_default c.loop-i.pairs c.loop-i.i no_pair x lt))
