use Rattle.std.proofs.Common.{◌<◌, length, get_or, arith}
use Rattle.std.proofs.lemmas.List.{get_or_default}
use Rattle.std.proofs.lemmas.List.Edits.{map_over_more}
use Rattle.ice_machine.specs.declared.pairs.Pair.{Pair}
use Rattle.ice_machine.specs.Steps.{unnominated}
use Rattle.ice_agent_state.proofs.PairsLemmas.{no_pair}
use Rattle.ice_agent_state.proofs.checking.end_nominations.Goals as goal

pub loop-i-preserved : goal.loop-i-preserved
loop-i-preserved c =
    let x : Pair = get_or c.loop-i.pairs c.loop-i.i no_pair in
    let lt : c.loop-i.i < length c.loop-i.pairs = omega arith in
    let within : c.loop-i.i < length c.args.pairs.now = omega arith in
    map_over_more unnominated c.args.pairs.now c.loop-i.pairs c.loop-i.i x within c.loop-i.invariant (get_or_default c.loop-i.pairs c.loop-i.i no_pair x lt)
