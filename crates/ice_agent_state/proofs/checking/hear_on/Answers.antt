use Rattle.std.proofs.Common.{set, ap, ◌∙◌}
use Rattle.ice_machine.specs.declared.pairs.Pair.{Pair}
use Rattle.ice_machine.specs.Agents.{is_at}
use Rattle.ice_machine.specs.Steps.{heard}
use Rattle.ice_agent_state.proofs.PairsLemmas.{no_pair, changed_at, none_changed}
use Rattle.ice_agent_state.proofs.checking.hear_on.Goals as goal

pub returns-in-Some : goal.returns-in-Some
returns-in-Some c =
    let check = c.args.check.now in
    let place = c.in-Some.ensures in
    ap (λ (p : Pair). set c.args.pairs.now c.in-Some.place p) c.heard.ensures
    ∙ changed_at check.base check.from (heard c.args.role check) c.args.pairs.now c.in-Some.place no_pair c.requires place.0 (place.1 no_pair)

pub returns-in-None : goal.returns-in-None
returns-in-None c = none_changed (is_at c.args.check.now.base c.args.check.now.from) (heard c.args.role c.args.check.now) c.args.pairs.now c.in-None.ensures
