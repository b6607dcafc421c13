use Rattle.std.proofs.Common.{◌≡◌, List, Some, get_or, find, ap, ◌∙◌, sym, subst}
use Rattle.ice_machine.specs.declared.pairs.Pair.{Pair}
use Rattle.ice_machine.specs.Agents.{is_at}
use Rattle.ice_agent_state.specs.Agents.{Held}
use Rattle.ice_agent_state.specs.Places.{IsPlace}
use Rattle.ice_agent_state.proofs.PairsLemmas.{found_at}
use Rattle.ice_agent_state.proofs.agent.AgentState.find_source.Goals as goal

pub returns-clause-pair : goal.returns-clause-pair
returns-clause-pair c =
    let test = is_at c.args.base c.args.from in
    let pairs = c.self.inside.pairs.items in
    let pair = c.index.result.now in
    let place = c.in_ok-place.place in
    let is_place : IsPlace test pairs (Some place) = subst (λ (ps : List Pair). IsPlace test ps (Some place)) c.deref.ensures.value c.in_ok-place.ensures in
    let found : find test pairs ≡ Some (get_or pairs place pair) = found_at c.args.base c.args.from pairs place pair c.self.invariant.distinct is_place.0 (is_place.1 pair) in
    subst (λ (z : Held). Some pair ≡ find test z.state.pairs) c.self.view_is
    (ap (λ (p : Pair). Some p) c.index.ensures ∙ sym found)
