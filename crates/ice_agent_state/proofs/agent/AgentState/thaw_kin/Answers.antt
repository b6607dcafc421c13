use Rattle.std.proofs.Common.{◌≡◌, List, length, map, max, ap, ◌∙◌, sym, subst, rules}
use Rattle.std.specs.List.{AllByRecursion}
use Rattle.std.proofs.lemmas.List.{length-map}
use Rattle.ice_machine.specs.Steps.{thaws}
use Rattle.ice_agent_state.proofs.TriedLemmas.{thawed_each, thawed_distinct}
use Rattle.ice_machine.specs.declared.pairs.Pair.{Pair}
use Rattle.ice_machine.specs.Bounds.{AreDistinct}
use Rattle.ice_agent_state.specs.Agents.{setup_of}
use Rattle.ice_agent_state.specs.Tried.{IsTried}
use Rattle.ice_agent_state.specs.Quiet.{IsSteady}
use Rattle.ice_agent_state.proofs.QuietLemmas.{all_thawed_steady}
use Rattle.ice_agent_state.proofs.ListsLemmas.{take_written}
use Rattle.ice_agent_state.proofs.agent.AgentState.thaw_kin.Goals as goal

pub invariant_of-self : goal.invariant_of-self
invariant_of-self c =
    let most = max 1 c.self.inside.settings.most_tries in
    let setup = setup_of c.self.inside.settings in
    let until = c.self.inside.quiet_until in
    let items = c.self.inside.pairs.items in
    let is : c.thaw_all.new.pairs ≡ map {B = Pair} (thaws c.find_pair-kin.result) items = search rules in
    let length_is : length c.thaw_all.new.pairs ≡ length items = ap (λ (ps : List Pair). length ps) is ∙ length-map items (thaws c.find_pair-kin.result) in
    let all : c.self.inside.pairs.len ≡ length items = search rules in
    let written = sym is ∙ take_written c.thaw_all.new.pairs items c.self.inside.pairs.len length_is all in
    record {
      early = c.self.invariant.early;
      bases = c.self.invariant.bases;
      remotes = c.self.invariant.remotes;
      pairs = c.self.invariant.pairs;
      few = c.self.invariant.few;
      tries = c.self.invariant.tries;
      distinct = subst AreDistinct written (thawed_distinct c.find_pair-kin.result items c.self.invariant.distinct);
      tried = subst (AllByRecursion (IsTried most)) written (thawed_each most c.find_pair-kin.result items c.self.invariant.tried);
      steady = subst (AllByRecursion (IsSteady setup until)) written (all_thawed_steady setup until c.find_pair-kin.result items c.self.invariant.steady);
      awaited = c.self.invariant.awaited;
    }
