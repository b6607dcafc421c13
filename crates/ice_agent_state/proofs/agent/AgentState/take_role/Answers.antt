use Rattle.std.proofs.Common.{◌≡◌, List, length, map, max, ap, ◌∙◌, sym, subst, rules}
use Rattle.std.specs.List.{AllByRecursion}
use Rattle.std.proofs.lemmas.List.{length-map}
use Rattle.ice_machine.specs.declared.pairs.Pair.{Pair}
use Rattle.ice_machine.specs.Steps.{unnominated}
use Rattle.ice_machine.specs.Bounds.{AreDistinct}
use Rattle.ice_agent_state.specs.Agents.{setup_of}
use Rattle.ice_agent_state.specs.Tried.{IsTried}
use Rattle.ice_agent_state.specs.Quiet.{IsSteady}
use Rattle.ice_agent_state.proofs.ListsLemmas.{take_written}
use Rattle.ice_agent_state.proofs.TriedLemmas.{each_mapped, unnominated_each, unnominated_distinct}
use Rattle.ice_agent_state.proofs.agent.AgentState.take_role.Goals as goal

pub invariant_of-self : goal.invariant_of-self
invariant_of-self c =
    let most = max 1 c.self.inside.settings.most_tries in
    let setup = setup_of c.self.inside.settings in
    let until = c.self.inside.quiet_until in
    let items = c.self.inside.pairs.items in
    let is : c.end_nominations.new.pairs ≡ map {B = Pair} unnominated items = search rules in
    let length_is : length c.end_nominations.new.pairs ≡ length items = ap (λ (ps : List Pair). length ps) is ∙ length-map items unnominated in
    let all : c.self.inside.pairs.len ≡ length items = search rules in
    let written = sym is ∙ take_written c.end_nominations.new.pairs items c.self.inside.pairs.len length_is all in
    record {
      early = c.self.invariant.early;
      bases = c.self.invariant.bases;
      remotes = c.self.invariant.remotes;
      pairs = c.self.invariant.pairs;
      few = c.self.invariant.few;
      tries = c.self.invariant.tries;
      distinct = subst AreDistinct written (unnominated_distinct items c.self.invariant.distinct);
      tried = subst (AllByRecursion (IsTried most)) written (unnominated_each most items c.self.invariant.tried);
      steady = subst (AllByRecursion (IsSteady setup until)) written (each_mapped (IsSteady setup until) unnominated (λ p steady. steady) items c.self.invariant.steady);
      awaited = c.self.invariant.awaited;
    }
