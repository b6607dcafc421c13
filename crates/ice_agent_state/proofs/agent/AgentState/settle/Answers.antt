use Rattle.std.proofs.Common.{◌≡◌, ◌≤◌, List, length, map, max, ap, ◌∙◌, sym, subst, arith, rules}
use Rattle.std.specs.List.{AllByRecursion}
use Rattle.std.proofs.lemmas.List.{length-map}
use Rattle.ice_machine.specs.declared.pairs.Pair.{Pair}
use Rattle.ice_machine.specs.declared.messages.Request.{Request}
use Rattle.ice_machine.specs.Steps.{is_awaited, settled}
use Rattle.ice_machine.specs.Bounds.{AreDistinct}
use Rattle.ice_agent_state.specs.Agents.{setup_of}
use Rattle.ice_agent_state.specs.Tried.{IsTried}
use Rattle.ice_agent_state.proofs.QuietLemmas.{steady_at_0, awaited_at_0}
use Rattle.ice_agent_state.proofs.ListsLemmas.{filter_few, take_written}
use Rattle.ice_agent_state.proofs.TriedLemmas.{all_settled, settled_distinct}
use Rattle.ice_agent_state.proofs.agent.AgentState.settle.Goals as goal

pub invariant_of-self : goal.invariant_of-self
invariant_of-self c =
    let most = max 1 c.self.inside.settings.most_tries in
    let fewer = filter_few (is_awaited c.max-self-inside.result) c.self.inside.requests.items in
    let few = c.self.invariant.few in
    let changed = map {B = Pair} (settled (setup_of c.self.inside.settings) c.max-self-inside.result) c.self.inside.pairs.items in
    let is : c.settle_all.new.pairs ≡ changed = search rules in
    let length_is : length c.settle_all.new.pairs ≡ length c.self.inside.pairs.items = ap (λ (ps : List Pair). length ps) is ∙ length-map c.self.inside.pairs.items (settled (setup_of c.self.inside.settings) c.max-self-inside.result) in
    let all : c.self.inside.pairs.len ≡ length c.self.inside.pairs.items = search rules in
    let written = sym is ∙ take_written c.settle_all.new.pairs c.self.inside.pairs.items c.self.inside.pairs.len length_is all in
    record {
      early = let e = c.max-self-inside.ensures in let early = c.self.invariant.early in let fits = c.ranges.now.fits in omega (arith, e, early, fits);
      bases = c.self.invariant.bases;
      remotes = c.self.invariant.remotes;
      pairs = c.self.invariant.pairs;
      few = subst (λ (rs : List Request). length rs ≤ c.self.inside.settings.most_requests) (sym c.drop_late.ensures) (omega (arith, fewer, few));
      tries = c.self.invariant.tries;
      distinct = subst AreDistinct written (settled_distinct (setup_of c.self.inside.settings) c.max-self-inside.result c.self.inside.pairs.items c.self.invariant.distinct);
      tried = subst (AllByRecursion (IsTried most)) written (all_settled most (setup_of c.self.inside.settings) c.max-self-inside.result c.self.inside.pairs.items c.self.invariant.tried);
      steady = steady_at_0 (setup_of c.self.inside.settings) _;
      awaited = awaited_at_0 _;
    }
