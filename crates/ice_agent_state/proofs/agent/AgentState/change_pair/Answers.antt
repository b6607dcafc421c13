use Rattle.std.proofs.Common.{◌≡◌, ℕ, List, length, max, ap, ◌∙◌, sym, subst, rules}
use Rattle.std.specs.List.{AllByRecursion}
use Rattle.ice_machine.specs.Agents.{is_at}
use Rattle.ice_machine.specs.Steps.{changed_first}
use Rattle.ice_agent_state.specs.Changes.{changed_by, steady_by}
use Rattle.ice_agent_state.proofs.AskedLemmas.{changed_length}
use Rattle.ice_agent_state.proofs.TriedLemmas.{changed_each, changed_distinct}
use Rattle.ice_machine.specs.declared.pairs.Pair.{Pair}
use Rattle.ice_machine.specs.Bounds.{AreDistinct}
use Rattle.ice_agent_state.specs.Agents.{setup_of}
use Rattle.ice_agent_state.specs.Tried.{IsTried}
use Rattle.ice_agent_state.specs.Quiet.{IsSteady, StaysAwaited}
use Rattle.ice_agent_state.proofs.QuietLemmas.{all_changed_steady, all_awaited_sooner, steady_by_less}
use Rattle.ice_agent_state.proofs.ListsLemmas.{take_written}
use Rattle.ice_agent_state.proofs.agent.AgentState.change_pair.Goals as goal

pub invariant_of-self : goal.invariant_of-self
invariant_of-self c =
    let most = max 1 c.self.inside.settings.most_tries in
    let setup = setup_of c.self.inside.settings in
    let until = c.self.inside.quiet_until in
    let items = c.self.inside.pairs.items in
    let is : c.change_first.new.pairs ≡ changed_first (is_at c.args.base c.args.to) (changed_by c.args.by.now) items = search rules in
    let length_is : length c.change_first.new.pairs ≡ length items = ap (λ (ps : List Pair). length ps) is ∙ changed_length (is_at c.args.base c.args.to) (changed_by c.args.by.now) items in
    let all : c.self.inside.pairs.len ≡ length items = search rules in
    let written = sym is ∙ take_written c.change_first.new.pairs items c.self.inside.pairs.len length_is all in
    record {
      early = c.self.invariant.early;
      bases = c.self.invariant.bases;
      remotes = c.self.invariant.remotes;
      pairs = c.self.invariant.pairs;
      few = c.self.invariant.few;
      tries = c.self.invariant.tries;
      distinct = subst AreDistinct written (changed_distinct c.args.by.now (is_at c.args.base c.args.to) items c.self.invariant.distinct);
      tried = subst (AllByRecursion (IsTried most)) written (changed_each most c.args.by.now (is_at c.args.base c.args.to) items c.self.invariant.tried);
      steady = subst (AllByRecursion (IsSteady setup c.steady_until-self-inside.result)) written
          (subst (λ (n : ℕ). AllByRecursion (IsSteady setup n) (changed_first (is_at c.args.base c.args.to) (changed_by c.args.by.now) items)) (sym c.steady_until-self-inside.ensures)
          (all_changed_steady setup until c.args.by.now (is_at c.args.base c.args.to) items c.self.invariant.steady));
      awaited = subst (λ (n : ℕ). AllByRecursion (StaysAwaited n) c.self.inside.requests.items) (sym c.steady_until-self-inside.ensures)
          (all_awaited_sooner until (steady_by c.args.by.now until) c.self.inside.requests.items (steady_by_less c.args.by.now until) c.self.invariant.awaited);
    }
