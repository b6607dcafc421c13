use Rattle.std.proofs.Common.{◌≡◌, List, length, take, drop, ◌++◌, max, ap, ◌∙◌, sym, subst, arith, rules}
use Rattle.std.specs.List.{AllByRecursion}
use Rattle.ice_machine.specs.declared.pairs.Pair.{Pair}
use Rattle.ice_machine.specs.Agents.{is_at}
use Rattle.ice_machine.specs.Pairs.{pair_of, with_pair}
use Rattle.ice_machine.specs.Steps.{changed_first, discovered, heard, hears}
use Rattle.ice_machine.specs.Bounds.{AreDistinct}
use Rattle.ice_agent_state.specs.Agents.{Held, setup_of}
use Rattle.ice_agent_state.specs.Tried.{IsTried}
use Rattle.ice_agent_state.specs.Quiet.{IsSteady}
use Rattle.ice_agent_state.proofs.HeldLemmas.{spelled}
use Rattle.ice_agent_state.proofs.QuietLemmas.{new_steady, heard_steady}
use Rattle.ice_agent_state.proofs.ListsLemmas.{take_written}
use Rattle.ice_agent_state.proofs.AskedLemmas.{changed_length}
use Rattle.ice_agent_state.proofs.TriedLemmas.{pair_of_tried, heard_tried, heard_each, heard_distinct, new_distinct}
use Rattle.ice_agent_state.proofs.agent.AgentState.accept.Goals as goal

pub invariant_of-self : goal.invariant_of-self
invariant_of-self c =
    let most = max 1 c.self.inside.settings.most_tries in
    let setup = setup_of c.self.inside.settings in
    let until = c.self.inside.quiet_until in
    let room = c.self.inside.settings.most_pairs in
    let items = c.self.inside.pairs.items in
    let vec = c.add_pair.new.pairs in
    let remote = discovered c.args.base c.args.check.now in
    let test = is_at c.args.check.now.base c.args.check.now.from in
    let change = heard c.self.inside.role c.args.check.now in
    let put : c.hear_on-self-inside.new.pairs ≡ changed_first test change vec.items = search rules in
    let pair_is : c.new_pair-pair.result ≡ pair_of c.args.base remote = c.new_pair-pair.ensures ∙ ap (pair_of c.args.base) c.discovered.ensures in
    let items_is : vec.items ≡ with_pair room (pair_of c.args.base remote) items = c.add_pair.ensures.items ∙ ap (λ (p : Pair). with_pair room p items) pair_is in
    let length_is : length c.hear_on-self-inside.new.pairs ≡ length vec.items = ap (λ (ps : List Pair). length ps) put ∙ changed_length test change vec.items in
    let all : vec.len ≡ length vec.items = search rules in
    let written = sym (put ∙ ap (changed_first test change) items_is) ∙ take_written c.hear_on-self-inside.new.pairs vec.items vec.len length_is all in
    let same = c.add_pair.ensures.capacity in
    let enough = c.self.invariant.pairs in
    record {
      early = c.self.invariant.early;
      bases = c.self.invariant.bases;
      remotes = c.self.invariant.remotes;
      pairs = omega (arith, same, enough);
      few = c.self.invariant.few;
      tries = c.self.invariant.tries;
      distinct = subst AreDistinct written (heard_distinct room c.self.inside.role c.args.check.now c.args.base remote items c.self.invariant.distinct);
      tried = subst (AllByRecursion (IsTried most)) written (heard_each (IsTried most) (pair_of_tried most) room c.self.inside.role c.args.check.now (heard_tried most c.self.inside.role c.args.check.now) c.args.base remote items c.self.invariant.tried);
      steady = subst (AllByRecursion (IsSteady setup until)) written (heard_each (IsSteady setup until) (new_steady setup until) room c.self.inside.role c.args.check.now (heard_steady setup until c.self.inside.role c.args.check.now) c.args.base remote items c.self.invariant.steady);
      awaited = c.self.invariant.awaited;
    }

pub hear_on-self-inside-requires : goal.hear_on-self-inside-requires
hear_on-self-inside-requires c = subst AreDistinct (sym c.deref_mut.ensures.value) (new_distinct c.self.inside.settings.most_pairs c.new_pair-pair.result c.self.inside.pairs.items c.add_pair.new.pairs.items c.add_pair.ensures.items c.self.invariant.distinct)

pub returns-clause-state : goal.returns-clause-state
returns-clause-state c =
    let held = spelled c.self.view_is in
    let room = c.self.inside.settings.most_pairs in
    let items = c.self.inside.pairs.items in
    let vec = c.add_pair.new.pairs in
    let remote = discovered c.args.base c.args.check.now in
    let test = is_at c.args.check.now.base c.args.check.now.from in
    let change = heard c.self.inside.role c.args.check.now in
    let put : c.hear_on-self-inside.new.pairs ≡ changed_first test change vec.items = search rules in
    let pair_is : c.new_pair-pair.result ≡ pair_of c.args.base remote = c.new_pair-pair.ensures ∙ ap (pair_of c.args.base) c.discovered.ensures in
    let items_is : vec.items ≡ with_pair room (pair_of c.args.base remote) items = c.add_pair.ensures.items ∙ ap (λ (p : Pair). with_pair room p items) pair_is in
    let length_is : length c.hear_on-self-inside.new.pairs ≡ length vec.items = ap (λ (ps : List Pair). length ps) put ∙ changed_length test change vec.items in
    let all : vec.len ≡ length vec.items = search rules in
    let written = sym (put ∙ ap (changed_first test change) items_is) ∙ take_written c.hear_on-self-inside.new.pairs vec.items vec.len length_is all in
    let held_of : List Pair → Held = λ ps. record held { state = record held.state { pairs = ps } } in
    subst (λ (z : Held). held_of (take vec.len (c.hear_on-self-inside.new.pairs ++ drop (length c.hear_on-self-inside.new.pairs) vec.items)) ≡ record z { state = hears z.setup c.args.base c.args.check.now z.state }) c.self.view_is
    (ap held_of (sym written))
