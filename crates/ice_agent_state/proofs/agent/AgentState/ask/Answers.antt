use Rattle.std.proofs.Common.{◌≡◌, ℕ, ◌+◌, ◌≤◌, ◌∷◌, List, Some, length, take, drop, ◌++◌, max, ap, ◌∙◌, sym, subst, arith, rules}
use Rattle.std.specs.List.{AllByRecursion}
use Rattle.ice_machine.specs.declared.pairs.Pair.{Pair}
use Rattle.ice_machine.specs.declared.messages.Request.{Request}
use Rattle.ice_machine.specs.Agents.{seconds, is_at}
use Rattle.ice_machine.specs.Checks.{asked, request_on, most_urgent}
use Rattle.ice_machine.specs.Steps.{changed_first, asks_on}
use Rattle.ice_machine.specs.Bounds.{AreDistinct}
use Rattle.ice_agent_state.specs.Agents.{Held, IsSettled}
use Rattle.ice_agent_state.specs.Tried.{IsTried}
use Rattle.ice_agent_state.specs.Waking.{HoldsFrom, ends_by}
use Rattle.ice_agent_state.specs.Quiet.{IsSteady, StaysAwaited, capped}
use Rattle.ice_agent_state.proofs.HeldLemmas.{spelled}
use Rattle.ice_agent_state.proofs.ListsLemmas.{take_written, take_few}
use Rattle.ice_agent_state.proofs.AskedLemmas.{AskFacts, ask_changes, changed_length, each_replaced}
use Rattle.ice_agent_state.proofs.QuietLemmas.{steady_one, all_steady_sooner, steady_sooner, awaited_by, all_awaited_sooner, each_taken}
use Rattle.ice_agent_state.proofs.agent.AgentState.ask.Goals as goal

pub asked-asked-requires : goal.asked-asked-requires
asked-asked-requires c =
    let most = max 1 c.self.inside.settings.most_tries in
    let held = spelled c.self.view_is in
    let settled_by : IsSettled held = subst IsSettled (sym c.self.view_is) c.requires.settled in
    let urgent : most_urgent held.setup held.state ≡ Some c.args.pair = subst (λ (z : Held). most_urgent z.setup z.state ≡ Some c.args.pair) (sym c.self.view_is) c.requires.urgent in
    let facts : AskFacts held most c.args.id c.args.pair = ask_changes held most c.args.id c.args.pair settled_by c.self.invariant.distinct c.self.invariant.tried (omega arith) (omega arith) urgent in
    let few = facts.few in
    let tries = c.self.invariant.tries in
    omega (arith, few, tries)

pub invariant_of-self : goal.invariant_of-self
invariant_of-self c = record {
  early = c.self.invariant.early;
  bases = c.self.invariant.bases;
  remotes = c.self.invariant.remotes;
  pairs = c.self.invariant.pairs;
  few = subst (λ (rs : List Request). length rs ≤ c.self.inside.settings.most_requests) (sym c.make_room.ensures.items) c.self.invariant.few;
  tries = c.self.invariant.tries;
  distinct = c.self.invariant.distinct;
  tried = c.self.invariant.tried;
  steady = c.self.invariant.steady;
  awaited = subst (AllByRecursion (StaysAwaited c.self.inside.quiet_until)) (sym c.make_room.ensures.items) c.self.invariant.awaited;
}

pub invariant_of-self-2 : goal.invariant_of-self-2
invariant_of-self-2 c =
    let most = max 1 c.self.inside.settings.most_tries in
    let held = spelled c.self.view_is in
    let settled_by : IsSettled held = subst IsSettled (sym c.self.view_is) c.requires.settled in
    let urgent : most_urgent held.setup held.state ≡ Some c.args.pair = subst (λ (z : Held). most_urgent z.setup z.state ≡ Some c.args.pair) (sym c.self.view_is) c.requires.urgent in
    let facts : AskFacts held most c.args.id c.args.pair = ask_changes held most c.args.id c.args.pair settled_by c.self.invariant.distinct c.self.invariant.tried (omega arith) (omega arith) urgent in
    let items = c.self.inside.pairs.items in
    let e : c.asked-asked.result ≡ asked held.setup held.state c.args.id c.args.pair = subst (λ (z : Held). c.asked-asked.result ≡ asked z.setup z.state c.args.id c.args.pair) (sym c.self.view_is) c.asked-asked.ensures in
    let put : c.replace.new.pairs ≡ changed_first (is_at c.args.pair.base c.args.pair.remote) (λ _. c.asked-asked.result) items = search rules in
    let is : c.replace.new.pairs ≡ changed_first (is_at c.args.pair.base c.args.pair.remote) (λ _. asked held.setup held.state c.args.id c.args.pair) items = subst (λ (y : Pair). c.replace.new.pairs ≡ changed_first (is_at c.args.pair.base c.args.pair.remote) (λ _. y) items) e put in
    let length_is : length c.replace.new.pairs ≡ length items = ap (λ (ps : List Pair). length ps) is ∙ changed_length (is_at c.args.pair.base c.args.pair.remote) (λ _. asked held.setup held.state c.args.id c.args.pair) items in
    let all : c.self.inside.pairs.len ≡ length items = search rules in
    let written = sym is ∙ take_written c.replace.new.pairs items c.self.inside.pairs.len length_is all in
    let end = c.loss_of.result in
    let until = c.min-self-inside.result in
    let least = c.min-self-inside.ensures in
    let sooner = c.min-until.ensures in
    let is_end = c.moment_of.ensures in
    let by_end : until ≤ capped end = omega (arith, least, sooner, is_end) in
    let holds_asked : HoldsFrom (ends_by held.setup c.asked-asked.result) end = subst (λ (z : Held). HoldsFrom (ends_by z.setup c.asked-asked.result) end) (sym c.self.view_is) c.loss_of.ensures in
    let holds : HoldsFrom (ends_by held.setup (asked held.setup held.state c.args.id c.args.pair)) end = subst (λ (y : Pair). HoldsFrom (ends_by held.setup y) end) e holds_asked in
    let request_is : c.request_on-request.result ≡ request_on held.setup held.state c.args.id c.args.pair = subst (λ (z : Held). c.request_on-request.result ≡ request_on z.setup z.state c.args.id c.args.pair) (sym c.self.view_is) c.request_on-request.ensures in
    let sent_is : c.request_on-request.result.sent ≡ c.self.inside.clock = ap (λ (r : Request). r.sent) request_is in
    let by_sent : until ≤ c.request_on-request.result.sent + seconds 30 = omega (arith, least, sooner, sent_is) in
    let kept : c.keep.new.xs.items ≡ take c.self.inside.settings.most_requests (c.request_on-request.result ∷ c.self.inside.requests.items)
    = c.keep.ensures.items ∙ ap (λ (rs : List Request). take c.self.inside.settings.most_requests (c.request_on-request.result ∷ rs)) c.make_room.ensures.items in
    record {
      early = c.self.invariant.early;
      bases = c.self.invariant.bases;
      remotes = c.self.invariant.remotes;
      pairs = c.self.invariant.pairs;
      few = subst (λ (rs : List Request). length rs ≤ c.self.inside.settings.most_requests) (sym kept) (take_few c.self.inside.settings.most_requests (c.request_on-request.result ∷ c.self.inside.requests.items));
      tries = c.self.invariant.tries;
      distinct = subst AreDistinct written facts.distinct;
      tried = subst (AllByRecursion (IsTried most)) written facts.tried;
      steady = subst (AllByRecursion (IsSteady held.setup until)) written
          (each_replaced (IsSteady held.setup until) (is_at c.args.pair.base c.args.pair.remote) (asked held.setup held.state c.args.id c.args.pair)
          (steady_sooner held.setup (capped end) until by_end (asked held.setup held.state c.args.id c.args.pair) (steady_one held.setup (asked held.setup held.state c.args.id c.args.pair) end holds))
          items (all_steady_sooner held.setup c.self.inside.quiet_until until items (omega (arith, least)) c.self.invariant.steady));
      awaited = subst (AllByRecursion (StaysAwaited until)) (sym kept) (each_taken (StaysAwaited until) c.self.inside.settings.most_requests (c.request_on-request.result ∷ c.self.inside.requests.items)
          (awaited_by until c.request_on-request.result by_sent, all_awaited_sooner c.self.inside.quiet_until until c.self.inside.requests.items (omega (arith, least)) c.self.invariant.awaited));
    }

pub returns-clause-state : goal.returns-clause-state
returns-clause-state c =
    let most = max 1 c.self.inside.settings.most_tries in
    let held = spelled c.self.view_is in
    let settled_by : IsSettled held = subst IsSettled (sym c.self.view_is) c.requires.settled in
    let urgent : most_urgent held.setup held.state ≡ Some c.args.pair = subst (λ (z : Held). most_urgent z.setup z.state ≡ Some c.args.pair) (sym c.self.view_is) c.requires.urgent in
    let facts : AskFacts held most c.args.id c.args.pair = ask_changes held most c.args.id c.args.pair settled_by c.self.invariant.distinct c.self.invariant.tried (omega arith) (omega arith) urgent in
    let items = c.self.inside.pairs.items in
    let e : c.asked-asked.result ≡ asked held.setup held.state c.args.id c.args.pair = subst (λ (z : Held). c.asked-asked.result ≡ asked z.setup z.state c.args.id c.args.pair) (sym c.self.view_is) c.asked-asked.ensures in
    let put : c.replace.new.pairs ≡ changed_first (is_at c.args.pair.base c.args.pair.remote) (λ _. c.asked-asked.result) items = search rules in
    let is : c.replace.new.pairs ≡ changed_first (is_at c.args.pair.base c.args.pair.remote) (λ _. asked held.setup held.state c.args.id c.args.pair) items = subst (λ (y : Pair). c.replace.new.pairs ≡ changed_first (is_at c.args.pair.base c.args.pair.remote) (λ _. y) items) e put in
    let length_is : length c.replace.new.pairs ≡ length items = ap (λ (ps : List Pair). length ps) is ∙ changed_length (is_at c.args.pair.base c.args.pair.remote) (λ _. asked held.setup held.state c.args.id c.args.pair) items in
    let all : c.self.inside.pairs.len ≡ length items = search rules in
    let written = sym is ∙ take_written c.replace.new.pairs items c.self.inside.pairs.len length_is all in
    let r : c.request_on-request.result ≡ request_on held.setup held.state c.args.id c.args.pair = subst (λ (z : Held). c.request_on-request.result ≡ request_on z.setup z.state c.args.id c.args.pair) (sym c.self.view_is) c.request_on-request.ensures in
    let state_of : List Pair → List Request → ℕ → Held = λ ps rs n. record held { state = record held.state { pairs = ps; requests = rs; next_request_at = n } } in
    let kept : c.keep.new.xs.items ≡ take c.self.inside.settings.most_requests (request_on held.setup held.state c.args.id c.args.pair ∷ c.self.inside.requests.items)
    = c.keep.ensures.items ∙ ap (λ (rs : List Request). take c.self.inside.settings.most_requests (c.request_on-request.result ∷ rs)) c.make_room.ensures.items
    ∙ ap (λ (x : Request). take c.self.inside.settings.most_requests (x ∷ c.self.inside.requests.items)) r in
    subst (λ (z : Held). state_of (take c.self.inside.pairs.len (c.replace.new.pairs ++ drop (length c.replace.new.pairs) items)) c.keep.new.xs.items (c.self.inside.clock + c.pace_of.result)
    ≡ record z { state = (asks_on z.setup c.args.id z.state c.args.pair).state }) c.self.view_is
    (ap (λ (ps : List Pair). state_of ps c.keep.new.xs.items (c.self.inside.clock + c.pace_of.result)) (sym written ∙ facts.same)
    ∙ ap (λ (rs : List Request). state_of (changed_first (is_at c.args.pair.base c.args.pair.remote) (asked held.setup held.state c.args.id) items) rs (c.self.inside.clock + c.pace_of.result)) kept
    ∙ ap (λ (n : ℕ). state_of (changed_first (is_at c.args.pair.base c.args.pair.remote) (asked held.setup held.state c.args.id) items)
    (take c.self.inside.settings.most_requests (request_on held.setup held.state c.args.id c.args.pair ∷ c.self.inside.requests.items)) (c.self.inside.clock + n)) c.pace_of.ensures.value)
