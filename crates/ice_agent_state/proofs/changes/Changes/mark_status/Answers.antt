use Rattle.std.proofs.Common.{◌≤◌, List, length, sym, subst, arith}
use Rattle.std.specs.Prelude.{not}
use Rattle.ice_agent_state.specs.declared.turns.Reported.{Reported}
use Rattle.ice_agent_state.specs.Reports.{is_of}
use Rattle.ice_agent_state.proofs.ListsLemmas.{filter_few}
use Rattle.ice_agent_state.proofs.changes.Changes.mark_status.Goals as goal

pub keep-requires-clause-few : goal.keep-requires-clause-few
keep-requires-clause-few c =
    let few = c.self.invariant.few_statuses in
    let less = filter_few (λ (x : Reported). not (is_of c.args.component x)) c.self.inside.statuses.items in
    subst (λ (xs : List Reported). length xs ≤ c.self.inside.most_statuses) (sym c.remove_reported.ensures.items) (omega (arith, few, less))
