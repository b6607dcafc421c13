use Rattle.std.proofs.Common.{rules}
use Rattle.std.specs.Prelude.{not}
use Rattle.ice_agent_state.specs.Reports.{is_of}
use Rattle.ice_agent_state.proofs.ListsLemmas.{filter-from_retain}
use Rattle.ice_agent_state.proofs.turns.remove_reported.Goals as goal

pub returns-clause-items : goal.returns-clause-items
returns-clause-items c = filter-from_retain _ (λ r. not (is_of c.args.component r)) _ (λ x b f' y called. search rules) _ _ c.retain_mut.ensures.filtered
