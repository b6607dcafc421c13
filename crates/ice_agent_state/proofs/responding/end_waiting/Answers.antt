use Rattle.std.proofs.Common.{rules}
use Rattle.std.specs.Prelude.{not}
use Rattle.ice_machine.specs.Steps.{is_request}
use Rattle.ice_agent_state.proofs.ListsLemmas.{filter-from_retain}
use Rattle.ice_agent_state.proofs.responding.end_waiting.Goals as goal

pub returns : goal.returns
returns c = filter-from_retain _ (λ r. not (is_request c.args.id r)) _ (λ x b f' y called. search rules) _ _ c.retain_mut.ensures.filtered
