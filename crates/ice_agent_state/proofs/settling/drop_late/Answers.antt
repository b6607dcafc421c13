use Rattle.std.proofs.Common.{rules}
use Rattle.ice_machine.specs.Steps.{is_awaited}
use Rattle.ice_agent_state.proofs.ListsLemmas.{filter-from_retain}
use Rattle.ice_agent_state.proofs.settling.drop_late.Goals as goal

pub returns : goal.returns
returns c = filter-from_retain _ (is_awaited c.args.now) _ (λ x b f' y called. search rules) _ _ c.retain_mut.ensures.filtered
