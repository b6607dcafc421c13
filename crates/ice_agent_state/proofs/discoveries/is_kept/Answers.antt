use Rattle.std.proofs.Common.{◌∙◌}
use Rattle.stun_endpoints.specs.Endpoints.{is_endpoint}
use Rattle.ice_agent_state.proofs.KeptLemmas.{any_address}
use Rattle.ice_agent_state.proofs.discoveries.is_kept.Goals as goal

pub returns : goal.returns
returns c = c.is_among.ensures ∙ any_address (is_endpoint c.args.address) c.args.addresses.now
