use Rattle.turn_client_machine.proofs.KeptLemmas.{ends_by}
use Rattle.turn_client_machine.proofs.laws.lasting.ends_for_a_reason.Goals as goal

pub returns : goal.returns
returns c = ends_by
