use Rattle.turn_client_machine.proofs.SoundLemmas.{nothing_lapses}
use Rattle.turn_client_machine.proofs.laws.lasting.granted_lasts.Goals as goal

pub returns : goal.returns
returns c = nothing_lapses
