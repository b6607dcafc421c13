use Rattle.ice_machine.proofs.SilenceLemmas.{few_to_silence}
use Rattle.ice_machine.proofs.laws.sending.silence_gets_little.Goals as goal

pub returns : goal.returns
returns c = few_to_silence
