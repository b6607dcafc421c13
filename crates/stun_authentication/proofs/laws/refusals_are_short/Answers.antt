use Rattle.stun_authentication.proofs.SizesLemmas.{asked_length, asked_short}
use Rattle.stun_authentication.proofs.laws.refusals_are_short.Goals as goal

pub returns-clause-size : goal.returns-clause-size
returns-clause-size c = asked_length

pub returns-clause-short : goal.returns-clause-short
returns-clause-short c = asked_short
