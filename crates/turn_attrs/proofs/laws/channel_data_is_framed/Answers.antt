use Rattle.turn_attrs.proofs.FramedLemmas.{read, begins, written}
use Rattle.turn_attrs.proofs.laws.channel_data_is_framed.Goals as goal

pub returns-clause-read : goal.returns-clause-read
returns-clause-read c = read

pub returns-clause-begins : goal.returns-clause-begins
returns-clause-begins c = begins

pub returns-clause-written : goal.returns-clause-written
returns-clause-written c = written
