use Rattle.stun_types.proofs.FindingLemmas.{found_shown, first_shown, none_shown, only_written}
use Rattle.stun_types.proofs.reading.laws.shown_is_found.Goals as goal

pub returns-clause-found : goal.returns-clause-found
returns-clause-found c = found_shown

pub returns-clause-first : goal.returns-clause-first
returns-clause-first c = first_shown

pub returns-clause-missing : goal.returns-clause-missing
returns-clause-missing c = none_shown

pub returns-clause-written : goal.returns-clause-written
returns-clause-written c = only_written
