use Rattle.stun_authentication.proofs.NoncesLemmas.{valid_in_time, over_later, stale_before, own_only, other_mac}
use Rattle.stun_authentication.proofs.laws.nonces_are_timed.Goals as goal

pub returns-clause-valid : goal.returns-clause-valid
returns-clause-valid c = valid_in_time

pub returns-clause-over : goal.returns-clause-over
returns-clause-over c = over_later

pub returns-clause-to_come : goal.returns-clause-to_come
returns-clause-to_come c = stale_before

pub returns-clause-own : goal.returns-clause-own
returns-clause-own c = own_only

pub returns-clause-other : goal.returns-clause-other
returns-clause-other c = other_mac
