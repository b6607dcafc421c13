use Rattle.stun_grammar.proofs.StepsLemmas.{is_writable, sent_parses, sent_shows, last_validates, each_validates}
use Rattle.stun_grammar.proofs.integrity_laws.steps_are_read_back.Goals as goal

pub returns-clause-writable : goal.returns-clause-writable
returns-clause-writable c = is_writable

pub returns-clause-parses : goal.returns-clause-parses
returns-clause-parses c = sent_parses

pub returns-clause-shows : goal.returns-clause-shows
returns-clause-shows c = sent_shows

pub returns-clause-fingerprint : goal.returns-clause-fingerprint
returns-clause-fingerprint c = λ sent ok. (is_writable sent ok).fingerprint

pub returns-clause-last : goal.returns-clause-last
returns-clause-last c = last_validates

pub returns-clause-own : goal.returns-clause-own
returns-clause-own c = each_validates
