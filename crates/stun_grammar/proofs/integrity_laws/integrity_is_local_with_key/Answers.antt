use Rattle.std.proofs.Common.{sym, ◌∙◌}
use Rattle.stun_grammar.proofs.AuthenticContentLemmas.{local_through, fingerprint_reported, as_both}
use Rattle.stun_grammar.proofs.integrity_laws.integrity_is_local_with_key.Goals as goal

pub returns-clause-reported : goal.returns-clause-reported
returns-clause-reported c = local_through

pub returns-clause-fingerprint : goal.returns-clause-fingerprint
returns-clause-fingerprint c = λ m key d t a bytes parsed same v. fingerprint_reported key d t a bytes parsed (as_both m key d t a same v)

pub returns-clause-same : goal.returns-clause-same
returns-clause-same c = λ m key d e t a p q v w. local_through m key d t a p v ∙ sym (local_through m key e t a q w)
