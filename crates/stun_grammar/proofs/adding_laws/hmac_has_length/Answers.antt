use Rattle.stun_grammar.proofs.HmacLemmas as Hmacs
use Rattle.stun_grammar.proofs.adding_laws.hmac_has_length.Goals as goal

pub returns : goal.returns
returns c = Hmacs.hmac_has_length
