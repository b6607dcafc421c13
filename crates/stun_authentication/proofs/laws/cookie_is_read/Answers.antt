use Rattle.stun_authentication.proofs.CookiesLemmas.{read_bits}
use Rattle.stun_authentication.proofs.laws.cookie_is_read.Goals as goal

pub returns : goal.returns
returns c = λ features more. read_bits features.password_algorithms features.username_anonymity more
