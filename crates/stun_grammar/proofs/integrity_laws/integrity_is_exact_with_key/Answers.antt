use Rattle.std.proofs.Common.{Some}
use Rattle.stun_grammar.proofs.ParsingLemmas.{parsed_frame}
use Rattle.stun_grammar.proofs.AuthenticLemmas.{own_algorithm, checks}
use Rattle.stun_grammar.proofs.CarryingLemmas.{carries_prefix}
use Rattle.stun_grammar.proofs.CarryingExactLemmas.{carried_own}
use Rattle.stun_grammar.proofs.integrity_laws.integrity_is_exact_with_key.Goals as goal

pub returns-clause-own : goal.returns-clause-own
returns-clause-own c = λ b a key d t bytes v. own_algorithm b key d t a bytes v

pub returns-clause-exact : goal.returns-clause-exact
returns-clause-exact c = λ key d t a bytes parsed. (λ v. (carries_prefix (Some a) key d t a bytes (checks (Some a) key d t a bytes v)).0, carried_own key d t a bytes (parsed_frame d parsed))
