use Rattle.stun_grammar.proofs.ParsingLemmas.{parsed_frame}
use Rattle.stun_grammar.proofs.CarryingLemmas.{carries}
use Rattle.stun_grammar.proofs.CarryingExactLemmas.{carried}
use Rattle.stun_grammar.proofs.integrity_laws.integrity_is_exact.Goals as goal

pub returns : goal.returns
returns c = λ key d t a bytes parsed. (carries key d t a bytes, carried key d t a bytes (parsed_frame d parsed))
