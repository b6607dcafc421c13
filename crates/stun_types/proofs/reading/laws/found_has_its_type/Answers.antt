use Rattle.stun_grammar.specs.Showing.{shown}
use Rattle.stun_types.proofs.FindingLemmas.{same_type, any_found}
use Rattle.stun_types.proofs.reading.laws.found_has_its_type.Goals as goal

pub returns-clause-same : goal.returns-clause-same
returns-clause-same c = λ d type n. same_type type n (shown d)

pub returns-clause-any : goal.returns-clause-any
returns-clause-any c = λ d type. any_found type (shown d)
