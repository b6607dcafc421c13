use Rattle.std.proofs.Common.{Some, sym, ◌∙◌}
use Rattle.stun_grammar.specs.declared.integrity_algorithm.IntegrityAlgorithm.TheVariants.{Sha256}
use Rattle.stun_grammar.specs.Verdicts.{is_checked_type}
use Rattle.stun_grammar.proofs.VerdictsLemmas.{verdict_missing}
use Rattle.stun_exchanges.proofs.forging.sha256_is_not_cut_down.Goals as goal

pub returns : goal.returns
returns c = λ key d none. verdict_missing (is_checked_type (Some Sha256)) key d (sym (c.walks_from_there.ensures.once d).1 ∙ none)
