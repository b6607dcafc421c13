use Rattle.std.proofs.Common.{◌∙◌}
use Rattle.std.proofs.lemmas.Result.{err_from_is_err_and}
use Rattle.stun_grammar.specs.Verdicts.{is_checked_type}
use Rattle.stun_types.specs.Validating.{shown_integrity}
use Rattle.stun_types.proofs.ValidatingLemmas.{own_algorithm, lawful_own, never_memory}
use Rattle.stun_types.proofs.GivenHmacsLemmas.{missing_by, unlawful_by}
use Rattle.stun_types.proofs.message.validate.find.find_checked.Goals as goal

pub returns-in_err-check_hmac_length-clause-memory : goal.returns-in_err-check_hmac_length-clause-memory
returns-in_err-check_hmac_length-clause-memory c =
    let p = err_from_is_err_and c.from_residual.result c.from_residual.ensures.1 in
    rw (p.1, p.2) (λ e. never_memory c.in-Some.found.algorithm _ (c.in_err-check_hmac_length.ensures ∙ cc))

pub returns-clause-verdict : goal.returns-clause-verdict
returns-clause-verdict c = record {
  last_is = c.in-Some.ensures;
  lawful = lawful_own c.in-Some.found.algorithm _ c.in_ok-check_hmac_length.ensures.0;
}

pub returns-in_default-clause-verdict : goal.returns-in_default-clause-verdict
returns-in_default-clause-verdict c = λ hmacs. missing_by (is_checked_type c.args.made_for) hmacs c.args.bytes.now c.new.result c.new.ensures c.in_default.ensures

pub returns-in_err-check_hmac_length-clause-verdict : goal.returns-in_err-check_hmac_length-clause-verdict
returns-in_err-check_hmac_length-clause-verdict c =
    let p = err_from_is_err_and c.from_residual.result c.from_residual.ensures.1 in
    rw (p.1, p.2) (λ hmacs. unlawful_by (is_checked_type c.args.made_for) hmacs c.args.bytes.now (shown_integrity c.in-Some.found) c.in-Some.found.algorithm _ c.in-Some.ensures (own_algorithm c.in-Some.found.algorithm) c.in_err-check_hmac_length.ensures)
