use Rattle.std.proofs.Common.{◌≡◌, Option, Some, refl, subst}
use Rattle.stun_grammar.specs.declared.integrity_algorithm.IntegrityAlgorithm.{IntegrityAlgorithm}
use Rattle.stun_grammar.specs.Verdicts.{covered, is_checked_type}
use Rattle.stun_types_c.specs.GivenHmacs.{hashed, not_covered}
use Rattle.stun_types_c.proofs.GivenHmacsLemmas.{hashes_check, reports_error}
use Rattle.stun_types_c.proofs.given_hmacs.stun_types_covered_text.Goals as goal

pub returns-in-Ok-integrity_check-clause-covers : goal.returns-in-Ok-integrity_check-clause-covers
returns-in-Ok-integrity_check-clause-covers c = λ ok made_for named.
    let d = c.args.bytes.now in
    let same : c.in-Some.made_for ≡ made_for = cc in
    let is = rw c.in-Ok.ensures.1 at c.in-Ok-integrity_check.ensures.check in
    let bytes = rw c.in-Ok.ensures.1 at c.in-Ok-integrity_check.ensures.bytes in
    subst (λ (m : Option IntegrityAlgorithm). covered (is_checked_type m) d ≡ Some (hashed c.covered_by.result d)) same
    (hashes_check c.in-Some.made_for d c.in-Ok-integrity_check.check c.covered_by.result bytes is (rw c.text.ensures at c.covered_by.ensures))

pub returns-in-Err-integrity_check-clause-reports : goal.returns-in-Err-integrity_check-clause-reports
returns-in-Err-integrity_check-clause-reports c =
    let always = rw c.in-Ok.ensures.1 at c.in-Err-integrity_check.ensures.check in
    rw (c.in-Ok.ensures.0, ← c.in-Some.ensures) (reports_error c.in-Some.made_for c.args.bytes.now c.in-Err-integrity_check.error c.validate_result.result not_covered always c.validate_result.ensures refl)
