use Rattle.std.proofs.Common.{◌≡◌, subst}
use Rattle.stun_grammar.specs.declared.integrity_algorithm.IntegrityAlgorithm.{IntegrityAlgorithm}
use Rattle.stun_grammar.specs.Steps.{signed_bytes}
use Rattle.std.specs.Prelude.{take}
use Rattle.stun_types_c.specs.GivenHmacs.{hashed, covered_by}
use Rattle.stun_types_c.proofs.GivenHmacsLemmas.{there, hashes_next}
use Rattle.stun_types_c.proofs.given_hmacs.stun_types_next_covered_text.Goals as goal

pub returns-in-Ok-clause-covers : goal.returns-in-Ok-clause-covers
returns-in-Ok-clause-covers c = λ ok named is.
    let slice = c.args.room.now in
    let count = c.args.written in
    let a = c.in-Ok-Some.algorithm in
    let same : a ≡ named = cc in
    let long = there slice count (rw c.in-Ok-Some.ensures.0 at c.in-Ok-Some.ensures.1.fault) in
    let reported : c.covered_by.result ≡ covered_by a (signed_bytes (take count slice) a) = rw (c.in-Ok.ensures.algorithm_is, c.in-Ok.ensures.covers, c.in-Ok-Some.ensures.0) at c.covered_by.ensures in
    subst (λ (b : IntegrityAlgorithm). hashed c.covered_by.result slice ≡ signed_bytes (take count slice) b) same (hashes_next a slice count c.covered_by.result long.1 long.0 reported)
