use Rattle.std.proofs.Common.{◌≡◌, ℕ, ◌^◌, ◌<◌, List, length, arith}
use Rattle.stun_grammar.specs.declared.integrity_algorithm.IntegrityAlgorithm.TheVariants.{Sha1, Sha256}
use Rattle.stun_grammar.specs.AttributeTypes.{MESSAGE_INTEGRITY, MESSAGE_INTEGRITY_SHA256, FINGERPRINT}
use Rattle.stun_grammar.specs.Attributes.{canonical, encoding}
use Rattle.stun_grammar.specs.Fingerprints.{fingerprint_value}
use Rattle.stun_grammar.specs.Steps.{appended_by, integrity_value}
use Rattle.stun_grammar.proofs.AddingLemmas.{fingerprint_length}
use Rattle.stun_grammar.proofs.HmacLemmas.{hmac_has_length}
use Rattle.stun_grammar.proofs.WritingLemmas.{length-canonical}
use Rattle.stun_grammar.proofs.StepsSignedLemmas.{value_is}
use Rattle.stun_grammar.proofs.adding_laws.step_has_length.Goals as goal

-- an attribute of four bytes more than its value, which needs no padding
twenty : (type : ℕ) (value : List ℕ) → type < 2 ^ 16 → length value ≡ 20 → length (encoding (canonical type value)) ≡ 24
twenty type value t n = omega (arith, length-canonical type value t (omega (arith, n)), n)

thirty_two : (type : ℕ) (value : List ℕ) → type < 2 ^ 16 → length value ≡ 32 → length (encoding (canonical type value)) ≡ 36
thirty_two type value t n = omega (arith, length-canonical type value t (omega (arith, n)), n)

four : (type : ℕ) (value : List ℕ) → type < 2 ^ 16 → length value ≡ 4 → length (encoding (canonical type value)) ≡ 8
four type value t n = omega (arith, length-canonical type value t (omega (arith, n)), n)

pub returns-clause-value : goal.returns-clause-value
returns-clause-value c = value_is

pub returns-clause-sha1 : goal.returns-clause-sha1
unfolding appended_by
returns-clause-sha1 c = λ key message. twenty MESSAGE_INTEGRITY (integrity_value message key Sha1) (omega arith) (hmac_has_length Sha1 key _)

pub returns-clause-sha256 : goal.returns-clause-sha256
unfolding appended_by
returns-clause-sha256 c = λ key message. thirty_two MESSAGE_INTEGRITY_SHA256 (integrity_value message key Sha256) (omega arith) (hmac_has_length Sha256 key _)

pub returns-clause-fingerprint : goal.returns-clause-fingerprint
unfolding appended_by
returns-clause-fingerprint c = λ message. four FINGERPRINT (fingerprint_value message (length message)) (omega arith) (fingerprint_length message (length message))
