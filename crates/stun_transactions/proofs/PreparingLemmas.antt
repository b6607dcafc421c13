-- A transaction whose key is prepared receives the same.
use Rattle.std.proofs.Common.{◌≡◌, ℕ, List, Option, None, Some, refl}
use Rattle.stun_grammar.specs.declared.attribute_type.AttributeType.{AttributeType}
use Rattle.stun_keys.specs.declared.keys.integrity_key.IntegrityKey.{IntegrityKey}
use Rattle.stun_transactions.specs.declared.guard.Signed.{Signed}
use Rattle.stun_transactions.specs.declared.parts.Mechanism.{Mechanism}
use Rattle.stun_transactions.specs.declared.parts.Mechanism.TheVariants.{ShortTerm, FirstLongTerm, LongTerm}
use Rattle.stun_transactions.specs.declared.parts.TransactionParts.{TransactionParts}
use Rattle.stun_transactions.specs.declared.response_policy.ResponsePolicy.{ResponsePolicy}
use Rattle.stun_transactions.specs.Guards.{HasSameKey, proof_of}
use Rattle.stun_transactions.specs.Receiving.{received_outcome}

-- by the same key the same is authentic
proofs : (mechanism : Option Mechanism) (key other : Option IntegrityKey) (usage : ResponsePolicy) (signed : Signed) (d : List ℕ) → HasSameKey key other → proof_of mechanism other usage signed d ≡ proof_of mechanism key usage signed d
proofs mechanism None other usage signed d is = rw is refl
proofs mechanism (Some key) None usage signed d is = elim is [ ]
proofs None (Some key) (Some other) usage signed d is = refl
proofs (Some FirstLongTerm) (Some key) (Some other) usage signed d is = refl
proofs (Some ShortTerm) (Some key) (Some other) usage signed d is = rw (is.algorithm_is, is.bytes_are) refl
proofs (Some LongTerm) (Some key) (Some other) usage signed d is = rw (is.algorithm_is, is.bytes_are) refl

pub receives_the_same : (parts : TransactionParts) (key prepared : Option IntegrityKey) (understood : List AttributeType) (d : List ℕ) → HasSameKey key prepared → received_outcome parts prepared understood d ≡ received_outcome parts key understood d
receives_the_same parts key prepared understood d same =
    rw (proofs parts.mechanism key prepared parts.usage parts.signed d same) refl
