use Rattle.std.specs.Prelude.{ℕ, ◌⊎◌, List, Result}
use Rattle.std.proofs.Common.{inl, inr}
use Rattle.stun_grammar.specs.declared.error.StunParseError.{StunParseError}
use Rattle.stun_grammar.specs.AttributeTypes.{ALTERNATE_DOMAIN, ALTERNATE_SERVER, ERROR_CODE, FINGERPRINT, MESSAGE_INTEGRITY, MESSAGE_INTEGRITY_SHA256, NONCE, PASSWORD_ALGORITHM, PASSWORD_ALGORITHMS, REALM, SOFTWARE, UNKNOWN_ATTRIBUTES, USERHASH, USERNAME, XOR_MAPPED_ADDRESS}
use Rattle.stun_values.specs.TextValues.{text_max, username_max}
use Rattle.stun_attributes.specs.Reading.{ReadsTyped}
use Rattle.stun_attributes.specs.AddressAttributes.{ReadsAddress}
use Rattle.stun_attributes.specs.Kinds.{addr_of, xored_of}
use Rattle.stun_attributes.specs.ErrorCodes.{ReadsError}
use Rattle.stun_attributes.specs.PasswordAlgorithms.{ReadsAlgorithm, ReadsAlgorithms}
use Rattle.stun_attributes.specs.Texts.{ReadsText}
use Rattle.stun_attributes.specs.Unknown.{ReadsTypes}
use Rattle.stun_attributes.specs.Integrity.{ReadsFingerprint, ReadsIntegrity, ReadsIntegritySha256}
use Rattle.stun_attributes.specs.Userhash.{ReadsUserhash}
use Rattle.stun_types.proofs.laws.types_are_read.Goals as goal

-- both readers follow one rule
either : {A : Type 0} (wanted : ℕ) (rule : List ℕ → Result A StunParseError → Type 0) (type : ℕ) (value : List ℕ) (result : Result A StunParseError)
    → ReadsTyped wanted rule type value result ⊎ ReadsTyped wanted rule type value result → ReadsTyped wanted rule type value result
either wanted rule type value result (inl read) = read
either wanted rule type value result (inr read) = read

pub returns-clause-username : goal.returns-clause-username
returns-clause-username c = either USERNAME (ReadsText username_max)

pub returns-clause-realm : goal.returns-clause-realm
returns-clause-realm c = either REALM (ReadsText text_max)

pub returns-clause-nonce : goal.returns-clause-nonce
returns-clause-nonce c = either NONCE (ReadsText text_max)

pub returns-clause-software : goal.returns-clause-software
returns-clause-software c = either SOFTWARE (ReadsText text_max)

pub returns-clause-alternate_domain : goal.returns-clause-alternate_domain
returns-clause-alternate_domain c = either ALTERNATE_DOMAIN (ReadsText 65535)

pub returns-clause-alternate_server : goal.returns-clause-alternate_server
returns-clause-alternate_server c = either ALTERNATE_SERVER (ReadsAddress addr_of)

pub returns-clause-xor_mapped_address : goal.returns-clause-xor_mapped_address
returns-clause-xor_mapped_address c = either XOR_MAPPED_ADDRESS (ReadsAddress xored_of)

pub returns-clause-error_code : goal.returns-clause-error_code
returns-clause-error_code c = either ERROR_CODE ReadsError

pub returns-clause-unknown_attributes : goal.returns-clause-unknown_attributes
returns-clause-unknown_attributes c = either UNKNOWN_ATTRIBUTES ReadsTypes

pub returns-clause-password_algorithm : goal.returns-clause-password_algorithm
returns-clause-password_algorithm c = either PASSWORD_ALGORITHM ReadsAlgorithm

pub returns-clause-password_algorithms : goal.returns-clause-password_algorithms
returns-clause-password_algorithms c = either PASSWORD_ALGORITHMS ReadsAlgorithms

pub returns-clause-message_integrity : goal.returns-clause-message_integrity
returns-clause-message_integrity c = either MESSAGE_INTEGRITY ReadsIntegrity

pub returns-clause-message_integrity_sha256 : goal.returns-clause-message_integrity_sha256
returns-clause-message_integrity_sha256 c = either MESSAGE_INTEGRITY_SHA256 ReadsIntegritySha256

pub returns-clause-fingerprint : goal.returns-clause-fingerprint
returns-clause-fingerprint c = either FINGERPRINT ReadsFingerprint

pub returns-clause-userhash : goal.returns-clause-userhash
returns-clause-userhash c = either USERHASH ReadsUserhash
