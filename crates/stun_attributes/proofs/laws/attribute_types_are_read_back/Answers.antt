use Rattle.stun_grammar.specs.AttributeTypes.{USERNAME, REALM, NONCE, SOFTWARE, ALTERNATE_DOMAIN, ALTERNATE_SERVER, XOR_MAPPED_ADDRESS, ERROR_CODE, UNKNOWN_ATTRIBUTES, PASSWORD_ALGORITHM, PASSWORD_ALGORITHMS}
use Rattle.stun_values.specs.Addresses.{address_value}
use Rattle.stun_values.specs.Algorithms.{algorithm_encoding, algorithms_encoding}
use Rattle.stun_values.specs.ErrorValues.{error_value}
use Rattle.stun_values.specs.TextValues.{text_max, username_max}
use Rattle.stun_values.specs.TypeLists.{types_encoding}
use Rattle.stun_attributes.proofs.WireReadBackLemmas.{own_value}
use Rattle.stun_attributes.specs.AddressAttributes.{ReadsAddress}
use Rattle.stun_attributes.specs.Kinds.{addr_of, xored_of}
use Rattle.stun_attributes.specs.ErrorCodes.{error_code, error_reason, ReadsError}
use Rattle.stun_attributes.specs.PasswordAlgorithms.{ReadsAlgorithm, ReadsAlgorithms, held_algorithm, held_algorithms}
use Rattle.stun_attributes.specs.Texts.{text_bytes, ReadsText}
use Rattle.stun_attributes.specs.Unknown.{ReadsTypes, listed}
use Rattle.stun_attributes.proofs.AddressesLemmas.{address_back}
use Rattle.stun_attributes.proofs.ReadBackLemmas.{algorithm_back, algorithms_back, error_back, types_back}
use Rattle.stun_attributes.proofs.TextsLemmas.{read_back}
use Rattle.stun_attributes.proofs.laws.attribute_types_are_read_back.Goals as goal

pub returns-clause-username : goal.returns-clause-username
returns-clause-username c = λ attribute result reported. read_back attribute result (own_value USERNAME (ReadsText username_max) (text_bytes attribute) result reported)

pub returns-clause-realm : goal.returns-clause-realm
returns-clause-realm c = λ attribute result reported. read_back attribute result (own_value REALM (ReadsText text_max) (text_bytes attribute) result reported)

pub returns-clause-nonce : goal.returns-clause-nonce
returns-clause-nonce c = λ attribute result reported. read_back attribute result (own_value NONCE (ReadsText text_max) (text_bytes attribute) result reported)

pub returns-clause-software : goal.returns-clause-software
returns-clause-software c = λ attribute result reported. read_back attribute result (own_value SOFTWARE (ReadsText text_max) (text_bytes attribute) result reported)

pub returns-clause-alternate_domain : goal.returns-clause-alternate_domain
returns-clause-alternate_domain c = λ attribute result reported. read_back attribute result (own_value ALTERNATE_DOMAIN (ReadsText 65535) (text_bytes attribute) result reported)

pub returns-clause-alternate_server : goal.returns-clause-alternate_server
returns-clause-alternate_server c = λ attribute plain range result reported.
    address_back addr_of (addr_of attribute) result plain range (own_value ALTERNATE_SERVER (ReadsAddress addr_of) (address_value (addr_of attribute)) result reported)

pub returns-clause-xor_mapped_address : goal.returns-clause-xor_mapped_address
returns-clause-xor_mapped_address c = λ attribute range result reported.
    address_back xored_of (xored_of attribute) result attribute.plain range
    (own_value XOR_MAPPED_ADDRESS (ReadsAddress xored_of) (address_value (xored_of attribute)) result reported)

pub returns-clause-error_code : goal.returns-clause-error_code
returns-clause-error_code c = λ attribute result reported.
    error_back attribute result (own_value ERROR_CODE ReadsError (error_value (error_code attribute) (error_reason attribute)) result reported)

pub returns-clause-unknown_attributes : goal.returns-clause-unknown_attributes
returns-clause-unknown_attributes c = λ attribute small result reported.
    types_back attribute result small (own_value UNKNOWN_ATTRIBUTES ReadsTypes (types_encoding (listed attribute)) result reported)

pub returns-clause-password_algorithm : goal.returns-clause-password_algorithm
returns-clause-password_algorithm c = λ attribute result reported.
    algorithm_back attribute result (own_value PASSWORD_ALGORITHM ReadsAlgorithm (algorithm_encoding (held_algorithm attribute)) result reported)

pub returns-clause-password_algorithms : goal.returns-clause-password_algorithms
returns-clause-password_algorithms c = λ attribute some result reported.
    algorithms_back attribute result some (own_value PASSWORD_ALGORITHMS ReadsAlgorithms (algorithms_encoding (held_algorithms attribute)) result reported)
