-- What the code is given, as values: nothing is borrowed in them.
use Rattle.std.specs.Prelude.{ℕ, List, Option}
use Rattle.std.specs.Option.{option_map}
use Rattle.stun_grammar.specs.declared.attribute_type.AttributeType.{AttributeType}
use Rattle.stun_grammar.specs.declared.integrity_algorithm.IntegrityAlgorithm.{IntegrityAlgorithm}
use Rattle.stun_keys.specs.declared.keys.integrity_key.IntegrityKey.{IntegrityKey}
use Rattle.stun_endpoints.specs.declared.endpoints.Endpoint.{Endpoint}
use Rattle.ice_attrs.specs.CheckUsernames.{ufrag_text}
use Rattle.ice_checks.specs.declared.finishing.Signature.{Signature}
use Rattle.ice_checks.specs.declared.response.CheckResponse.{CheckResponse}
use Rattle.ice_checks.specs.declared.response.CheckResponse.TheVariants.{Success, BadRequest, Unauthenticated, UnknownTypes, RoleConflict}
use Rattle.ice_checks.specs.declared.session.Credentials.{Credentials}
use Rattle.ice_checks.specs.declared.session.Session.{Session}
use Rattle.ice_checks.specs.declared.unknown.UnknownList.{UnknownList}
use Rattle.ice_checks.specs.Types.{listed_types}

-- the credentials of an agent (RFC 8445, section 5.3): its username fragment, and the key of its password
pub record Login : Type 0 where
  pub fragment : List ℕ
  pub key : IntegrityKey

abbrev pub login_of : Credentials → Login
login_of credentials =
    record { fragment = ufrag_text credentials.fragment; key = credentials.key.now }

-- those of both agents of a session: the peer's, once they are known
pub record Logins : Type 0 where
  pub own : Login
  pub peer : Option Login

abbrev pub logins_of : Session → Logins
logins_of session =
    record { own = login_of session.own; peer = option_map login_of session.peer }

-- by which key and algorithm a message is signed
pub record Signing : Type 0 where
  pub key : IntegrityKey
  pub algorithm : IntegrityAlgorithm

abbrev pub signing_of : Signature → Signing
signing_of signature = record { key = signature.key.now; algorithm = signature.algorithm }

abbrev pub types_in : UnknownList → List AttributeType
types_in list = listed_types list.message.now

-- a success response to a check from an address; or an error response, of which a 420 lists types
pub data Response : Type 0 where
  success : (source : Endpoint) → Response
  bad_request : Response
  unauthenticated : Response
  unknown : List AttributeType → Response
  role_conflict : Response

abbrev pub response_of : CheckResponse → Response
response_of (Success source) = success source
response_of BadRequest = bad_request
response_of Unauthenticated = unauthenticated
response_of (UnknownTypes types) = unknown (types_in types)
response_of RoleConflict = role_conflict
