-- A request of the machine as judging its response needs it.
use Rattle.std.specs.Prelude.{ℕ, Bool, true, false, List, Option, None, Some, is_some}
use Rattle.std.specs.Option.{option_map}
use Rattle.stun_grammar.specs.declared.integrity_algorithm.IntegrityAlgorithm.{IntegrityAlgorithm}
use Rattle.stun_grammar.specs.declared.integrity_algorithm.IntegrityAlgorithm.TheVariants.{Sha1, Sha256}
use Rattle.stun_base.specs.declared.transport.TransportType.{TransportType}
use Rattle.stun_keys.specs.declared.keys.integrity_key.IntegrityKey.{IntegrityKey}
use Rattle.stun_authentication.specs.Challenges.{signing_algorithm}
use Rattle.stun_transactions.specs.declared.guard.Signed.{Signed}
use Rattle.stun_transactions.specs.declared.parts.Mechanism.{Mechanism}
use Rattle.stun_transactions.specs.declared.parts.Mechanism.TheVariants.{FirstLongTerm, LongTerm}
use Rattle.stun_transactions.specs.declared.parts.PendingRequest.{PendingRequest}
use Rattle.stun_transactions.specs.declared.response_policy.ResponsePolicy.{ResponsePolicy}
use Rattle.stun_transactions.specs.Guards.{proof_of}
use Rattle.turn_requests.specs.Requests.{Credentials}
use Rattle.turn_client_messages.specs.Views.{Asked}
use Rattle.turn_client_messages.specs.Requests.{id_of, method_for}

-- a request without a login is the first one of the long-term mechanism (RFC 8489, section 9.2.3.1)
abbrev pub mechanism_of : Option Credentials → Mechanism
mechanism_of None = FirstLongTerm
mechanism_of (Some login) = LongTerm

-- by which attribute it is signed
abbrev pub signed_by : IntegrityAlgorithm → Signed
signed_by Sha1 = record { sha1 = true; sha256 = false }
signed_by Sha256 = record { sha1 = false; sha256 = true }

abbrev pub signed_with : Option Credentials → Signed
signed_with None = record { sha1 = false; sha256 = false }
signed_with (Some login) = signed_by (signing_algorithm login.retry)

abbrev pub key_of : Option Credentials → Option IntegrityKey
key_of login = option_map (λ it. it.key) login

-- TURN asks for whole HMACs, and for no FINGERPRINT
abbrev pub turn_policy : ResponsePolicy
turn_policy = record { min_hmac_length = 32; fingerprint = false }

abbrev pub pending : TransportType → Asked → PendingRequest
pending transport r = record {
  transport = transport;
  method = method_for r.request.kind;
  id = id_of r.request;
  signed = signed_with r.login;
  mechanism = Some (mechanism_of r.login);
  usage = turn_policy;
}

-- whether an integrity attribute authenticates d as a response to the request
abbrev pub is_authentic : Asked → List ℕ → Bool
is_authentic r d =
    is_some (proof_of (Some (mechanism_of r.login)) (key_of r.login) turn_policy
    (signed_with r.login) d)

-- the realm in which the credentials of the request were tried, if it has any
abbrev pub realm_tried : Option Credentials → Option (List ℕ)
realm_tried login = option_map (λ it. it.retry.asked.realm) login
