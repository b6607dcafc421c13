-- What holds of a datagram that is judged to be a response, and which response must be heard (RFC
-- 8489, sections 6.3 and 9.2.5).
use Rattle.std.specs.Prelude.{◌≡◌, ◌⊎◌, ℕ, true, false, List, Option, None, Some, IsSomeAnd}
use Rattle.stun_grammar.specs.declared.integrity_algorithm.IntegrityAlgorithm.{IntegrityAlgorithm}
use Rattle.stun_grammar.specs.Headers.{type_field, id_field}
use Rattle.stun_grammar.specs.Parsing.{parse_fault}
use Rattle.stun_base.specs.MessageTypes.{class_of, method_of}
use Rattle.stun_base.specs.declared.message_class.MessageClass.TheVariants.{Success}
use Rattle.stun_authentication.specs.Challenges.{is_bid_down}
use Rattle.stun_authentication.specs.Codes.{is_challenge}
use Rattle.stun_transactions.specs.Responses.{first_unknown}
use Rattle.stun_transactions.specs.Taking.{IsAuthenticBy}
use Rattle.turn_client_machine.specs.declared.requests.Answer.{Answer}
use Rattle.turn_client_machine.specs.declared.requests.Answer.TheVariants.{Refused}
use Rattle.turn_requests.specs.Requests.{Credentials}
use Rattle.turn_client_messages.specs.Views.{Asked}
use Rattle.turn_client_messages.specs.Pending.{is_authentic}
use Rattle.turn_client_messages.specs.Requests.{id_of, method_for}
use Rattle.turn_client_messages.specs.Understood.{understood}
use Rattle.turn_client_messages.specs.Judging.{Judged, response, challenge, peer_data, channel_data, stray, response_id}

-- d is a response with this transaction ID, and the method and the ID of the request
pub record Answers (r : Asked) (id : ℕ) (d : List ℕ) : Type 0 where
  pub parses : parse_fault d ≡ None
  pub responds : response_id d ≡ Some id
  pub method_is : method_of (type_field d) ≡ method_for r.request.kind
  pub id_is : id ≡ id_of r.request

-- d validates with the key of the credentials, and the HMAC is whole
abbrev pub IsSigned : Option Credentials → List ℕ → Type 0
IsSigned login d =
    IsSomeAnd login (λ it. (a : IntegrityAlgorithm) × IsAuthenticBy 32 it.key d a)

-- d is a 401 or 438, and refuses the request
abbrev pub Refuses : Answer → List ℕ → Type 0
Refuses answer d = (is_challenge d ≡ true) × ((code : ℕ) × (answer ≡ Refused code))

-- it is a response to the request, and signed if it counts as authentic, unless it is a 401 or 438
-- that can't be answered
abbrev pub IsSo : Asked → List ℕ → Judged → Type 0
IsSo r d (response id authentic answer) =
    Answers r id d × (authentic ≡ true → Refuses answer d ⊎ IsSigned r.login d)
IsSo r d (challenge id authentic code retry) =
    Answers r id d × (is_challenge d ≡ true) × (authentic ≡ true → IsSigned r.login d)
IsSo r d (peer_data peer bytes) = Unit {0}
IsSo r d (channel_data channel bytes) = Unit {0}
IsSo r d stray = Unit {0}

-- the transaction ID of a response or of a challenge
abbrev pub id_in : Judged → Option ℕ
id_in (response id authentic answer) = Some id
id_in (challenge id authentic code retry) = Some id
id_in (peer_data peer bytes) = None
id_in (channel_data channel bytes) = None
id_in stray = None

-- ---- What must be heard

-- d is a success response to the request, its HMAC is right and whole, and it shows nothing that
-- isn't understood, and the list of password algorithms if its nonce promises one
pub record IsFit (r : Asked) (d : List ℕ) : Type 0 where
  pub parses : parse_fault d ≡ None
  pub succeeds : class_of (type_field d) ≡ Success
  pub method_is : method_of (type_field d) ≡ method_for r.request.kind
  pub id_is : id_field d ≡ id_of r.request
  pub signed : is_authentic r d ≡ true
  pub promised : is_bid_down d ≡ false
  pub known : first_unknown understood d ≡ None
