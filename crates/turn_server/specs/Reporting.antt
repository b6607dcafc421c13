-- What the code says of a datagram.
use Rattle.std.specs.Prelude.{◌≡◌, List, ℕ}
use Rattle.stun_grammar.specs.Headers.{type_field}
use Rattle.stun_grammar.specs.declared.integrity_algorithm.IntegrityAlgorithm.{IntegrityAlgorithm}
use Rattle.stun_base.specs.MessageTypes.{method_of}
use Rattle.stun_keys.specs.Keys.{IsKey}
use Rattle.stun_types.specs.Message.{message_bytes}
use Rattle.stun_authentication.specs.declared.answer.Accepted.{Accepted}
use Rattle.stun_authentication.specs.Lookups.{UserKey}
use Rattle.turn_server.specs.declared.judged.Asking.{Asking}
use Rattle.turn_server.specs.declared.judged.Judged.{Judged as Reported}
use Rattle.turn_server.specs.declared.judged.Judged.TheVariants.{Dropped, Binding, Refused, Unknown, Sent, SentOn, Asked}
use Rattle.turn_server.specs.Judging.{Site, Judged, dropped, binding, refused, unknown, sent, sent_on, asked}
use Rattle.turn_server.specs.Requests.{request_of}
use Rattle.turn_server.specs.Spans.{StandsAt}
use Rattle.turn_slots.specs.Users.{user_number}

-- the user's key, and the algorithm that the answer is signed by
pub record Signs (key : UserKey) (reply_algorithm : IntegrityAlgorithm) (accepted : Accepted)
    : Type 0 where
  pub key_is : IsKey key.made_for key.bytes accepted.key
  pub reply_is : accepted.reply_algorithm ≡ reply_algorithm

-- d was read
abbrev pub IsRead : List ℕ → Asking → Type 0
IsRead d request = message_bytes request.message ≡ d

-- what comes of d is reported: of a user's request who asks, since what it asks for is read later
abbrev pub Tells : Site → List ℕ → Judged → Reported → Type 0
Tells site d dropped Dropped = Unit {0}
Tells site d binding (Binding request) = IsRead d request
Tells site d (refused refusal) (Refused request reported) = IsRead d request × (reported ≡ refusal)
Tells site d (unknown key algorithm) (Unknown request accepted) =
    IsRead d request × Signs key algorithm accepted
Tells site d (sent peer dont_fragment bytes) (Sent to whole span) =
    (to ≡ peer) × ((whole ≡ dont_fragment) × StandsAt span bytes d)
Tells site d (sent_on channel bytes) (SentOn on span) = (on ≡ channel) × StandsAt span bytes d
Tells site d (asked user wanted key algorithm) (Asked request by accepted) =
    IsRead d request × ((user_number by ≡ user) × (Signs key algorithm accepted
    × (wanted ≡ request_of site.client site.sockets (method_of (type_field d)) d)))
Tells site d _ _ = ⊥
