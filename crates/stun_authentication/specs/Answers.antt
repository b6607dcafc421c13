-- What a server answers to a message that it authenticates.
use Rattle.std.specs.Prelude.{◌≡◌, ℕ, Bool, List, Option, Some, find, codes}
use Rattle.std.specs.List.{list_any}
use Rattle.std.specs.Option.{option_map_or}
use Rattle.stun_grammar.specs.declared.integrity_algorithm.IntegrityAlgorithm.{IntegrityAlgorithm}
use Rattle.stun_base.specs.declared.message_class.MessageClass.{MessageClass}
use Rattle.stun_base.specs.declared.message_class.MessageClass.TheVariants.{Request}
use Rattle.stun_keys.specs.Keys.{IsKey}
use Rattle.stun_authentication.specs.declared.answer.Accepted.{Accepted}
use Rattle.stun_authentication.specs.declared.answer.Refusal.{Refusal}
use Rattle.stun_authentication.specs.declared.answer.Refusal.TheVariants.{BadRequest, Unauthenticated, StaleNonce}
use Rattle.stun_authentication.specs.declared.answer.Authentication.{Authentication}
use Rattle.stun_authentication.specs.declared.answer.Authentication.TheVariants.{Accepted as AcceptedBy, Refused, Discarded, NotARequest}
use Rattle.stun_authentication.specs.Identities.{Who, who}
use Rattle.stun_authentication.specs.Lookups.{UserKey}

-- accepted: the user, by its key and the algorithm whose HMAC was right, with the algorithm that the
-- reply is signed by; refused; dropped; or none that the mechanism authenticates at a server
pub data Decision : Type 0 where
  accept : (user : Who) → (key : UserKey) → (algorithm reply_algorithm : IntegrityAlgorithm)
      → Decision
  refuse : Refusal → Decision
  discard : Decision
  not_a_request : Decision

-- the code of a refusal
abbrev pub refusal_code : Refusal → ℕ
refusal_code BadRequest = 400
refusal_code Unauthenticated = 401
refusal_code StaleNonce = 438

-- the reason phrase of its error response (section 14.8)
abbrev pub refusal_reason : Refusal → List ℕ
refusal_reason BadRequest = codes "Bad Request"
refusal_reason Unauthenticated = codes "Unauthenticated"
refusal_reason StaleNonce = codes "Stale Nonce"

-- an answer reports a decision
pub record TellsAccept (user : Who) (key : UserKey) (algorithm reply_algorithm : IntegrityAlgorithm)
    (accepted : Accepted) : Type 0 where
  pub user_is : who accepted.user ≡ user
  pub key_is : IsKey key.made_for key.bytes accepted.key
  pub algorithm_is : accepted.algorithm ≡ algorithm
  pub reply_is : accepted.reply_algorithm ≡ reply_algorithm

abbrev pub Tells : Decision → Authentication → Type 0
Tells (accept user key algorithm reply) (AcceptedBy accepted) =
    TellsAccept user key algorithm reply accepted
Tells (refuse refusal) (Refused reported) = reported ≡ refusal
Tells discard Discarded = Unit {0}
Tells not_a_request NotARequest = Unit {0}
Tells _ _ = ⊥

-- how a message of a class is rejected: a request by an error response, and any other silently
-- (RFC 8489, section 9.1.3)
abbrev pub rejected : MessageClass → Refusal → Decision
rejected Request refusal = refuse refusal
rejected _ refusal = discard

-- ---- Tables

-- a row of a table: whether its condition holds, and what it decides
abbrev pub Row : Type 0
Row = Bool × Decision

-- whether one of these rows decides
abbrev pub decides : List Row → Bool
decides rows = list_any (λ row. row.0) rows

-- what the first row decides whose condition holds
abbrev pub decided : List Row → (otherwise : Decision) → Decision
decided rows otherwise = option_map_or (λ row. row.1) (find (λ row. row.0) rows) otherwise

-- accepted, with the user, its key, and the algorithm whose HMAC is right under it: there are all
-- three, if no row before decides
abbrev pub accepted : Option Who → Option UserKey → Option IntegrityAlgorithm
    → (reply_by : IntegrityAlgorithm → IntegrityAlgorithm) → Decision
accepted (Some user) (Some key) (Some algorithm) reply_by =
    accept user key algorithm (reply_by algorithm)
accepted _ _ _ reply_by = discard
