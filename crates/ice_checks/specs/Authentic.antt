-- What holds of the events that a datagram is.
use Rattle.std.specs.Prelude.{◌≡◌, ℕ, true, List, None, Some, Result, Ok, Err, IsSomeAnd}
use Rattle.stun_grammar.specs.declared.integrity_algorithm.IntegrityAlgorithm.{IntegrityAlgorithm}
use Rattle.stun_grammar.specs.declared.integrity_algorithm.IntegrityAlgorithm.TheVariants.{Sha1}
use Rattle.stun_grammar.specs.Accepting.{IsAuthenticThrough}
use Rattle.stun_grammar.specs.AttributeTypes.{USERNAME}
use Rattle.stun_keys.specs.Keys.{key_algorithm, key_bytes}
use Rattle.stun_authentication.specs.declared.answer.Refusal.{Refusal}
use Rattle.stun_authentication.specs.Answers.{Decision, accept, refuse}
use Rattle.stun_authentication.specs.Identities.{value_of}
use Rattle.stun_keys.specs.declared.keys.integrity_key.IntegrityKey.{IntegrityKey}
use Rattle.ice_machine.specs.Events.{Event, checks, responds}
use Rattle.ice_checks.specs.declared.judged.Judged.{Judged}
use Rattle.ice_checks.specs.declared.judged.Judged.TheVariants.{Arrives, Strays, Refused, Responds, Checks}
use Rattle.ice_checks.specs.Judging.{is_message}
use Rattle.ice_checks.specs.Sessions.{is_named}
use Rattle.ice_checks.specs.Views.{Logins}

-- a decision about a request is returned: the algorithm whose HMAC is right, by which the reply is signed; or
-- the refusal
abbrev pub Decides : Decision → Result IntegrityAlgorithm Refusal → Type 0
Decides (accept user key algorithm reply_algorithm) (Ok found) =
    (algorithm ≡ found) × (reply_algorithm ≡ found)
Decides (refuse refusal) (Err found) = refusal ≡ found
Decides _ _ = ⊥

-- d is authentic under a key, by an algorithm
abbrev pub IsSignedBy : IntegrityKey → List ℕ → IntegrityAlgorithm → Type 0
IsSignedBy key d algorithm = IsAuthenticThrough (key_algorithm key) (λ _. key_bytes key) d algorithm

-- d is a check of this session: its USERNAME has the fragment of this agent, and that of the peer, if it is
-- known; and it is authentic under this agent's key
pub record IsCheck (logins : Logins) (d : List ℕ) (algorithm : IntegrityAlgorithm) : Type 0 where
  pub message : is_message d ≡ true
  pub username : List ℕ
  pub shown : value_of d USERNAME ≡ Some username
  pub named : is_named logins username ≡ true
  pub signed : IsSignedBy logins.own.key d algorithm

-- d is a response of the peer: authentic under its key, by the algorithm of the check
pub record IsResponse (logins : Logins) (d : List ℕ) : Type 0 where
  pub message : is_message d ≡ true
  pub signed : IsSomeAnd logins.peer (λ peer. IsSignedBy peer.key d Sha1)

-- a check and a response are the peer's, and so is a request whose error response is signed
abbrev pub IsAuthenticAs : Logins → List ℕ → Judged → Type 0
IsAuthenticAs logins d Arrives = Unit {0}
IsAuthenticAs logins d (Strays id) = Unit {0}
IsAuthenticAs logins d (Refused id refusal None) = Unit {0}
IsAuthenticAs logins d (Refused id refusal (Some algorithm)) = IsCheck logins d algorithm
IsAuthenticAs logins d (Responds id answer mapped) = IsResponse logins d
IsAuthenticAs logins d (Checks check algorithm) = IsCheck logins d algorithm

-- the same of the event of the machine
abbrev pub IsAuthenticEvent : Logins → List ℕ → Event → Type 0
IsAuthenticEvent logins d (checks check) = (algorithm : IntegrityAlgorithm) × IsCheck logins d algorithm
IsAuthenticEvent logins d (responds base from id answer) = IsResponse logins d
IsAuthenticEvent logins d _ = Unit {0}
