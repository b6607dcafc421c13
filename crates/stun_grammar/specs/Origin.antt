-- What was signed in the messages that were sent, and the content that was signed.
use Rattle.std.specs.Prelude.{◌≡◌, ◌≢◌, ℕ, Bool, false, ◌&&◌, List, [], ◌∷◌, ◌++◌, Contains, nat_eq, ◌==◌, if◌then◌else◌}
use Rattle.std.specs.List.{AllByRecursion}
use Rattle.std.specs.Cmp.Lexicographic.{pointwise}
use Rattle.stun_grammar.specs.declared.integrity_algorithm.IntegrityAlgorithm.{IntegrityAlgorithm}
use Rattle.stun_grammar.specs.Attributes.{Attribute}
use Rattle.stun_grammar.specs.Chains.{placed}
use Rattle.stun_grammar.specs.Verdicts.{type_of_algorithm}
use Rattle.stun_grammar.specs.Authentic.{Content}
use Rattle.stun_grammar.specs.Writing.{message_encoding}
use Rattle.stun_grammar.specs.Hmac.{hmac}
use Rattle.stun_grammar.specs.Steps.{Step, add, sign, sign_given, finger, with_step, signed_bytes}
use Rattle.stun_grammar.specs.Sending.{Sent}

-- bytes that were signed, and the attributes of their message through the integrity attribute that
-- signed them
pub record Signature : Type 0 where
  pub covered : List ℕ
  pub through : List Attribute

-- whether a step that covers these bytes signs them with this algorithm and this key: with the key, or
-- with an HMAC that is the key's
abbrev pub signs : IntegrityAlgorithm → List ℕ → List ℕ → Step → Bool
signs algorithm key covered (add type value) = false
signs algorithm key covered (sign a k) =
    (type_of_algorithm a == type_of_algorithm algorithm) && pointwise nat_eq k key
signs algorithm key covered (sign_given a given) =
    (type_of_algorithm a == type_of_algorithm algorithm)
    && pointwise nat_eq given (hmac algorithm key covered)
signs algorithm key covered finger = false

-- what steps sign with a key and an algorithm, if the message has these attributes already
unfoldable pub signed_from : ℕ → ℕ → List Attribute → List Step → List ℕ → IntegrityAlgorithm
    → List Signature
signed_from type id before [] key algorithm = []
signed_from type id before (step ∷ steps) key algorithm =
    let message = message_encoding type id before in
    let through = with_step type id before step in
    let covered = signed_bytes message algorithm in
    (if signs algorithm key covered step
    then record { covered = covered; through = through } ∷ [] else [])
    ++ signed_from type id through steps key algorithm

-- what is signed in a message with a key and an algorithm
abbrev pub signed : Sent → List ℕ → IntegrityAlgorithm → List Signature
signed sent key algorithm = signed_from sent.type sent.id [] sent.steps key algorithm

-- the content of a message through one of its integrity attributes
abbrev pub reported : Sent → List Attribute → Content
reported sent through = record { type = sent.type; id = sent.id; attributes = placed 20 through }

-- the bytes c were signed in no message that was sent
abbrev pub IsUnsigned : List Sent → List ℕ → IntegrityAlgorithm → List ℕ → Type 0
IsUnsigned sent key algorithm c =
    AllByRecursion
    (λ message. AllByRecursion (λ s. s.covered ≢ c) (signed message key algorithm)) sent

-- the content is that of a message that was sent, through an integrity attribute that signed the
-- bytes c
pub record ComesFrom (sent : List Sent) (key : List ℕ) (algorithm : IntegrityAlgorithm)
    (c : List ℕ) (content : Content) : Type 0 where
  pub message : Sent
  pub was_sent : Contains sent message
  pub signature : Signature
  pub was_signed : Contains (signed message key algorithm) signature
  pub covers : signature.covered ≡ c
  pub tells : content ≡ reported message signature.through
