-- Requests with credentials, as they are written (RFC 8489, sections 9.1.2, 9.2.2, 9.2.5, 14.4, 14.11
-- and 14.12).
use Rattle.std.specs.Prelude.{◌⊎◌, ℕ, Bool, true, false, List, [], ◌∷◌, ◌++◌, length, Option, None, Some, Result, MatchOption, nat_lt, if◌then◌else◌}
use Rattle.stun_grammar.specs.declared.error.StunWriteError.{StunWriteError}
use Rattle.stun_grammar.specs.declared.error.StunWriteError.TheVariants.{TooLarge, OutOfMemory}
use Rattle.stun_grammar.specs.declared.integrity_algorithm.IntegrityAlgorithm.{IntegrityAlgorithm}
use Rattle.stun_grammar.specs.declared.integrity_algorithm.IntegrityAlgorithm.TheVariants.{Sha1, Sha256}
use Rattle.stun_grammar.specs.Attributes.{Attribute, canonical}
use Rattle.stun_grammar.specs.AttributeTypes.{USERNAME, USERHASH, REALM, NONCE, PASSWORD_ALGORITHM, PASSWORD_ALGORITHMS}
use Rattle.stun_grammar.specs.Steps.{Step, sign}
use Rattle.stun_grammar.specs.Writing.{message_encoding}
use Rattle.stun_attributes.specs.Userhash.{user_hash}
use Rattle.stun_keys.specs.declared.keys.long_term.LongTermCredentials.{LongTermCredentials}
use Rattle.stun_keys.specs.Keys.{login_username, login_password, long_term_key}
use Rattle.stun_values.specs.declared.algorithm.PasswordAlgorithmValue.{PasswordAlgorithmValue}
use Rattle.stun_types.specs.Writers.{Writer}
use Rattle.stun_values.specs.Algorithms.{algorithm_encoding, integrity_of}
use Rattle.stun_values.specs.TextValues.{username_max}
use Rattle.stun_authentication.specs.Asking.{Asked, asks_userhash}
use Rattle.stun_authentication.specs.Challenges.{Retry, signing_algorithm}
use Rattle.stun_authentication.specs.Identities.{Who, named, hashed}
use Rattle.stun_authentication.specs.Writing.{adds, signed, finished, print_steps, Finishes, FinishesBy, FailsBy}

-- ---- Short-term credentials (section 9.1.2)

-- the integrity attributes of a request: the one of the algorithm that both sides are known to
-- support, or both, MESSAGE-INTEGRITY first
abbrev pub signed_by_each : Option IntegrityAlgorithm → ℕ → ℕ → List Attribute → List ℕ
    → List Attribute
signed_by_each (Some algorithm) kind id before key = signed kind id before algorithm key
signed_by_each None kind id before key =
    signed kind id (signed kind id before Sha1 key) Sha256 key

-- a request or an indication with these attributes, and after them USERNAME and the integrity
-- attributes
abbrev pub short_term_attributes : (fingerprint : Bool) → Option IntegrityAlgorithm → ℕ → ℕ
    → List Attribute → (name key : List ℕ) → List Attribute
short_term_attributes fingerprint sent kind id before name key =
    finished fingerprint kind id
    (signed_by_each sent kind id (before ++ canonical USERNAME name ∷ []) key)

abbrev pub short_term_request : (fingerprint : Bool) → Option IntegrityAlgorithm → ℕ → ℕ
    → List Attribute → (name key : List ℕ) → List ℕ
short_term_request fingerprint sent kind id before name key =
    message_encoding kind id (short_term_attributes fingerprint sent kind id before name key)

-- ---- Long-term credentials (section 9.2.5)

-- a user, by a name and a password
pub record User : Type 0 where
  pub name : List ℕ
  pub password : List ℕ

-- the user of a login that a server keeps
abbrev pub user_of : LongTermCredentials → User
user_of login = record { name = login_username login; password = login_password login }

-- who the request says that it comes from
abbrev pub identity : (anonymous : Bool) → (realm name : List ℕ) → Who
identity false realm name = named name
identity true realm name = hashed (user_hash name realm)

abbrev pub asked_identity : Asked → (name : List ℕ) → Who
asked_identity asked name = identity (asks_userhash asked) asked.realm name

-- USERNAME, or USERHASH if the nonce says that it serves
abbrev pub identity_attribute : Who → Attribute
identity_attribute (named name) = canonical USERNAME name
identity_attribute (hashed hash) = canonical USERHASH hash

-- PASSWORD-ALGORITHMS with the same content, and PASSWORD-ALGORITHM, if there was a list
abbrev pub algorithm_attributes : Option (List ℕ) → PasswordAlgorithmValue → List Attribute
algorithm_attributes None algorithm = []
algorithm_attributes (Some list) algorithm =
    canonical PASSWORD_ALGORITHMS list ∷ canonical PASSWORD_ALGORITHM (algorithm_encoding algorithm)
    ∷ []

-- what the request carries of a challenge, for a user
abbrev pub credentials : Retry → List ℕ → List Attribute
credentials retry name =
    identity_attribute (asked_identity retry.asked name)
    ∷ canonical REALM retry.asked.realm ∷ canonical NONCE retry.asked.nonce
    ∷ algorithm_attributes retry.asked.list retry.algorithm

-- the user's key in that realm, by that algorithm (section 9.2.2)
abbrev pub user_key : Retry → User → List ℕ
user_key retry user =
    long_term_key (integrity_of retry.algorithm) user.name retry.asked.realm user.password

-- a request with these attributes, and after them what the challenge asks for, signed with a key
abbrev pub answering_attributes : (fingerprint : Bool) → Retry → (name key : List ℕ) → ℕ → ℕ
    → List Attribute → List Attribute
answering_attributes fingerprint retry name key kind id before =
    finished fingerprint kind id
    (signed kind id (before ++ credentials retry name) (signing_algorithm retry) key)

-- the same with the user's key
abbrev pub retried_attributes : (fingerprint : Bool) → Retry → User → ℕ → ℕ → List Attribute
    → List Attribute
retried_attributes fingerprint retry user kind id before =
    answering_attributes fingerprint retry user.name (user_key retry user) kind id before

abbrev pub retried_request : (fingerprint : Bool) → Retry → User → ℕ → ℕ → List Attribute → List ℕ
retried_request fingerprint retry user kind id before =
    message_encoding kind id (retried_attributes fingerprint retry user kind id before)

-- the steps by which a request answers a challenge, and is signed with a key
abbrev pub login_steps : (fingerprint : Bool) → Retry → (name key : List ℕ) → List Step
login_steps fingerprint retry name key =
    adds (credentials retry name)
    ++ sign (signing_algorithm retry) key ∷ print_steps fingerprint

-- why a request can't name a user: no USERNAME has so many bytes (section 14.3)
abbrev pub name_refusal : List ℕ → Option StunWriteError
name_refusal name =
    if nat_lt username_max (length name) then Some (TooLarge username_max (length name)) else None

-- a challenge is answered with a key for a user, or nothing is written, since the name is too long or
-- the key was made for the other algorithm
abbrev pub AnswersWith : Retry → (name : List ℕ) → (made_for : Option IntegrityAlgorithm)
    → (key : List ℕ) → (fingerprint : Bool) → Result (Unit {0}) StunWriteError → (old new : Writer)
    → Type 0
AnswersWith retry name made_for key fingerprint result old new =
    MatchOption (name_refusal name)
    (FinishesBy made_for (signing_algorithm retry) result old new
    (answering_attributes fingerprint retry name key) (login_steps fingerprint retry name key))
    (FailsBy result old new)

-- the same with the user's key, which takes memory
abbrev pub AnswersFor : {T : Type 0} → Retry → User → (fingerprint : Bool)
    → Result T StunWriteError → (old new : Writer) → Type 0
AnswersFor retry user fingerprint result old new =
    MatchOption (name_refusal user.name)
    (Finishes result old new (retried_attributes fingerprint retry user)
    (login_steps fingerprint retry user.name (user_key retry user))
    ⊎ FailsBy result old new OutOfMemory)
    (FailsBy result old new)
