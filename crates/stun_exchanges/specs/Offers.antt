-- What a server offers to a client that it asks for credentials, and the client's choice (RFC 8489,
-- sections 9.2, 9.2.1, 9.2.4 and 9.2.5).
use Rattle.std.specs.Prelude.{◌≡◌, ℕ, ◌^◌, ◌<◌, Bool, true, false, List, length, nat_eq, Option, Some, None, is_some}
use Rattle.std.specs.Cmp.Lexicographic.{pointwise}
use Rattle.std.specs.Option.{option_map_or}
use Rattle.stun_grammar.specs.Attributes.{Attribute}
use Rattle.stun_grammar.specs.Writing.{message_encoding}
use Rattle.stun_values.specs.declared.algorithm.PasswordAlgorithmValue.{PasswordAlgorithmValue}
use Rattle.stun_values.specs.TextValues.{text_max, text_fault}
use Rattle.stun_authentication.specs.declared.answer.Refusal.{Refusal}
use Rattle.stun_authentication.specs.declared.answer.Refusal.TheVariants.{BadRequest, Unauthenticated, StaleNonce}
use Rattle.stun_authentication.specs.Asking.{Asked, listed}
use Rattle.stun_authentication.specs.Refusing.{refusal_attributes}
use Rattle.stun_authentication.specs.Challenges.{selected}
use Rattle.stun_authentication.specs.Cookies.{promises_algorithms}
use Rattle.stun_authentication.specs.Lookups.{Known, valid}
use Rattle.stun_authentication.specs.Writing.{finished}

-- the nonce is valid, was sent with these algorithms, which are the list, and its cookie says whether
-- there is one
pub record IsOffered (nonces : List ℕ → Known) (asked : Asked) (algorithms : List PasswordAlgorithmValue) : Type 0 where
  pub known : nonces asked.nonce ≡ valid algorithms
  pub list_is : asked.list ≡ listed algorithms
  pub agrees : promises_algorithms asked.nonce ≡ is_some asked.list

-- a client that supports these algorithms takes this one: the first on the list, or MD5 if there
-- is none
abbrev pub Takes : List PasswordAlgorithmValue → Asked → PasswordAlgorithmValue → Type 0
Takes supported asked algorithm = selected supported asked.list ≡ Some algorithm

-- the lengths of what a request copies fit their fields
pub record IsShort (asked : Asked) (name : List ℕ) : Type 0 where
  pub realm_fits : length asked.realm < 2 ^ 16
  pub nonce_fits : length asked.nonce < 2 ^ 16
  pub list_fits : (value : List ℕ) → asked.list ≡ Some value → length value < 2 ^ 16
  pub name_fits : length name < 2 ^ 16

-- realm and nonce are texts, as long as their attributes may be, and the list fits its length field
pub record IsLawful (asked : Asked) : Type 0 where
  pub realm_is : text_fault text_max asked.realm ≡ None
  pub nonce_is : text_fault text_max asked.nonce ≡ None
  pub list_fits : (value : List ℕ) → asked.list ≡ Some value → length value < 2 ^ 16

-- a refusal that asks for credentials
abbrev pub asks : Refusal → Bool
asks BadRequest = false
asks Unauthenticated = true
asks StaleNonce = true

-- the error response with these attributes, as `refuse_long_term` writes it, with a FINGERPRINT or without
abbrev pub refused_attributes : (fingerprint : Bool) → ℕ → ℕ → Refusal → Asked → List Attribute
refused_attributes fingerprint kind id refusal asked =
    finished fingerprint kind id (refusal_attributes refusal (Some asked))

abbrev pub refused : (fingerprint : Bool) → ℕ → ℕ → Refusal → Asked → List ℕ
refused fingerprint kind id refusal asked =
    message_encoding kind id (refused_attributes fingerprint kind id refusal asked)

-- nothing that a client knows from earlier challenges keeps it from answering one that asks for this:
-- if the server sent a list before, this has one, and if its credentials were tried, a 401 asks for
-- another realm
pub record Retries (tried : Option (List ℕ)) (had_algorithms : Bool) (refusal : Refusal) (asked : Asked) : Type 0 where
  pub listed : had_algorithms ≡ true → is_some asked.list ≡ true
  pub untried : refusal ≡ Unauthenticated
      → option_map_or (λ before. pointwise nat_eq before asked.realm) tried false ≡ false
