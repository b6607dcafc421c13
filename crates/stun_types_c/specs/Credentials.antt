-- Credentials in C's bytes: the keys and the hash that they give, and validating with them
-- (RFC 8489, sections 9.1.1, 9.1.3, 9.2.2, 9.2.4, 14.4 and 18.5.1).
use Rattle.std.specs.Prelude.{◌≡◌, ℕ, true, false, List, [], ◌∷◌, Option, None, Some, MatchOption, IsSomeAnd, if◌then◌else◌, ◌⊎◌}
use Rattle.std.specs.List.{list_all}
use Rattle.std.specs.Str.{is_utf8}
use Rattle.stun_grammar.specs.Parsing.{parse_fault}
use Rattle.stun_grammar.specs.Verdicts.{is_checked_type, verdict}
use Rattle.stun_attributes.specs.Userhash.{user_hash}
use Rattle.stun_keys.specs.declared.keys.integrity_key.IntegrityKey.{IntegrityKey}
use Rattle.stun_keys.specs.declared.keys.long_term_key.LongTermKeyCredentials.{LongTermKeyCredentials}
use Rattle.stun_values.specs.Algorithms.{integrity_of}
use Rattle.stun_keys.specs.Keys.{IsKey, long_term_key, long_term_username, long_term_realm, long_term_password}
use Rattle.stun_types_c.specs.declared.call_result.CResult.{CResult}
use Rattle.stun_types_c.specs.declared.keys.Hash.{Hash}
use Rattle.stun_types_c.specs.declared.validating.Validated.{Validated}
use Rattle.stun_types_c.specs.Codes.{OK, INVALID_DATA, OUT_OF_MEMORY, BAD_ARGUMENT}
use Rattle.stun_types_c.specs.CResults.{plain, parse_result, Refuses}
use Rattle.stun_types_c.specs.Keys.{password_answer}
use Rattle.stun_types_c.specs.PasswordAlgorithms.{password_numbered}
use Rattle.stun_types_c.specs.Validating.{TellsVerdict, Invalidates}

-- ---- Texts

-- why texts are refused: one of them isn't UTF-8
abbrev pub texts_refusal : List (List ℕ) → Option CResult
texts_refusal texts = if list_all is_utf8 texts then None else Some (plain INVALID_DATA)

-- the texts of a long-term credential, in the order in which they are tested and copied
abbrev pub credential_texts : (user realm password : List ℕ) → List (List ℕ)
credential_texts user realm password = user ∷ realm ∷ password ∷ []

-- something is done with the texts of a long-term credential, or one of them isn't UTF-8 and the call
-- is refused; or an allocation failed, and then the first is a text at least: it is tested before any
-- allocation
abbrev pub WithTexts : (user realm password : List ℕ) → (Done : Type 0)
    → (Refused : CResult → Type 0) → Type 0
WithTexts user realm password Done Refused =
    MatchOption (texts_refusal (credential_texts user realm password)) Done Refused
    ⊎ ((is_utf8 user ≡ true) × Refused (plain OUT_OF_MEMORY))

-- why bytes give no text: they aren't UTF-8, or an allocation failed
abbrev pub RefusesText : List ℕ → CResult → Type 0
RefusesText bytes answer =
    ((is_utf8 bytes ≡ false) × (answer ≡ plain INVALID_DATA))
    ⊎ ((is_utf8 bytes ≡ true) × (answer ≡ plain OUT_OF_MEMORY))

-- credentials with these texts
pub record IsLongTerm (user realm password : List ℕ)
    (credentials : LongTermKeyCredentials) : Type 0 where
  pub texts : texts_refusal (credential_texts user realm password) ≡ None
  pub username_is : long_term_username credentials ≡ user
  pub realm_is : long_term_realm credentials ≡ realm
  pub password_is : long_term_password credentials ≡ password

-- why there are none
abbrev pub RefusesLongTerm : (user realm password : List ℕ) → CResult → Type 0
RefusesLongTerm user realm password answer =
    (texts_refusal (credential_texts user realm password) ≡ Some answer)
    ⊎ ((is_utf8 user ≡ true) × (answer ≡ plain OUT_OF_MEMORY))

-- ---- What the calls answer

-- a handle holds the long-term key by the password algorithm of a number, of a password that has
-- bytes: it serves both integrity attributes (section 9.2.5)
abbrev pub HoldsLongTerm : ℕ → (user realm password : List ℕ) → CResult
    → (old new : Option IntegrityKey) → Type 0
HoldsLongTerm number user realm password result old new =
    MatchOption (password_numbered number)
    (Refuses (plain BAD_ARGUMENT) result old new)
    (λ algorithm. MatchOption (password_answer password)
    (WithTexts user realm password
    ((result ≡ plain OK)
    × IsSomeAnd new (IsKey None (long_term_key (integrity_of algorithm) user realm password)))
    (λ answer. Refuses answer result old new))
    (λ answer. Refuses answer result old new))

-- validating d under a password: why it is no message, or the password none, or the verdict if the
-- password is the key for both algorithms, or an allocation failed
abbrev pub ValidatesShortTerm : (password d : List ℕ) → CResult → Validated → Type 0
ValidatesShortTerm password d result new =
    MatchOption (parse_fault d)
    (MatchOption (password_answer password)
    (TellsVerdict d (verdict (is_checked_type None) (λ _. password) d) result new
    ⊎ Invalidates (plain OUT_OF_MEMORY) result new)
    (λ answer. Invalidates answer result new))
    (λ e. Invalidates (parse_result e) result new)

-- the same with a long-term credential, which gives each algorithm its key
abbrev pub ValidatesLongTerm : (user realm password d : List ℕ) → CResult → Validated → Type 0
ValidatesLongTerm user realm password d result new =
    MatchOption (parse_fault d)
    (MatchOption (password_answer password)
    (WithTexts user realm password
    (TellsVerdict d
    (verdict (is_checked_type None) (λ algorithm. long_term_key algorithm user realm password) d)
    result new)
    (λ answer. Invalidates answer result new))
    (λ answer. Invalidates answer result new))
    (λ e. Invalidates (parse_result e) result new)

-- the hash of a user in a realm is reported, or one of the two isn't UTF-8
abbrev pub TellsUserhash : (user realm : List ℕ) → CResult → (old new : Hash) → Type 0
TellsUserhash user realm result old new =
    MatchOption (texts_refusal (user ∷ realm ∷ []))
    ((result ≡ plain OK) × (new ≡ record { bytes = user_hash user realm }))
    (λ answer. Refuses answer result old new)
