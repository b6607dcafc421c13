-- Bytes that are texts, and validating with a long-term credential of such.
use Rattle.std.proofs.Common.{◌≡◌, ◌≢◌, ℕ, Bool, true, false, List, [], ◌∷◌, None, Result, Ok, Err, refl, ap, ◌∙◌, subst, inl, inr}
use Rattle.std.specs.Prelude.{◌⊎◌}
use Rattle.std.specs.Str.{IsUtf8, is_utf8}
use Rattle.std.proofs.lemmas.Str.{IsUtf8-from_is_utf8, is_utf8-from_IsUtf8}
use Rattle.stun_grammar.specs.declared.error.StunParseError.TheVariants.{OutOfMemory}
use Rattle.stun_grammar.specs.declared.error.ValidateError.{ValidateError}
use Rattle.stun_grammar.specs.declared.error.ValidateError.TheVariants.{Parse, IntegrityFailed}
use Rattle.stun_grammar.specs.declared.integrity_algorithm.IntegrityAlgorithm.{IntegrityAlgorithm}
use Rattle.stun_grammar.specs.Verdicts.{is_checked_type, verdict}
use Rattle.stun_keys.specs.declared.keys.credentials.MessageIntegrityCredentials.{MessageIntegrityCredentials}
use Rattle.stun_keys.specs.declared.keys.credentials.MessageIntegrityCredentials.TheVariants.{LongTerm}
use Rattle.stun_keys.specs.declared.keys.long_term_key.LongTermKeyCredentials.{LongTermKeyCredentials}
use Rattle.stun_keys.specs.Keys.{long_term_key, credentials_key}
use Rattle.stun_types_c.specs.declared.call_result.CResult.{CResult}
use Rattle.stun_types_c.specs.declared.validating.Validated.{Validated}
use Rattle.stun_types_c.specs.Validating.{TellsVerdict, Invalidates}
use Rattle.stun_types_c.specs.Credentials.{texts_refusal, IsLongTerm, WithTexts}

-- the test says which bytes are UTF-8
pub is_text : (bytes : List ℕ) → IsUtf8 bytes → is_utf8 bytes ≡ true
is_text bytes utf8 = is_utf8-from_IsUtf8 bytes utf8

pub is_no_text : (bytes : List ℕ) → ¬ (IsUtf8 bytes) → is_utf8 bytes ≡ false
is_no_text bytes none = go (is_utf8 bytes) refl
  where
    go : (test : Bool) → is_utf8 bytes ≡ test → is_utf8 bytes ≡ false
    go true is = absurd (none (IsUtf8-from_is_utf8 bytes is))
    go false is = is

-- if no text is refused, the first one isn't
first_is_text : (text : List ℕ) (others : List (List ℕ)) → texts_refusal (text ∷ others) ≡ None → is_utf8 text ≡ true
first_is_text text others none = go (is_utf8 text) refl
  where
    go : (test : Bool) → is_utf8 text ≡ test → is_utf8 text ≡ true
    go true is = is
    go false is = absurd (cc (none, is))

-- an allocation failed, or none did
memory_or_not : (r : Result IntegrityAlgorithm ValidateError) → (r ≡ Err (Parse OutOfMemory)) ⊎ (r ≢ Err (Parse OutOfMemory))
memory_or_not (Ok a) = inr (λ e. cc)
memory_or_not (Err IntegrityFailed) = inr (λ e. cc)
memory_or_not (Err (Parse OutOfMemory)) = inl refl
memory_or_not (Err (Parse _)) = inr (λ e. cc)

-- a verdict with credentials of three texts
pub long_term_validates : (user realm password d : List ℕ) (long : LongTermKeyCredentials) (credentials : MessageIntegrityCredentials) (r : Result IntegrityAlgorithm ValidateError) (result : CResult) (new : Validated)
    → IsLongTerm user realm password long → credentials ≡ LongTerm long → (r ≢ Err (Parse OutOfMemory) → r ≡ verdict (is_checked_type None) (credentials_key credentials) d) → TellsVerdict d r result new
    → WithTexts user realm password (TellsVerdict d (verdict (is_checked_type None) (λ algorithm. long_term_key algorithm user realm password) d) result new) (λ answer. Invalidates answer result new)
long_term_validates user realm password d long credentials r result new made is verdict-is reported =
    elim (memory_or_not r) [
      | inl memory ↦ inr (first_is_text user (realm ∷ password ∷ []) made.texts, subst (λ (v : Result IntegrityAlgorithm ValidateError). TellsVerdict d v result new) memory reported)
      | inr other ↦ inl (rw made.texts (subst (λ (v : Result IntegrityAlgorithm ValidateError). TellsVerdict d v result new) (verdict-is other ∙ same_keys) reported))
    ]
  where
    same_keys : verdict (is_checked_type None) (credentials_key credentials) d ≡ verdict (is_checked_type None) (λ algorithm. long_term_key algorithm user realm password) d
    same_keys =
        ap (λ (given : MessageIntegrityCredentials). verdict (is_checked_type None) (credentials_key given) d) is
        ∙ (λ j. verdict (is_checked_type None) (λ algorithm. long_term_key algorithm (made.username_is j) (made.realm_is j) (made.password_is j)) d)
