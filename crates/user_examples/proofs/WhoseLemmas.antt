-- A message that validates has an origin.
use Rattle.std.proofs.Common.{◌≡◌, ℕ, ◌⊎◌, List, ◌∷◌, Option, Result, Ok, Err, sym, subst}
use Rattle.std.specs.Prelude.{IfOk}
use Rattle.std.specs.List.{AllByRecursion}
use Rattle.stun_grammar.specs.declared.error.ValidateError.{ValidateError}
use Rattle.stun_grammar.specs.declared.integrity_algorithm.IntegrityAlgorithm.{IntegrityAlgorithm}
use Rattle.stun_grammar.specs.Verdicts.{is_checked_type, verdict, Validates}
use Rattle.stun_grammar.specs.Authentic.{content_through}
use Rattle.stun_grammar.specs.Sending.{Sent, sent_encoding, IsEncodableSent}
use Rattle.stun_grammar.specs.Origin.{IsUnsigned, ComesFrom}
use Rattle.stun_grammar.specs.Accepting.{IsAuthenticThrough}
use Rattle.user_examples.specs.Whose.{HasOrigin}

-- what is authentic has an origin among messages that were sent
pub has_origin : (result : Result IntegrityAlgorithm ValidateError) (message : Sent) (made_for : Option IntegrityAlgorithm) (key d : List ℕ) → d ≡ sent_encoding message → IsEncodableSent message
    → result ≡ verdict (is_checked_type made_for) (λ _. key) d → IfOk result (IsAuthenticThrough made_for (λ _. key) d) → IfOk result (HasOrigin message made_for key)
has_origin (Ok a) message made_for key d is lawful answers authentic =
    let covers = authentic.covers.1 in
    subst
    (λ (x : List ℕ). (c : List ℕ) × Validates made_for (λ _. key) x c a × ((others : List Sent) → AllByRecursion IsEncodableSent others → IsUnsigned (message ∷ others) key a c ⊎ ComesFrom (message ∷ others) key a c (content_through (is_checked_type made_for) x)))
    is
    (authentic.covers.0, record { answers = sym answers; covers = covers }, λ others each. authentic.origin authentic.covers.0 (message ∷ others) covers (lawful, each))
has_origin (Err e) message made_for key d is lawful answers authentic = tt
