-- Who sent a message that validates (RFC 8489, sections 14.5 and 14.6).
use Rattle.std.specs.Prelude.{ℕ, ◌⊎◌, List, ◌∷◌, Option}
use Rattle.std.specs.List.{AllByRecursion}
use Rattle.stun_grammar.specs.declared.integrity_algorithm.IntegrityAlgorithm.{IntegrityAlgorithm}
use Rattle.stun_grammar.specs.Verdicts.{is_checked_type, Validates}
use Rattle.stun_grammar.specs.Authentic.{content_through}
use Rattle.stun_grammar.specs.Sending.{Sent, sent_encoding, IsEncodableSent}
use Rattle.stun_grammar.specs.Origin.{IsUnsigned, ComesFrom}

-- the encoding of a message that was sent validates with a key, and some bytes are covered.
-- Whatever others were sent with it: either nobody signed those bytes, or the content, through the
-- attribute that was checked, is that of one of these messages
abbrev pub HasOrigin : Sent → Option IntegrityAlgorithm → List ℕ → IntegrityAlgorithm → Type 0
HasOrigin message made_for key algorithm =
    let d = sent_encoding message in
    (c : List ℕ) × Validates made_for (λ _. key) d c algorithm
    × ((others : List Sent) → AllByRecursion IsEncodableSent others
    → IsUnsigned (message ∷ others) key algorithm c
    ⊎ ComesFrom (message ∷ others) key algorithm c (content_through (is_checked_type made_for) d))
