-- The end of a reply to a message that was accepted (RFC 8489, sections 7, 9.1.3 and 9.2.4).
use Rattle.std.specs.Prelude.{Bool, ◌&&◌, ◌∷◌, Option, None, MatchOption, ◌==◌, if◌then◌else◌}
use Rattle.stun_grammar.specs.declared.integrity_algorithm.IntegrityAlgorithm.{IntegrityAlgorithm}
use Rattle.stun_grammar.specs.Steps.{sign}
use Rattle.stun_keys.specs.declared.keys.integrity_key.IntegrityKey.{IntegrityKey}
use Rattle.stun_keys.specs.Keys.{key_bytes}
use Rattle.stun_authentication.specs.Writing.{print_steps}
use Rattle.stun_types_c.specs.declared.authentication.CAuthenticated.{CAuthenticated}
use Rattle.stun_types_c.specs.declared.call_result.CResult.{CResult}
use Rattle.stun_types_c.specs.CResults.{plain, Refuses}
use Rattle.stun_types_c.specs.Codes.{BAD_ARGUMENT, NO_KEY}
use Rattle.stun_types_c.specs.Keys.{algorithm_named}
use Rattle.stun_types_c.specs.Writing.{Written, serving_answer, TakesIn}

-- the algorithm that signs the reply, if C's numbers are those of an acceptance, whose spare word is 0
abbrev pub signing_named : CAuthenticated → Option IntegrityAlgorithm
signing_named reported =
    if (reported.kind == 1) && (reported.reserved == 0) then algorithm_named reported.reply_algorithm else None

-- the key that accepted: that by SHA-256 if the acceptance names it, otherwise the first
abbrev pub key_named : CAuthenticated → (first sha256 : Option IntegrityKey) → Option IntegrityKey
key_named reported first sha256 = if reported.password_algorithm == 2 then sha256 else first

-- the reply is signed, unless the key was made for the other algorithm, and gets a FINGERPRINT, if one
-- is wanted
abbrev pub FinishesReply : CAuthenticated → (first sha256 : Option IntegrityKey) → (fingerprint : Bool)
    → CResult → Written
    → Written → Type 0
FinishesReply reported first sha256 fingerprint result old new =
    MatchOption (signing_named reported)
    (Refuses (plain BAD_ARGUMENT) result old new)
    (λ algorithm. MatchOption (key_named reported first sha256)
    (Refuses (plain NO_KEY) result old new)
    (λ key. MatchOption (serving_answer key algorithm)
    (TakesIn (sign algorithm (key_bytes key) ∷ print_steps fingerprint) result old new)
    (λ answer. Refuses answer result old new)))
