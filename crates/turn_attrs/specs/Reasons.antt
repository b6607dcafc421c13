-- The reasons of TURN's error codes.
use Rattle.std.specs.Prelude.{ℕ, List, [], ◌∷◌, Option, Some, None, codes, ◌==◌, if◌then◌else◌}
use Rattle.stun_grammar.specs.ScannedOrder.{has}
use Rattle.stun_attributes.specs.DefaultReasons.{default_reason}

-- the codes of RFC 8656, section 19, and of RFC 6062, section 6.3
abbrev pub with_default : List ℕ
with_default = 403 ∷ 437 ∷ 440 ∷ 441 ∷ 442 ∷ 443 ∷ 446 ∷ 447 ∷ 486 ∷ 508 ∷ []

-- and that of RFC 8016, section 3.4
abbrev pub reason_of : ℕ → Option (List ℕ)
reason_of code =
    if code == 405 then Some (codes "Mobility Forbidden") else (
    if has code with_default then Some (default_reason code) else None)
