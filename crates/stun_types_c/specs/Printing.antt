-- What printing a message answers.
use Rattle.std.specs.Prelude.{◌≡◌, ℕ, List, length, MatchOption, nat_le, if◌then◌else◌}
use Rattle.stun_grammar.specs.Parsing.{parse_fault}
use Rattle.stun_plain_text.specs.PlainMessages.{plain_text}
use Rattle.stun_text.specs.Slices.{laid_over, counted as count_of}
use Rattle.stun_types_c.specs.declared.call_result.CResult.{CResult}
use Rattle.stun_types_c.specs.Codes.{OK, TOO_SMALL}
use Rattle.stun_types_c.specs.CResults.{plain, counted, parse_result}

-- whether a text has room
abbrev pub room_answer : ℕ → ℕ → CResult
room_answer length room =
    if nat_le length room then plain OK else counted TOO_SMALL (count_of length) room

-- how many bytes of a text are written
abbrev pub written_of : ℕ → ℕ → ℕ
written_of length room = if nat_le length room then count_of length else room

-- the text in printable ASCII is laid over the slice, as far as it reaches; if the bytes are no
-- message, nothing is
abbrev pub Prints : List ℕ → CResult → List ℕ → List ℕ → ℕ → ℕ → Type 0
Prints d result old new written_before written =
    MatchOption (parse_fault d)
    ((result ≡ room_answer (length (plain_text d)) (length old))
    × (new ≡ laid_over (plain_text d) old)
    × (written ≡ written_of (length (plain_text d)) (length old)))
    (λ e. (result ≡ parse_result e) × (new ≡ old) × (written ≡ written_before))
