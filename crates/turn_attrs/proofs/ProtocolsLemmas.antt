-- The first byte of a message.
use Rattle.std.proofs.Common.{◌≡◌, ℕ, ◌≤◌, ◌<◌, List, [], ◌∷◌, get_or, arith}
use Rattle.std.specs.Prelude.{None}
use Rattle.stun_grammar.specs.Headers.{type_field}
use Rattle.stun_grammar.specs.Numbers.{IsBytes}
use Rattle.stun_grammar.specs.Parsing.{parse_fault}
use Rattle.stun_grammar.proofs.HeadersLemmas.{header_there, first_low}
use Rattle.stun_grammar.proofs.ParsingLemmas.{parsed_header}
use Rattle.stun_base.specs.MessageTypes.{method_of}

pub not_stun : (bytes : List ℕ) → 64 ≤ get_or bytes 0 0 → parse_fault bytes ≡ None → ⊥
not_stun bytes high parses = omega (arith, high, first_low bytes (parsed_header bytes parses))

pub high_method : (bytes : List ℕ) → IsBytes bytes → parse_fault bytes ≡ None → 4 ≤ get_or bytes 0 0
    → 0xFF < method_of (type_field bytes)
high_method [] is parses low = absurd (omega (arith, low))
high_method (x ∷ []) is parses low =
    absurd (omega (arith, (header_there (x ∷ []) (parsed_header (x ∷ []) parses)).0))
high_method (x ∷ (y ∷ rest)) is parses low =
    let below = first_low (x ∷ (y ∷ rest)) (parsed_header (x ∷ (y ∷ rest)) parses) in
    omega (arith, below, low, is.0, is.1.0)
