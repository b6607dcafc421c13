-- What is shown of a message (RFC 8489, sections 6.3 and 14).
use Rattle.std.specs.Prelude.{ℕ, ◌+◌, List, [], length, drop, Option, if◌then◌else◌, is_some}
use Rattle.std.specs.Option.{option_or}
use Rattle.stun_grammar.specs.declared.error.StunParseError.{StunParseError}
use Rattle.stun_grammar.specs.Attributes.{Attribute, types}
use Rattle.stun_grammar.specs.Chains.{Shown, chain, placed}
use Rattle.stun_grammar.specs.ShownOrder.{in_order}
use Rattle.stun_grammar.specs.Prefixes.{longest_prefix}
use Rattle.stun_grammar.specs.Headers.{header_fault, length_field}
use Rattle.stun_grammar.specs.Lengths.{exact_fault}

-- the one rule on the length of a message: as many bytes follow the header as it states
unfoldable pub length_fault : List ℕ → Option StunParseError
length_fault d = exact_fault (20 + length_field d) (length d)

-- why d is not a header followed by as many bytes as it states
unfoldable pub frame_fault : List ℕ → Option StunParseError
frame_fault d = option_or (header_fault d) (length_fault d)

-- the longest prefix of a chain in the order that is shown
abbrev pub shown_prefix : List Attribute → List Attribute
shown_prefix = longest_prefix (λ prefix. in_order (types prefix))

-- the attributes that are shown of d
unfoldable pub shown : List ℕ → List Shown
shown d = if is_some (frame_fault d) then [] else placed 20 (shown_prefix (chain (drop 20 d)))
