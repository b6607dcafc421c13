-- The attributes that follow one another in a message (RFC 8489, section 14).
use Rattle.std.specs.Prelude.{◌≡◌, ℕ, zero, suc, ◌+◌, List, [], ◌∷◌, ◌++◌, length, drop, slice_range, Option, Some, None, nat_lt, ◌==◌, if◌then◌else◌}
use Rattle.std.specs.List.{AllByRecursion}
use Rattle.std.specs.Option.{option_map_or}
use Rattle.stun_grammar.specs.declared.error.StunParseError.{StunParseError}
use Rattle.stun_grammar.specs.declared.error.StunParseError.TheVariants.{Truncated}
use Rattle.stun_grammar.specs.Numbers.{number, padded_length}
use Rattle.stun_grammar.specs.Attributes.{Attribute, IsAttribute, encoding, encodings}

-- b is the encodings of these attributes, then a rest that begins with the encoding of no attribute
pub record IsChain (b : List ℕ) (chain : List Attribute) (rest : List ℕ) : Type 0 where
  pub whole : b ≡ encodings chain ++ rest
  pub each : AllByRecursion IsAttribute chain
  pub ends : (a : Attribute) (more : List ℕ) → IsAttribute a → rest ≡ encoding a ++ more → ⊥

-- ---- The one chain of given bytes: chain and rest below, by the law one_chain

-- the length of the value that an attribute's header states
abbrev pub stated_length : List ℕ → ℕ
stated_length b = number (slice_range b 2 4)

-- the attribute with whose encoding b begins
unfoldable pub first_attribute : List ℕ → Option Attribute
first_attribute b =
    let n = stated_length b in
    if nat_lt (length b) 4 then None else (
    if nat_lt (length b) (4 + padded_length n) then None else
    Some (record {
      type = number (slice_range b 0 2);
      value = slice_range b 4 (4 + n);
      padding = slice_range b (4 + n) (4 + padded_length n);
    }))

-- the first attributes of b, at most as many as the number says
unfoldable pub chain_within : ℕ → List ℕ → List Attribute
chain_within zero b = []
chain_within (suc most) b =
    option_map_or (λ a. a ∷ chain_within most (drop (length (encoding a)) b)) (first_attribute b) []

-- the attributes of b: each begins where the one before ends
unfoldable pub chain : List ℕ → List Attribute
chain b = chain_within (length b) b

-- what follows the attributes of b
unfoldable pub rest : List ℕ → List ℕ
rest b = drop (length (encodings (chain b))) b

-- why no attribute begins at an offset, where r are the bytes from there on: its header, value or
-- padding is cut off; it is no fault that there are no more bytes
unfoldable pub fault : ℕ → List ℕ → Option StunParseError
fault offset r =
    let end = offset + length r in
    let n = stated_length r in
    if length r == 0 then None else (
    if nat_lt (length r) 4 then Some (Truncated (offset + 8) (end + 4)) else (
    if nat_lt (length r) (4 + n) then Some (Truncated (offset + 4 + n) end) else (
    if nat_lt (length r) (4 + padded_length n)
    then Some (Truncated (offset + 4 + padded_length n) end) else
    None)))

-- ---- Attributes at their offsets

-- an attribute as it is shown: the offset of its header, its type and its value
pub record Shown : Type 0 where
  pub offset : ℕ
  pub type : ℕ
  pub value : List ℕ

-- attributes that follow one another, the first at an offset
unfoldable pub placed : ℕ → List Attribute → List Shown
placed offset [] = []
placed offset (a ∷ attributes) =
    record { offset = offset; type = a.type; value = a.value }
    ∷ placed (offset + length (encoding a)) attributes
