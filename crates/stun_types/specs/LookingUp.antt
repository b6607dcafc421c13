-- Looking up an attribute by its type among those that a message shows.
use Rattle.std.specs.Prelude.{◌≡◌, ℕ, List, Option, None, Result, Ok, Err, ◌==◌, slice_get, filter, MatchOption, MatchResult, IsSomeAnd}
use Rattle.stun_grammar.specs.declared.attribute_type.AttributeType.{AttributeType}
use Rattle.stun_grammar.specs.declared.error.StunParseError.{StunParseError}
use Rattle.stun_grammar.specs.declared.error.StunParseError.TheVariants.{MissingAttribute}
use Rattle.stun_grammar.specs.Chains.{Shown}
use Rattle.stun_grammar.specs.Showing.{shown}
use Rattle.stun_attributes.specs.Raw.{Borrows}
use Rattle.stun_attributes.specs.declared.wire.raw.RawAttribute.{RawAttribute}

-- the attribute at place n, counted from 0, of the attributes shown of d that have this type
abbrev pub nth : List ℕ → ℕ → ℕ → Option Shown
nth d type n = slice_get (filter (λ a. a.type == type) (shown d)) n

-- the item is this attribute at its offset, with a borrowed value; or there is neither
abbrev pub IsFound : Option Shown → Option (ℕ × RawAttribute) → Type 0
IsFound attribute item =
    MatchOption attribute (item ≡ None)
    (λ a. IsSomeAnd item (λ found. (found.0 ≡ a.offset) × Borrows a.type a.value found.1))

-- the same without the offset
abbrev pub IsRawFound : Option Shown → Option RawAttribute → Type 0
IsRawFound attribute raw =
    MatchOption attribute (raw ≡ None) (λ a. IsSomeAnd raw (Borrows a.type a.value))

-- the result is one that reading this attribute may return, or `MissingAttribute` of the type if
-- there is none
abbrev pub IsRead : {A : Type 0} → AttributeType → (ℕ → List ℕ → Result A StunParseError → Type 0)
    → Option Shown → Result A StunParseError → Type 0
IsRead type Reads attribute result =
    MatchOption attribute (result ≡ Err (MissingAttribute type)) (λ a. Reads a.type a.value result)

-- the same, with an Ok that has the offset of the attribute's header beside what was read
abbrev pub IsReadAt : {A : Type 0} → AttributeType
    → (ℕ → List ℕ → Result A StunParseError → Type 0)
    → Option Shown → Result (ℕ × A) StunParseError → Type 0
IsReadAt type Reads attribute result =
    MatchOption attribute (result ≡ Err (MissingAttribute type))
    (λ a. MatchResult result
    (λ found. (found.0 ≡ a.offset) × Reads a.type a.value (Ok found.1))
    (λ e. Reads a.type a.value (Err e)))
