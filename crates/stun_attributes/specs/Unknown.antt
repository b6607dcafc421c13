-- The types in an UNKNOWN-ATTRIBUTES.
use Rattle.std.specs.Prelude.{◌≡◌, ℕ, List, Result}
use Rattle.stun_grammar.specs.declared.error.StunParseError.{StunParseError}
use Rattle.stun_attributes.specs.Reading.{ReadsInMemory}
use Rattle.stun_values.specs.TypeLists.{types_encoding, types_fault}
use Rattle.stun_grammar.specs.declared.attribute_type.AttributeType.{AttributeType}
use Rattle.stun_attributes.specs.declared.unknown_attributes.UnknownAttributes.{UnknownAttributes}

abbrev pub listed : UnknownAttributes → List AttributeType
listed attribute = attribute.types.items

-- what reading the value of an UNKNOWN-ATTRIBUTES answers
abbrev pub ReadsTypes : List ℕ → Result UnknownAttributes StunParseError → Type 0
ReadsTypes value =
    ReadsInMemory (types_fault value) (λ read. types_encoding (listed read) ≡ value)
