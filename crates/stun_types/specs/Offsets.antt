-- The offsets of the integrity attributes that are shown (RFC 8489, sections 14.5 and 14.6).
use Rattle.std.specs.Prelude.{◌≡◌, ◌≤◌, ℕ, Bool, List, [], ◌∷◌, ◌++◌, length, drop, find, reverse, Option, Some}
use Rattle.std.specs.Option.{option_map}
use Rattle.stun_grammar.specs.declared.integrity_algorithm.IntegrityAlgorithm.TheVariants.{Sha1, Sha256}
use Rattle.stun_grammar.specs.Attributes.{Attribute, types}
use Rattle.stun_grammar.specs.Chains.{Shown, first_attribute, placed}
use Rattle.stun_grammar.specs.ShownOrder.{in_order}
use Rattle.stun_grammar.specs.Showing.{shown, shown_prefix}
use Rattle.stun_grammar.specs.Verdicts.{is_checked_type, last_shown}
use Rattle.stun_types.specs.declared.reading.offsets.IntegrityOffsets.{IntegrityOffsets}

-- the offset of the last attribute of a wanted type among these
abbrev pub offset_among : (ℕ → Bool) → List Shown → Option ℕ
offset_among wanted attributes =
    option_map (λ x. x.offset) (find (λ a. wanted a.type) (reverse attributes))

-- the offsets of the two integrity attributes among these, each only if it is one of them
pub record AreOffsets (offsets : IntegrityOffsets) (attributes : List Shown) : Type 0 where
  pub integrity : offsets.integrity ≡ offset_among (is_checked_type (Some Sha1)) attributes
  pub sha256 : offsets.sha256 ≡ offset_among (is_checked_type (Some Sha256)) attributes

-- the offsets of the two integrity attributes of d, each only if d shows that attribute
abbrev pub OffsetsOf : IntegrityOffsets → List ℕ → Type 0
OffsetsOf offsets d = AreOffsets offsets (shown d)

-- the last attribute of a wanted type that d shows has this type and this offset, and is the first
-- one that is read from there on
pub record IsIntegrityAt (wanted : ℕ → Bool) (d : List ℕ) (type offset : ℕ) : Type 0 where
  pub attribute : Attribute
  pub type_is : type ≡ attribute.type
  pub within : offset ≤ length d
  pub first_is : first_attribute (drop offset d) ≡ Some attribute
  pub last_is : last_shown wanted d
      ≡ Some (record { offset = offset; type = attribute.type; value = attribute.value })

-- a scan has taken these attributes, and the offsets are those of the integrity attributes among
-- them that are shown; one more attribute is shown exactly if its type follows `last`
pub record HasScanned (offsets : IntegrityOffsets) (last : ℕ) (taken : List Attribute) : Type 0 where
  pub are : AreOffsets offsets (placed 20 (shown_prefix taken))
  pub next : (type : ℕ)
      → in_order (types taken ++ type ∷ []) ≡ in_order (last ∷ (type ∷ []))
