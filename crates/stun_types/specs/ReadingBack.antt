-- What a writer holds, and that a message shows an attribute, so that it is read back.
use Rattle.std.specs.Prelude.{◌≡◌, ℕ, false, List, ◌∷◌, ◌++◌}
use Rattle.stun_grammar.specs.Attributes.{Attribute, canonical, types}
use Rattle.stun_grammar.specs.Chains.{placed}
use Rattle.stun_grammar.specs.ScannedOrder.{has}
use Rattle.stun_grammar.specs.Showing.{shown}
use Rattle.stun_grammar.specs.Writing.{message_encoding, IsWritable}
use Rattle.stun_types.specs.Writers.{Writer}

-- a writer holds a message of these attributes, which may be written
pub record Holds (w : Writer) (type id : ℕ) (attributes : List Attribute) : Type 0 where
  pub bytes : w.bytes ≡ message_encoding type id attributes
  pub types_are : w.types ≡ types attributes
  pub writable : IsWritable type id attributes

-- the first attribute of this type that d shows has this value
pub record ShowsFirst (type : ℕ) (value d : List ℕ) : Type 0 where
  pub before : List Attribute
  pub behind : List Attribute
  pub shows : shown d ≡ placed 20 (before ++ canonical type value ∷ behind)
  pub first : has type (types before) ≡ false
