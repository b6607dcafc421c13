-- Attributes that a message shows, as C sees them (RFC 8489, section 14).
use Rattle.std.specs.Prelude.{◌≡◌, ◌≤◌, ℕ, ◌+◌, Bool, true, false, List, ◌∷◌, ◌++◌, length, map, take, drop, Option, ◌==◌, MatchOption, filter, slice_get}
use Rattle.stun_grammar.specs.Chains.{Shown}
use Rattle.stun_types.specs.Iterating.{shown_behind}
use Rattle.stun_types_c.specs.declared.attribute.ShownAttribute.{ShownAttribute}
use Rattle.stun_types_c.specs.declared.attribute.Place.{Place}

-- an attribute in C's form: the offset of its value, its type, and its length
abbrev pub in_c : Shown → ShownAttribute
in_c a = record { value_at = a.offset + 4; atype = a.type; length = length a.value }

-- the first of some attributes that has a type
abbrev pub first_of_type : ℕ → List Shown → Option Shown
first_of_type type attributes = slice_get (filter (λ a. a.type == type) attributes) 0

-- the first attribute that is left at a place of d, in C's form, and the place after it
pub record TakesFirst (at : Place) (found : ShownAttribute) (next : Place) (d : List ℕ) : Type 0 where
  pub within : next.offset ≤ length d
  pub farther : at.offset + 4 ≤ next.offset
  pub first : Shown
  pub shows : shown_behind at.last at.offset d ≡ first ∷ shown_behind next.last next.offset d
  pub is_first : found ≡ in_c first

-- a place of d after its header, from which on d shows these attributes
pub record IsPlaceOf (attributes : List Shown) (d : List ℕ) (at : Place) : Type 0 where
  pub behind : 20 ≤ at.offset
  pub within : at.offset ≤ length d
  pub shows : shown_behind at.last at.offset d ≡ attributes

-- attributes in C's form, laid over the first of C's, as many as there is room for
abbrev pub laid_over : List ShownAttribute → List ShownAttribute → List ShownAttribute
laid_over found places = take (length places) found ++ drop (length found) places

-- all attributes of a list are counted, and laid over C's
pub record Lists (all : List Shown) (count : ℕ) (old new : List ShownAttribute) : Type 0 where
  pub counted : count ≡ length all
  pub listed : new ≡ laid_over (map in_c all) old

-- an attribute is found, in C's form, or there is none and C's stays
abbrev pub Tells : Option Shown → Bool → ShownAttribute → ShownAttribute → Type 0
Tells found result old new =
    MatchOption found ((result ≡ false) × (new ≡ old))
    (λ a. (result ≡ true) × (new ≡ in_c a))
