-- Which lines describe a candidate (RFC 8839, section 5.1): candidate-attribute, with its quoted words in
-- any case, its numbers with leading zeros or without, and its addresses in any of their forms.
use Rattle.std.specs.Prelude.{◌≡◌, ℕ, ◌⊎◌, List, [], ◌∷◌, ◌++◌, codes, Option, Some, None, IsTrue}
use Rattle.std.specs.List.{list_all, AllByRecursion}
use Rattle.ice_candidates.specs.Chars.{is_visible}
use Rattle.ice_candidates.specs.Candidates.{Place, Fields}
use Rattle.ice_candidates.specs.Words.{words}
use Rattle.ice_candidates.specs.Fields.{is_word, foundation_of, component_of, protocol_of, priority_of, place_of, port_of, kind_of, is_extension_name}

-- [SP rel-addr], as words
abbrev pub IsRelatedAddress : List (List ℕ) → Option Place → Type 0
IsRelatedAddress ws None = ws ≡ []
IsRelatedAddress ws (Some address) =
    (quoted word : List ℕ) × (ws ≡ quoted ∷ word ∷ []) × IsTrue (is_word (codes "raddr") quoted)
    × (place_of word ≡ Some address)

-- [SP rel-port], as words
abbrev pub IsRelatedPort : List (List ℕ) → Option ℕ → Type 0
IsRelatedPort ws None = ws ≡ []
IsRelatedPort ws (Some port) =
    (quoted word : List ℕ) × (ws ≡ quoted ∷ word ∷ []) × IsTrue (is_word (codes "rport") quoted)
    × (port_of word ≡ Some port)

-- cand-extension
pub record IsExtension (extension : List ℕ × List ℕ) : Type 0 where
  pub name : IsTrue (is_extension_name extension.0)
  pub value : IsTrue (list_all is_visible extension.1)

abbrev pub extension_words : List (List ℕ × List ℕ) → List (List ℕ)
extension_words [] = []
extension_words (extension ∷ others) = extension.0 ∷ extension.1 ∷ extension_words others

-- the words of a candidate, after the colon
pub record IsSpelled (ws : List (List ℕ)) (c : Fields) : Type 0 where
  pub foundation : List ℕ
  pub component : List ℕ
  pub protocol : List ℕ
  pub priority : List ℕ
  pub address : List ℕ
  pub port : List ℕ
  pub typ : List ℕ
  pub kind : List ℕ
  pub related_address : List (List ℕ)
  pub related_port : List (List ℕ)
  pub spelled : ws ≡ foundation ∷ component ∷ protocol ∷ priority ∷ address ∷ port ∷ typ ∷ kind
      ∷ related_address ++ (related_port ++ extension_words c.extensions)
  pub foundation_is : foundation_of foundation ≡ Some c.foundation
  pub component_is : component_of component ≡ Some c.component
  pub protocol_is : protocol_of protocol ≡ Some c.protocol
  pub priority_is : priority_of priority ≡ Some c.priority
  pub address_is : place_of address ≡ Some c.address
  pub port_is : port_of port ≡ Some c.port
  pub typ_is : IsTrue (is_word (codes "typ") typ)
  pub kind_is : kind_of kind ≡ Some c.kind
  pub related_address_is : IsRelatedAddress related_address c.related_address
  pub related_port_is : IsRelatedPort related_port c.related_port
  pub extensions_are : AllByRecursion IsExtension c.extensions

-- a line of this candidate: `a=` or nothing, the name of the attribute, a colon and the value
pub record IsLine (line : List ℕ) (c : Fields) : Type 0 where
  pub type : List ℕ
  pub name : List ℕ
  pub value : List ℕ
  pub parts : line ≡ type ++ (name ++ 0x3A ∷ value)
  pub type_is : (type ≡ []) ⊎ (type ≡ codes "a=")
  pub name_is : IsTrue (is_word (codes "candidate") name)
  pub value_is : IsSpelled (words value) c
