-- The text of an attribute (RFC 8839, section 5), and which attributes may be written.
use Rattle.std.specs.Prelude.{ℕ, ⊤, not, ◌&&◌, ◌==◌, List, ◌++◌, codes, length, IsTrue}
use Rattle.std.specs.List.{list_all, join_with_byte}
use Rattle.ice_candidates.specs.Chars.{is_ice_char, is_option, are}
use Rattle.ice_candidates.specs.Lines.{Attribute, candidate, username_fragment, password, options, lite, end_of_candidates}
use Rattle.ice_candidates.specs.Texts.{candidate_text, AreOfTypes, is_in_range}

abbrev pub attribute_text : Attribute → List ℕ
attribute_text (candidate c) = candidate_text c
attribute_text (username_fragment text) = codes "ice-ufrag:" ++ text
attribute_text (password text) = codes "ice-pwd:" ++ text
attribute_text (options ws) = codes "ice-options:" ++ join_with_byte 0x20 ws
attribute_text lite = codes "ice-lite"
attribute_text end_of_candidates = codes "end-of-candidates"

-- its fields are in their ranges
abbrev pub MayBeWritten : Attribute → Type 0
MayBeWritten (candidate c) = AreOfTypes c × IsTrue (is_in_range c)
MayBeWritten (username_fragment text) = IsTrue (are is_ice_char 4 256 text)
MayBeWritten (password text) = IsTrue (are is_ice_char 22 256 text)
MayBeWritten (options ws) = IsTrue (not (length ws == 0) && list_all is_option ws)
MayBeWritten lite = ⊤
MayBeWritten end_of_candidates = ⊤
