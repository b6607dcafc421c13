-- Texts in printable ASCII: a byte that is none is escaped.
use Rattle.std.specs.Prelude.{◌≡◌, ℕ, Bool, not, ◌&&◌, ◌==◌, List, [], ◌∷◌, nat_le, nat_lt, if◌then◌else◌}
use Rattle.std.specs.List.{flat_map}
use Rattle.stun_grammar.specs.Names.{hex_byte}
use Rattle.stun_text.specs.Slices.{SliceWrote}
use Rattle.stun_plain_text.specs.declared.escaping.Escaper.{Escaper}

-- whether a byte stands for itself: the printable ones of ASCII do, but for the backslash
abbrev pub is_plain : ℕ → Bool
is_plain byte = nat_le 0x20 byte && (nat_lt byte 0x7F && not (byte == 0x5C))

-- a byte: itself, or a backslash, x and two hexadecimal digits
abbrev pub escaped_byte : ℕ → List ℕ
escaped_byte byte = if is_plain byte then byte ∷ [] else 0x5C ∷ 0x78 ∷ hex_byte byte

-- bytes, one after the other: control characters, and each character beyond ASCII
abbrev pub escaped : List ℕ → List ℕ
escaped = flat_map escaped_byte

-- a text was written so to the slice of an escaper
pub record EscapedWrote (s : Escaper) (text : List ℕ) (t : Escaper) : Type 0 where
  pub wrote : SliceWrote s.slice.now (escaped text) t.slice.now
  pub same : t.slice.ghost_name ≡ s.slice.ghost_name
