-- Text in a slice: as much of it as the slice has room for, and how many bytes all of it has.
use Rattle.std.specs.Prelude.{◌≡◌, ℕ, ◌+◌, ◌-◌, ◌^◌, ◌<◌, List, ◌++◌, length, take, drop, min, nat_le, if◌then◌else◌, Result, Ok, Err}
use Rattle.std.specs.Borrow.{GName}
use Rattle.stun_text.specs.declared.slice.TextSlice.{TextSlice}
use Rattle.stun_text.specs.declared.slice.TextTooLong.{TextTooLong}

-- bytes with a text laid over their start, as far as they reach
abbrev pub laid_over : List ℕ → List ℕ → List ℕ
laid_over text bytes = take (length bytes) text ++ drop (length text) bytes

-- how many bytes a text has, as a number of 64 bits
abbrev pub counted : ℕ → ℕ
counted n = min n (2 ^ 64 - 1)

-- what writing a text answers: how many bytes it has, and whether they are more than the room
abbrev pub text_answer : ℕ → ℕ → Result ℕ TextTooLong
text_answer count room =
    if nat_le count room then Ok (counted count) else Err (record { length = counted count })

-- ---- Piece by piece

-- how many bytes the text has that was written so far, also those that did not fit
abbrev pub text_count : TextSlice → ℕ
text_count s = s.length

-- the bytes of the borrowed slice, and which slice it is
abbrev pub lent_bytes : TextSlice → List ℕ
lent_bytes s = s.to.now

abbrev pub lent_name : TextSlice → GName
lent_name s = s.to.ghost_name

-- the counts are numbers of 64 bits, as the Rust types guarantee
pub record IsCounted (s : TextSlice) : Type 0 where
  pub count : text_count s < 2 ^ 64
  pub room : length (lent_bytes s) < 2 ^ 64

-- a piece is counted, and laid after what was written before
pub record Gains (s : TextSlice) (text : List ℕ) (t : TextSlice) : Type 0 where
  pub count : text_count t ≡ counted (text_count s + length text)
  pub bytes : lent_bytes t
      ≡ take (text_count s) (lent_bytes s) ++ laid_over text (drop (text_count s) (lent_bytes s))
  pub same : lent_name t ≡ lent_name s

abbrev pub SliceWrote : TextSlice → List ℕ → TextSlice → Type 0
SliceWrote s text t = IsCounted s → Gains s text t
