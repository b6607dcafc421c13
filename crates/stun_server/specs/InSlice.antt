-- What becomes of a slice into which a reply is to be written.
use Rattle.std.specs.Prelude.{ℕ, List, ◌++◌, length, drop, nat_lt, Option, None, Some, Result, Ok, Err, if◌then◌else◌}
use Rattle.stun_grammar.specs.declared.error.StunWriteError.{StunWriteError}
use Rattle.stun_grammar.specs.declared.error.StunWriteError.TheVariants.{TooSmall}

-- the slice with the text at its start
abbrev pub overlaid : (text slice : List ℕ) → List ℕ
overlaid text slice = text ++ drop (length text) slice

-- what is returned for a text that is written at the start of a slice of this length
abbrev pub written_in : (text : List ℕ) → (room : ℕ) → Result ℕ StunWriteError
written_in text room =
    if nat_lt room (length text) then Err (TooSmall (length text) room) else Ok (length text)

-- what is returned for the reply that is owed, if one is, and the length of the slice
abbrev pub answer_in : Option (List ℕ) → (room : ℕ) → Result (Option ℕ) StunWriteError
answer_in None room = Ok None
answer_in (Some text) room =
    if nat_lt room (length text) then Err (TooSmall (length text) room)
    else Ok (Some (length text))

-- the slice afterwards: a reply that it has no room for leaves it as it was
abbrev pub slice_after : Option (List ℕ) → (slice : List ℕ) → List ℕ
slice_after None slice = slice
slice_after (Some text) slice =
    if nat_lt (length slice) (length text) then slice else overlaid text slice
