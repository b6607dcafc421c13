-- The words of a line: what is between single spaces. Two spaces have an empty word between them.
use Rattle.std.specs.Prelude.{ℕ, List, [], ◌∷◌, ◌==◌, Option, Some, None, length}
use Rattle.std.specs.List.{slice_split, join_with_byte}
use Rattle.std.specs.Borrow.{Bor}

abbrev pub words : List ℕ → List (List ℕ)
words text = slice_split (λ c. c == 0x20) text

-- the words that are left of a line: none after its end
abbrev pub words_of : Option (Bor (List ℕ)) → List (List ℕ)
words_of None = []
words_of (Some text) = words text.now

-- the next word, which is empty at the end of a line
abbrev pub first_word : List (List ℕ) → List ℕ
first_word [] = []
first_word (word ∷ others) = word

abbrev pub other_words : List (List ℕ) → List (List ℕ)
other_words [] = []
other_words (word ∷ others) = others

-- how many bytes words have with the spaces between them
abbrev pub size_of : List (List ℕ) → ℕ
size_of ws = length (join_with_byte 0x20 ws)
