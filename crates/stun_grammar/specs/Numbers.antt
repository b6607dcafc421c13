-- Numbers in network byte order, the most significant byte first, and the padding to multiples of
-- four bytes (RFC 8489, sections 5 and 14).
use Rattle.std.specs.Prelude.{ℕ, ◌+◌, ◌*◌, ◌/◌, ◌<◌, List, fold}
use Rattle.std.specs.Int.{w16, w32, w64, to_be_bytes, bytes_high_first}
use Rattle.std.specs.List.{AllByRecursion}

-- a number in two bytes
abbrev pub be16 : ℕ → List ℕ
be16 = to_be_bytes w16

-- a number in four bytes
abbrev pub be32 : ℕ → List ℕ
be32 = to_be_bytes w32

-- a number in eight bytes
abbrev pub be64 : ℕ → List ℕ
be64 = to_be_bytes w64

-- a number in twelve bytes
abbrev pub be96 : ℕ → List ℕ
be96 = bytes_high_first 12

-- the number that bytes encode
abbrev pub number : List ℕ → ℕ
number = fold (λ high byte. 256 * high + byte) 0

-- the least multiple of 4 that is at least n
abbrev pub padded_length : ℕ → ℕ
padded_length n = 4 * ((n + 3) / 4)

-- each number of the list is a byte
abbrev pub IsBytes : List ℕ → Type 0
IsBytes = AllByRecursion (λ byte. byte < 256)
