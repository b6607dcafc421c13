-- The Internet checksum (RFC 1071), which IPv4 and UDP have in their headers (RFC 791 and RFC 768).
use Rattle.std.specs.Prelude.{ℕ, ◌+◌, ◌-◌, ◌*◌, ◌%◌, List, [], ◌∷◌, Bool, ◌==◌, if◌then◌else◌}

-- the sum of the 16-bit words of some bytes; an odd byte at the end is the high byte of a word
abbrev pub words : List ℕ → ℕ
words [] = 0
words (a ∷ []) = a * 256
words (a ∷ b ∷ rest) = a * 256 + b + words rest

-- the one's complement sum of words that add up to n: each carry is added at the low end, so that 65,535 adds nothing,
-- but only words that are all zero add up to 0
abbrev pub ones_sum : ℕ → ℕ
ones_sum n = if n == 0 then 0 else 1 + (n - 1) % 65535

-- a checksum is right if the words that it covers, it included, add up to all ones
abbrev pub is_right : List ℕ → Bool
is_right bytes = ones_sum (words bytes) == 65535
