-- An attribute of a user's own that holds a number of 16 bits.
use Rattle.std.specs.Prelude.{ℕ}

-- the number of its type
abbrev pub HOPS : ℕ
HOPS = 0x8854
