-- Attributes of a user's own: one without a value, one that holds a flag, and one that holds an
-- address.
use Rattle.std.specs.Prelude.{ℕ, Bool, true, false, Option, Some, None, ◌==◌, if◌then◌else◌}

-- the numbers of their types
abbrev pub MARKER : ℕ
MARKER = 0x8855

abbrev pub QUIET : ℕ
QUIET = 0x8856

abbrev pub HOME : ℕ
HOME = 0x8857

-- a flag is 1 or 0, and no other number is one
abbrev pub flag_number : Bool → ℕ
flag_number true = 1
flag_number false = 0

abbrev pub flag_of : ℕ → Option Bool
flag_of n = if n == 0 then Some false else (if n == 1 then Some true else None)
