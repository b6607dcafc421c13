-- How a handle says that it holds a TURN client.
use Rattle.std.specs.Prelude.{ℕ, Bool, ◌==◌}

-- the second word of a handle that holds a client: the letters "stunallo"
abbrev pub allocation_mark : ℕ
allocation_mark = 0x7374_756E_616C_6C6F

-- whether a second word says that a handle holds a client
abbrev pub holds_allocation : ℕ → Bool
holds_allocation held = held == allocation_mark
