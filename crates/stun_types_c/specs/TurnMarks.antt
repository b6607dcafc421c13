-- How a handle says that it holds a TURN server.
use Rattle.std.specs.Prelude.{ℕ, Bool, ◌==◌}

-- the second word of a handle that holds a server: the letters "stunturn"
abbrev pub turn_mark : ℕ
turn_mark = 0x7374_756E_7475_726E

-- whether a second word says that a handle holds a server
abbrev pub holds_turn : ℕ → Bool
holds_turn held = held == turn_mark
