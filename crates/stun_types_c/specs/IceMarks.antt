-- How a handle says that it holds an ICE agent.
use Rattle.std.specs.Prelude.{ℕ, Bool, ◌==◌}

-- the second word of a handle that holds an agent: the letters "stunices"
abbrev pub ice_mark : ℕ
ice_mark = 0x7374_756E_6963_6573

-- whether a second word says that a handle holds an agent
abbrev pub holds_ice : ℕ → Bool
holds_ice held = held == ice_mark
