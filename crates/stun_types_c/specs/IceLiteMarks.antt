-- How a handle says that it holds a lite ICE agent.
use Rattle.std.specs.Prelude.{ℕ, Bool, ◌==◌}

-- the second word of a handle that holds an agent: the letters "stunlite"
abbrev pub lite_mark : ℕ
lite_mark = 0x7374_756E_6C69_7465

-- whether a second word says that a handle holds an agent
abbrev pub holds_lite : ℕ → Bool
holds_lite held = held == lite_mark
