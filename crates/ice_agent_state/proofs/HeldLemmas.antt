-- The state that the fields of an agent show.
use Rattle.std.proofs.Common.{◌≡◌}
use Rattle.ice_agent_state.specs.Agents.{Held}

-- the left one of two equal states, as the proof of a function spells it
abbrev pub spelled : {left right : Held} → left ≡ right → Held
spelled {left} same = left
