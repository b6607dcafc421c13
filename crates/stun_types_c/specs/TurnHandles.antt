-- TURN servers in the hands of C.
use Rattle.std.specs.Prelude.{Option}
use Rattle.stun_types_c.specs.declared.turn_core.TurnCore.{TurnCore}
use Rattle.stun_types_c.specs.declared.turn_handle.CTurn.{CTurn}

-- the server that a handle holds
abbrev pub held_turn : CTurn → Option TurnCore
held_turn handle = handle.place.value
