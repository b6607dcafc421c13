-- Lite ICE agents in the hands of C.
use Rattle.std.specs.Prelude.{Option}
use Rattle.stun_types_c.specs.declared.ice_lite_core.IceLiteCore.{IceLiteCore}
use Rattle.stun_types_c.specs.declared.ice_lite_handle.CIceLite.{CIceLite}

-- the agent that a handle holds
abbrev pub held_lite : CIceLite → Option IceLiteCore
held_lite handle = handle.place.value
