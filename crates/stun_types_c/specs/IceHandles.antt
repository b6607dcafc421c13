-- ICE agents in the hands of C.
use Rattle.std.specs.Prelude.{Option}
use Rattle.stun_types_c.specs.declared.ice_core.IceCore.{IceCore}
use Rattle.stun_types_c.specs.declared.ice_handle.CIce.{CIce}

-- the agent that a handle holds
abbrev pub held_agent : CIce → Option IceCore
held_agent handle = handle.place.value
