-- TURN clients in the hands of C.
use Rattle.std.specs.Prelude.{Option}
use Rattle.stun_types_c.specs.declared.allocation_core.AllocationCore.{AllocationCore}
use Rattle.stun_types_c.specs.declared.allocation_handle.CAllocation.{CAllocation}

-- the client that a handle holds
abbrev pub held_client : CAllocation → Option AllocationCore
held_client handle = handle.place.value
