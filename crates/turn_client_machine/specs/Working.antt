-- What is due.
use Rattle.std.specs.Prelude.{ℕ, ◌+◌, ◌&&◌, if◌then◌else◌}
use Rattle.turn_client_machine.specs.Clients.{State, is_allocated, is_active}
use Rattle.turn_client_machine.specs.Tasks.{is_due}
use Rattle.turn_client_machine.specs.Steps.{counted, is_due_of}

-- the number of tasks that are due: the allocation's, and once it is allocated each peer's
abbrev pub dues : State → ℕ
dues state =
    (if is_active state.phase && is_due state.clock state.task then 1 else 0)
    + (if is_allocated state.phase then counted (is_due_of state.clock) state.peers else 0)
