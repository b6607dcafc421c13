-- A restart (RFC 8445, section 9): the agent of the latest restart, and the one before it, while data still goes by its
-- pairs.
use Rattle.std.specs.Prelude.{◌≡◌, ℕ, Bool, ◌||◌, not, List, Option, None, Some, is_some}
use Rattle.std.specs.List.{list_all}
use Rattle.ice_machine.specs.declared.candidates.Base.{Base}
use Rattle.ice_machine.specs.Pairs.{selected}
use Rattle.ice_machine.specs.Events.{Output, asks, answers, data_to, data_from, nothing, sends}
use Rattle.ice_agent_state.specs.declared.routing.Route.{Route}
use Rattle.ice_agent_state.specs.Agents.{Held, output_at}
use Rattle.ice_agent_state.specs.Waking.{IsNextWake, sooner}

-- a restart is over once the newer one has a selected pair of each component of which the older one has one
abbrev pub is_replaced_in : (newer older : Held) → Base → Bool
is_replaced_in newer older b = not (is_some (selected b.component older.state))
    || is_some (selected b.component newer.state)

abbrev pub is_replaced : (newer older : Held) → Bool
is_replaced newer older = list_all (is_replaced_in newer older) older.state.bases

-- data goes by the newer one's route, or else by the older one's
abbrev pub route_by : (newer older : Option Route) → Option Route
route_by None older = older
route_by (Some route) older = Some route

abbrev pub data_or : (newer older : Output) → Output
data_or (data_to base to bytes) older = data_to base to bytes
data_or (asks r) older = older
data_or (answers base to id answer) older = older
data_or (data_from component bytes) older = older
data_or nothing older = older

abbrev pub older_data : (now component : ℕ) → List ℕ → Option Held → Output
older_data now component bytes None = nothing
older_data now component bytes (Some older) = output_at now 0 (sends component bytes) older

-- the next moment at which a poll of either does something
abbrev pub IsSessionWake : Held → Option Held → Option ℕ → Type 0
IsSessionWake newer None wake = IsNextWake newer wake
IsSessionWake newer (Some older) wake = (one : Option ℕ) × (other : Option ℕ)
    × IsNextWake newer one × IsNextWake older other × (wake ≡ sooner one other)
