-- The status of a component (RFC 8445, sections 6.1.2.1 and 8.1.2).
use Rattle.std.specs.Prelude.{ℕ, Bool, not, ◌&&◌, ◌||◌, ◌==◌, Option, None, Some, if◌then◌else◌}
use Rattle.std.specs.List.{list_any}
use Rattle.ice_machine.specs.declared.pairs.Pair.{Pair}
use Rattle.ice_machine.specs.Agents.{State, is_frozen, is_lost, is_succeeded}
use Rattle.ice_machine.specs.Checks.{is_under_way}
use Rattle.ice_machine.specs.Pairs.{selected}
use Rattle.ice_agent_state.specs.declared.routing.Route.{Route}
use Rattle.ice_agent_state.specs.declared.status.Status.{Status}
use Rattle.ice_agent_state.specs.declared.status.Status.TheVariants.{Checking, Connected, Failed as HasFailed, Lost as IsLost}

abbrev pub route_of : Pair → Route
route_of p = record { base = p.base; to = p.remote }

-- a nominated pair of the component whose consent has expired (RFC 7675, section 5.1)
abbrev pub is_forfeited : (component : ℕ) → Pair → Bool
is_forfeited component p = (p.component == component) && (p.nominated && is_lost p.state)

-- a pair of the component that is valid, or that may still succeed
abbrev pub may_be_selected : (component : ℕ) → Pair → Bool
may_be_selected component p = (p.component == component)
    && (is_frozen p.state || is_under_way p.state || is_succeeded p.state)

-- a component has failed if no pair may be selected, and no candidates follow
abbrev pub unselected : (component : ℕ) → State → Status
unselected component state =
    if list_any (is_forfeited component) state.pairs then IsLost else (
    if state.ended && not (list_any (may_be_selected component) state.pairs) then HasFailed else Checking)

abbrev pub status_by : Option Pair → Status → Status
status_by None otherwise = otherwise
status_by (Some p) otherwise = Connected (route_of p)

abbrev pub status_of : (component : ℕ) → State → Status
status_of component state = status_by (selected component state) (unselected component state)

-- ---- The route of a status

abbrev pub route_in : Status → Option Route
route_in Checking = None
route_in (Connected route) = Some route
route_in HasFailed = None
route_in IsLost = None
