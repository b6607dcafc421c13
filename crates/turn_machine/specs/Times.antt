-- Time (RFC 8656, sections 6, 7.2 and 8.2).
use Rattle.std.specs.Prelude.{ℕ, ◌-◌, ◌/◌, not, List, [], ◌∷◌, map, filter, max, min, Option, None, Some, ◌==◌, if◌then◌else◌}
use Rattle.std.specs.Option.{option_map_or}
use Rattle.stun_endpoints.specs.declared.endpoints.FiveTuple.{FiveTuple}
use Rattle.turn_machine.specs.Relays.{seconds, Relay, State, is_live, is_of}

-- The state at a moment, without what has expired. A clock that goes back counts as stopped
abbrev pub at : ℕ → State → State
at now state = record state {
  clock = max state.clock now;
  relays = filter (is_live (max state.clock now)) state.relays;
}

abbrev pub numbers : List Relay → List ℕ
numbers = map (λ a. a.number)

-- the numbers of the sockets that expire by a moment
abbrev pub over_at : ℕ → State → List ℕ
over_at now state = numbers (filter (λ a. not (is_live (max state.clock now) a)) state.relays)

-- The lifetime in seconds that an Allocate request is granted (7.2), and a Refresh request (8.2):
-- the wanted one, but no more than the greatest and no less than the default of 600
abbrev pub granted_for : Option ℕ → ℕ → ℕ
granted_for None greatest = 600
granted_for (Some wanted) greatest = max 600 (min wanted greatest)

abbrev pub refreshed_for : Option ℕ → ℕ → ℕ
refreshed_for None greatest = 600
refreshed_for (Some wanted) greatest = if wanted == 0 then 0 else max 600 (min wanted greatest)

-- when the first of a client's relayed addresses ends, and the whole seconds until then
abbrev pub earlier_of : ℕ → Option ℕ → ℕ
earlier_of end None = end
earlier_of end (Some other) = min end other

abbrev pub first_end : FiveTuple → List Relay → Option ℕ
first_end tuple [] = None
first_end tuple (a ∷ all) =
    if is_of tuple a then Some (earlier_of a.expires_at (first_end tuple all)) else first_end tuple all

abbrev pub left_of : FiveTuple → State → ℕ
left_of tuple state =
    option_map_or (λ end. (end - state.clock) / seconds 1) (first_end tuple state.relays) 0
