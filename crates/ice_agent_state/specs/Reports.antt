-- What is reported of an agent: the difference between what it is and what was reported before.
use Rattle.std.specs.Prelude.{ℕ, Bool, true, false, not, ◌&&◌, ◌==◌, List, [], ◌∷◌, filter, find, take, drop, length, Option, None, Some, nat_lt, if◌then◌else◌}
use Rattle.std.specs.List.{list_any}
use Rattle.std.specs.Option.{option_map_or}
use Rattle.stun_endpoints.specs.declared.endpoints.Endpoint.{Endpoint}
use Rattle.stun_endpoints.specs.Endpoints.{is_endpoint}
use Rattle.ice_machine.specs.declared.roles.Role.{Role}
use Rattle.ice_machine.specs.Roles.{is_controlling}
use Rattle.ice_machine.specs.declared.candidates.Base.{Base}
use Rattle.ice_machine.specs.declared.pairs.Pair.{Pair}
use Rattle.ice_machine.specs.Agents.{State, is_lost}
use Rattle.ice_agent_state.specs.declared.settings.Settings.{Settings}
use Rattle.ice_agent_state.specs.declared.routing.Route.{Route}
use Rattle.ice_agent_state.specs.declared.status.Status.{Status}
use Rattle.ice_agent_state.specs.declared.status.Status.TheVariants.{Checking, Connected, Failed as HasFailed, Lost as IsLost}
use Rattle.ice_agent_state.specs.declared.turns.Reported.{Reported}
use Rattle.ice_agent_state.specs.declared.discoveries.Found.{Found}
use Rattle.ice_agent_state.specs.declared.changes.Change.{Change}
use Rattle.ice_agent_state.specs.declared.changes.Change.TheVariants.{Role as RoleIs, ConsentLost, Status as StatusIs, Selected, Discovered}
use Rattle.ice_agent_state.specs.Statuses.{route_of, status_of}

-- the role, the components' statuses, the newest first, and the routes of lost pairs that were reported;
-- the addresses of local candidates; those of them that were found and aren't reported yet, the newest first;
-- and how many of each are kept
pub record Reports : Type 0 where
  pub role : Role
  pub statuses : List Reported
  pub losses : List Route
  pub addresses : List Endpoint
  pub found : List Found
  pub most_statuses : ℕ
  pub most_losses : ℕ
  pub most_addresses : ℕ

abbrev pub is_role : Role → Role → Bool
is_role one other = if is_controlling one then is_controlling other else not (is_controlling other)

abbrev pub is_route : Route → Route → Bool
is_route one other = (one.base == other.base) && is_endpoint one.to other.to

abbrev pub is_status : Status → Status → Bool
is_status Checking Checking = true
is_status (Connected one) (Connected other) = is_route one other
is_status HasFailed HasFailed = true
is_status IsLost IsLost = true
is_status _ _ = false

-- ---- What was reported

abbrev pub is_of : (component : ℕ) → Reported → Bool
is_of component r = r.component == component

-- of a component of which nothing was, as if it were checking
abbrev pub reported : (component : ℕ) → List Reported → Status
reported component rs = option_map_or (λ (r : Reported). r.status) (find (is_of component) rs) Checking

-- ---- The changes

abbrev pub is_new_loss : List Route → Pair → Bool
is_new_loss losses p = is_lost p.state && not (list_any (is_route (route_of p)) losses)

abbrev pub is_new_status : List Reported → State → Base → Bool
is_new_status rs state b =
    not (is_status (reported b.component rs) (status_of b.component state))

-- another selected pair of a component that was connected before, or another status
abbrev pub turn : (component : ℕ) → (before after : Status) → Change
turn component (Connected one) (Connected other) = Selected component other
turn component before after = StatusIs component after

abbrev pub role_change : Reports → State → Option Change
role_change r state = if is_role r.role state.role then None else Some (RoleIs state.role)

abbrev pub loss_of : Option Pair → Option Change
loss_of None = None
loss_of (Some p) = Some (ConsentLost p.component (route_of p))

abbrev pub loss_change : Reports → State → Option Change
loss_change r state = loss_of (find (is_new_loss r.losses) state.pairs)

abbrev pub turn_of : List Reported → State → Option Base → Option Change
turn_of rs state None = None
turn_of rs state (Some b) =
    Some (turn b.component (reported b.component rs) (status_of b.component state))

abbrev pub status_change : Reports → State → Option Change
status_change r state = turn_of r.statuses state (find (is_new_status r.statuses state) state.bases)

abbrev pub found_change : List Found → Option Change
found_change [] = None
found_change (x ∷ xs) = Some (Discovered x.base x.address)

abbrev pub or_else : Option Change → Option Change → Option Change
or_else None other = other
or_else (Some c) other = Some c

-- the first of them
abbrev pub next_change : Reports → State → Option Change
next_change r state =
    or_else (role_change r state) (or_else (loss_change r state)
    (or_else (status_change r state) (found_change r.found)))

-- ---- What is reported then

abbrev pub with_status : (component : ℕ) → Status → Reports → Reports
with_status component status r = record r {
  statuses = take r.most_statuses (record { component = component; status = status }
      ∷ filter (λ x. not (is_of component x)) r.statuses);
}

abbrev pub with_loss : Route → Reports → Reports
with_loss route r = record r { losses = take r.most_losses (route ∷ r.losses) }

abbrev pub marked : Change → Reports → Reports
marked (RoleIs role) r = record r { role = role }
marked (ConsentLost component route) r = with_loss route r
marked (StatusIs component status) r = with_status component status r
marked (Selected component route) r = with_status component (Connected route) r
marked (Discovered base address) r = record r { found = drop 1 r.found }

abbrev pub marked_by : Option Change → Reports → Reports
marked_by None r = r
marked_by (Some c) r = marked c r

-- ---- Addresses of local candidates

abbrev pub is_kept : Endpoint → Reports → Bool
is_kept address r = list_any (is_endpoint address) r.addresses

abbrev pub has_place : Reports → Bool
has_place r = nat_lt (length r.addresses) r.most_addresses

abbrev pub with_address : Endpoint → Reports → Reports
with_address address r =
    if has_place r && not (is_kept address r) then record r { addresses = address ∷ r.addresses }
    else r

-- a peer-reflexive candidate (RFC 8445, section 7.2.5.3.1)
abbrev pub with_mapped : (base : ℕ) → Endpoint → Reports → Reports
with_mapped base address r =
    if has_place r && not (is_kept address r)
    then record r {
      addresses = address ∷ r.addresses;
      found = record { base = base; address = address } ∷ r.found;
    }
    else r

-- ---- At first

abbrev pub nothing_of : Settings → Role → Reports
nothing_of s role = record {
  role = role;
  statuses = [];
  losses = [];
  addresses = [];
  found = [];
  most_statuses = s.most_candidates;
  most_losses = s.most_pairs;
  most_addresses = s.most_pairs;
}
