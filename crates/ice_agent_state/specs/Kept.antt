-- What an agent keeps in less memory, as the values that it stands for.
use Rattle.std.specs.Prelude.{ℕ, Bool, false, List, map, filter}
use Rattle.stun_endpoints.specs.declared.endpoints.Endpoint.{Endpoint}
use Rattle.ice_agent_state.specs.declared.routing.Route.{Route}
use Rattle.ice_agent_state.specs.declared.status.Status.{Status}
use Rattle.ice_agent_state.specs.declared.status.Status.TheVariants.{Checking, Connected, Failed as HasFailed, Lost as IsLost}
use Rattle.ice_agent_state.specs.declared.discoveries.Found.{Found}
use Rattle.ice_agent_state.specs.declared.compact.Kind.{Kind}
use Rattle.ice_agent_state.specs.declared.compact.Kind.TheVariants.{Checking as KindChecking, Connected as KindConnected, Failed as KindFailed, Lost as KindLost}

-- an address of a local candidate; if it was found and isn't reported yet, with the base
pub record Kept : Type 0 where
  pub address : Endpoint
  pub base : ℕ
  pub is_found : Bool

abbrev pub found_of : Kept → Found
found_of k = record { base = k.base; address = k.address }

-- once it is reported
abbrev pub reported : Kept → Kept
reported k = record k { is_found = false }

abbrev pub is_found : Kept → Bool
is_found k = k.is_found

abbrev pub addresses_of : List Kept → List Endpoint
addresses_of ks = map {B = Endpoint} (λ (k : Kept). k.address) ks

abbrev pub founds_of : List Kept → List Found
founds_of ks = map {B = Found} found_of (filter is_found ks)

-- a status by its kind, and the route that it has if it is connected
abbrev pub status_with : Kind → Route → Status
status_with KindChecking route = Checking
status_with KindConnected route = Connected route
status_with KindFailed route = HasFailed
status_with KindLost route = IsLost
