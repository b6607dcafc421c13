-- What the naming of a peer returns.
use Rattle.std.specs.Prelude.{ℕ, Bool, List, Result, Ok, Err, ◌==◌, if◌then◌else◌}
use Rattle.stun_endpoints.specs.declared.endpoints.Endpoint.{Endpoint}
use Rattle.turn_client_machine.specs.Clients.{Setup}
use Rattle.turn_client_machine.specs.declared.peers.Peer.{Peer}
use Rattle.turn_client_machine.specs.Steps.{has_room}
use Rattle.turn_client_state.specs.declared.naming.NameError.{NameError}
use Rattle.turn_client_state.specs.declared.naming.NameError.TheVariants.{Full, OtherFamily}

-- of a new one: there is room, and the allocation is of its family
abbrev pub named_anew : Setup → (clock : ℕ) → Endpoint → List Peer → Result (Unit {0}) NameError
named_anew setup clock address peers =
    if address.ip.family == setup.family
    then (if has_room setup clock peers then Ok tt else Err Full) else Err OtherFamily

-- of any, by whether it is known
abbrev pub named : Setup → (clock : ℕ) → (known : Bool) → Endpoint → List Peer
    → Result (Unit {0}) NameError
named setup clock known address peers =
    if known then Ok tt else named_anew setup clock address peers
