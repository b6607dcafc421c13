-- What a TURN server of C is made of, and what it does with it.
use Rattle.std.specs.Prelude.{Bool, ◌&&◌, not}
use Rattle.stun_endpoints.specs.declared.endpoints.Ip.{Ip}
use Rattle.stun_endpoints.specs.declared.endpoints.Endpoint.{Endpoint}
use Rattle.stun_endpoints.specs.Conversions.{is_address}
use Rattle.turn_machine.specs.Relays.{Setup, Rules}
use Rattle.turn_allocations.specs.Setups.{setup_of, rules_of}
use Rattle.turn_peers.specs.Peers.{allows_address, allows_port_of, is_listening}
use Rattle.stun_types_c.specs.declared.turn_core.PeerRules.{PeerRules}
use Rattle.stun_types_c.specs.declared.turn_core.TurnCore.{TurnCore}

-- which peers the clients may reach: by the longest prefix, and not the server itself
abbrev pub allows_peer : PeerRules → Ip → Bool
allows_peer rules ip =
    is_address ip && allows_address rules.denied.items rules.allowed.items ip

abbrev pub allows_port : PeerRules → Endpoint → Bool
allows_port rules peer =
    is_address peer.ip
    && (not (is_listening rules.listening.items peer)
    && allows_port_of rules.denied.items rules.allowed.items peer)

-- the setting of its machine: 16 permissions and 16 channels of each relayed address
abbrev pub setup_in : TurnCore → Setup
setup_in core = setup_of core.server.limits 16 16

-- the rules in force
abbrev pub rules_in : TurnCore → Rules
rules_in core = rules_of (allows_peer core.rules) (allows_port core.rules)
