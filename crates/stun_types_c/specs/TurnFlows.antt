-- The flow on a channel of a client of a TURN server, as C sees it.
use Rattle.std.specs.Prelude.{◌≡◌, ℕ, Bool, true, false, Option, None, Some, MatchOption}
use Rattle.stun_endpoints.specs.Conversions.{socket_of}
use Rattle.turn_machine.specs.Flows.{Flow, flow_of}
use Rattle.stun_types_c.specs.declared.turn_addresses.CFiveTuple.{CFiveTuple}
use Rattle.stun_types_c.specs.declared.turn_core.TurnCore.{TurnCore}
use Rattle.stun_types_c.specs.declared.turn_flows.CFlow.{CFlow}
use Rattle.stun_types_c.specs.Addresses.{Holds}
use Rattle.stun_types_c.specs.TurnAddresses.{nowhere, tuple_named}
use Rattle.stun_types_c.specs.TurnEnding.{Looks, shown_due}

abbrev pub no_flow : CFlow
no_flow = record { relay = 0; expires_at = 0; peer = nowhere }

-- C's form holds a flow
pub record HoldsFlow (flow : Flow) (held : CFlow) : Type 0 where
  pub relay_is : held.relay ≡ flow.number
  pub end_is : held.expires_at ≡ shown_due flow.expires_at
  pub peer_is : Holds (socket_of flow.peer) held.peer

-- a flow, or that there is none
abbrev pub IsFlow : Option Flow → (result : Bool) → CFlow → Type 0
IsFlow None result held = (result ≡ false) × (held ≡ no_flow)
IsFlow (Some flow) result held = (result ≡ true) × HoldsFlow flow held

-- a 5-tuple of another form has no channel
abbrev pub FindsFlowIn : TurnCore → CFiveTuple → (channel : ℕ) → (result : Bool) → CFlow → Type 0
FindsFlowIn core client channel result held =
    MatchOption (tuple_named client) (IsFlow None result held)
    (λ tuple. IsFlow (flow_of core.server.holding.state tuple channel) result held)

abbrev pub FindsFlow : CFiveTuple → (channel : ℕ) → (result : Bool) → CFlow → (old new : Option TurnCore)
    → Type 0
FindsFlow client channel result held old new =
    Looks old new (IsFlow None result held) (λ core. FindsFlowIn core client channel result held)
