-- Flows: a channel whose data may be relayed in both directions without asking the machine, and
-- until when (RFC 8656, sections 6, 9 and 12). A program in the kernel or a fast path may do so.
use Rattle.std.specs.Prelude.{◌≡◌, ℕ, ◌<◌, Bool, true, false, not, ◌&&◌, ◌||◌, List, [], ◌∷◌, ◌++◌, find, min, Option, None, Some}
use Rattle.std.specs.Option.{option_map_or}
use Rattle.stun_endpoints.specs.declared.endpoints.Endpoint.{Endpoint}
use Rattle.stun_endpoints.specs.declared.endpoints.FiveTuple.{FiveTuple}
use Rattle.stun_endpoints.specs.Endpoints.{is_tuple}
use Rattle.turn_machine.specs.Lists.{SomeOf}
use Rattle.turn_machine.specs.Relays.{Permission, Channel, Relay, Setup, Rules, State, is_permission, is_channel}
use Rattle.turn_machine.specs.Events.{Event, asks, sends_on, arrives, refused, Output, answers, to_peer, to_client_on}
use Rattle.turn_machine.specs.Data.{has_channel}
use Rattle.turn_machine.specs.Runs.{Timed, Happening, run, happening}
use Rattle.turn_machine.specs.Warrants.{is_ended}
use Rattle.turn_machine.specs.Works.{output_of}

-- the number of the socket; the peer; and the moment from which the machine must be asked again
pub record Flow : Type 0 where
  pub number : ℕ
  pub peer : Endpoint
  pub expires_at : ℕ

-- The flow ends with the first of the relayed address, the channel and the permission
abbrev pub flow_with : Relay → Channel → Permission → Flow
flow_with a c p = record {
  number = a.number;
  peer = c.peer;
  expires_at = min a.expires_at (min c.expires_at p.expires_at);
}

-- To the peer the channel is enough (12.6). Data from the peer needs a permission as well (9)
abbrev pub flow_by : ℕ → Relay → Channel → Option Flow
flow_by now a c =
    option_map_or (λ p. Some (flow_with a c p)) (find (is_permission now c.peer.ip) a.permissions)
    None

abbrev pub flow_on : ℕ → (channel : ℕ) → Relay → Option Flow
flow_on now channel a =
    option_map_or (flow_by now a) (find (is_channel now channel) a.channels) None

abbrev pub flow_of : State → FiveTuple → (channel : ℕ) → Option Flow
flow_of state tuple channel =
    option_map_or (flow_on state.clock channel)
    (find (has_channel state.clock tuple channel) state.relays) None

-- ---- Words of the law

-- Before the flow ends, both directions are relayed as the flow says, for all bytes, if the rules
-- allow the peer when the datagram arrives
pub record IsRelayed (setup : Setup) (earlier : List Timed) (tuple : FiveTuple) (channel : ℕ)
    (flow : Flow) : Type 0 where
  pub out : (now : ℕ) (rules : Rules) (bytes : List ℕ) → now < flow.expires_at
      → (rules.allows_ip flow.peer.ip && rules.allows_port flow.peer) ≡ true
      → output_of setup earlier now rules (sends_on tuple channel bytes)
      ≡ to_peer flow.number flow.peer false bytes
  pub back : (now : ℕ) (rules : Rules) (bytes : List ℕ) → now < flow.expires_at
      → rules.allows_ip flow.peer.ip ≡ true
      → output_of setup earlier now rules (arrives flow.number flow.peer bytes)
      ≡ to_client_on tuple channel bytes

abbrev pub is_refusal : Output → Bool
is_refusal (answers tuple (refused code)) = true
is_refusal _ = false

abbrev pub is_request : FiveTuple → Event → Bool
is_request tuple (asks other owner request) = is_tuple tuple other
is_request tuple _ = false

-- The only happenings after which a flow must be looked up again: the caller ends the relayed
-- address or all of its user, or a request of its client succeeds
abbrev pub is_change : FiveTuple → (user number : ℕ) → Happening → Bool
is_change tuple user number h =
    is_ended user number h.event || (is_request tuple h.event && not (is_refusal h.output))

-- none of them has happened since
abbrev pub IsLeft : Setup → FiveTuple → (user number : ℕ) → (later earlier : List Timed) → Type 0
IsLeft setup tuple user number [] earlier = Unit {0}
IsLeft setup tuple user number (timed ∷ later) earlier =
    (is_change tuple user number (happening setup (run setup (later ++ earlier)) timed) ≡ false)
    × IsLeft setup tuple user number later earlier

-- The end of a flow is the first of three ends in the state: that of the client's relayed address,
-- of the channel with this number and peer, and of the permission for the peer's IP address
abbrev pub IsFirstEnd : FiveTuple → (channel : ℕ) → Flow → State → Type 0
IsFirstEnd tuple channel flow state =
    SomeOf (λ a. (a.tuple ≡ tuple) × (a.number ≡ flow.number)
    × SomeOf (λ c. (c.number ≡ channel) × (c.peer ≡ flow.peer)
    × SomeOf (λ p. (p.ip ≡ flow.peer.ip) × (flow.expires_at ≡ min a.expires_at (min c.expires_at p.expires_at)))
    a.permissions) a.channels) state.relays
