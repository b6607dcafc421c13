-- What an ICE agent receives and what it sends, as C sees it.
use Rattle.std.specs.Prelude.{◌≡◌, ℕ, Bool, true, false, List, Option, None, Some, Result, Ok, Err, MatchOption, IsSomeAnd}
use Rattle.stun_grammar.specs.declared.error.StunWriteError.{StunWriteError}
use Rattle.stun_grammar.specs.Numbers.{number}
use Rattle.stun_endpoints.specs.declared.endpoints.Endpoint.{Endpoint}
use Rattle.stun_endpoints.specs.Conversions.{socket_of}
use Rattle.ice_machine.specs.Events.{sends}
use Rattle.ice_agent_state.specs.declared.routing.Route.{Route}
use Rattle.ice_agent_state.specs.Agents.{Held, output_at}
use Rattle.ice_agent_state.specs.Outputs.{data_by}
use Rattle.ice_agent_state.specs.Waking.{IsNextWake}
use Rattle.ice_agent.specs.declared.receiving.Received.{Received}
use Rattle.ice_agent.specs.declared.receiving.Received.TheVariants.{Nothing, Response, Data}
use Rattle.ice_agent.specs.declared.sending.Sending.{Sending}
use Rattle.ice_agent.specs.Agents.{passes}
use Rattle.ice_agent.specs.Receiving as receiving
use Rattle.ice_agent.specs.Sending as sending
use Rattle.stun_types_c.specs.declared.address.Address.{Address}
use Rattle.stun_types_c.specs.declared.call_result.CResult.{CResult}
use Rattle.stun_types_c.specs.declared.ice_core.IceCore.{IceCore}
use Rattle.stun_types_c.specs.declared.ice_datagrams.CIcePath.{CIcePath}
use Rattle.stun_types_c.specs.declared.ice_datagrams.CIceReceived.{CIceReceived}
use Rattle.stun_types_c.specs.declared.ice_datagrams.CIceRequest.{CIceRequest}
use Rattle.stun_types_c.specs.declared.reading.Id.{Id}
use Rattle.stun_types_c.specs.Addresses.{Holds}
use Rattle.stun_types_c.specs.AllocationMaking.{endpoint_named}
use Rattle.stun_types_c.specs.CResults.{plain, write_result, Refuses}
use Rattle.stun_types_c.specs.Codes.{OK, BAD_ARGUMENT}
use Rattle.stun_types_c.specs.IceMaking.{with_agent}
use Rattle.stun_types_c.specs.TurnAddresses.{nowhere}
use Rattle.stun_types_c.specs.TurnEnding.{never}

-- ---- Datagrams

abbrev pub no_received : CIceReceived
no_received = record { length = 0; kind = 0; component = 0; reserved = 0 }

-- nothing; a response of so many bytes; or data of the peer, which is the datagram
abbrev pub received_in_c : Received → CIceReceived
received_in_c Nothing = no_received
received_in_c (Response n) = record { length = n; kind = 1; component = 0; reserved = 0 }
received_in_c (Data component bytes) = record { length = 0; kind = 2; component = component; reserved = 0 }

abbrev pub IsReceived : Result Received StunWriteError → CResult → CIceReceived → Type 0
IsReceived (Ok received) result out = (result ≡ plain OK) × (out ≡ received_in_c received)
IsReceived (Err e) result out = (result ≡ write_result e) × (out ≡ no_received)

pub record DatagramLeft : Type 0 where
  pub core : Option IceCore
  pub slice : List ℕ
  pub received : CIceReceived

-- the agent takes d, as `Agent` does
pub record ReceivesInC (core : IceCore) (now random base : ℕ) (from : Endpoint) (d : List ℕ) (result : CResult)
    (old new : List ℕ) (out : CIceReceived) (kept : IceCore) : Type 0 where
  pub kept_is : kept ≡ with_agent (receiving.received now random base from d core.agent) core
  pub taken : Result Received StunWriteError
  pub receives : receiving.Receives core.agent d (receiving.judged core.agent base from d)
      (output_at now random (receiving.event_at core.agent base from d) core.agent.held) old new taken
  pub in_c : IsReceived taken result out

abbrev pub TakesDatagram : (now random base : ℕ) → (from : Address) → List ℕ → CResult → DatagramLeft
    → DatagramLeft → Type 0
TakesDatagram now random base from d result old new =
    MatchOption (endpoint_named from) (Refuses (plain BAD_ARGUMENT) result old new)
    (λ sender. MatchOption old.core (Refuses (plain BAD_ARGUMENT) result old new)
    (λ core. IsSomeAnd new.core
    (ReceivesInC core now random base sender d result old.slice new.slice new.received)))

-- ---- Requests

abbrev pub no_request : CIceRequest
no_request = record { length = 0; to = nowhere; base = 0 }

-- a request of so many bytes is to be sent by this path
pub record HoldsRequest (request : Sending) (out : CIceRequest) : Type 0 where
  pub length_is : out.length ≡ request.length
  pub to_is : Holds (socket_of request.to) out.to
  pub base_is : out.base ≡ request.base

abbrev pub IsWritten : Result (Option Sending) StunWriteError → CResult → CIceRequest → Type 0
IsWritten (Ok written) result out = (result ≡ plain OK)
    × MatchOption written (out ≡ no_request) (λ request. HoldsRequest request out)
IsWritten (Err e) result out = (result ≡ write_result e) × (out ≡ no_request)

pub record PollLeft : Type 0 where
  pub core : Option IceCore
  pub slice : List ℕ
  pub request : CIceRequest
  pub wake : ℕ

-- what a poll writes, as `Agent` does
pub record WritesInC (core next : IceCore) (now id : ℕ) (result : CResult) (old new : List ℕ) (out : CIceRequest)
    : Type 0 where
  pub written : Result (Option Sending) StunWriteError
  pub polled : sending.IsPolled now id core.agent next.agent old new written
  pub in_c : IsWritten written result out

-- the moment of the next poll, never if there is none
abbrev pub wake_shown : Option ℕ → ℕ
wake_shown None = never
wake_shown (Some wake) = wake

pub record ShowsWake (held : Held) (shown : ℕ) : Type 0 where
  pub next : Option ℕ
  pub next_is : IsNextWake held next
  pub shown_is : shown ≡ wake_shown next

pub record PollsIn (core : IceCore) (now id : ℕ) (result : CResult) (old new : PollLeft) : Type 0 where
  pub next : IceCore
  pub core_is : new.core ≡ Some next
  pub writes : WritesInC core next now id result old.slice new.slice new.request
  pub wake : ShowsWake next.agent.held new.wake

abbrev pub PollsAgent : (now : ℕ) → Id → CResult → PollLeft → PollLeft → Type 0
PollsAgent now id result old new =
    MatchOption old.core (Refuses (plain BAD_ARGUMENT) result old new)
    (λ core. PollsIn core now (number id.bytes) result old new)

-- ---- The path of data

abbrev pub no_path : CIcePath
no_path = record { to = nowhere; base = 0 }

pub record HoldsRoute (route : Route) (path : CIcePath) : Type 0 where
  pub to_is : Holds (socket_of route.to) path.to
  pub base_is : path.base ≡ route.base

abbrev pub IsPath : Option Route → (result : Bool) → CIcePath → Type 0
IsPath None result path = (result ≡ false) × (path ≡ no_path)
IsPath (Some route) result path = (result ≡ true) × HoldsRoute route path

-- whatever the data is
pub record RoutesIn (core : IceCore) (now component : ℕ) (result : Bool) (path : CIcePath) (kept : IceCore)
    : Type 0 where
  pub kept_is : (bytes : List ℕ) → kept.agent ≡ passes now 0 (sends component bytes) core.agent
  pub route : Option Route
  pub routes : (bytes : List ℕ) → output_at now 0 (sends component bytes) core.agent.held ≡ data_by bytes route
  pub in_c : IsPath route result path

abbrev pub RoutesData : (now component : ℕ) → (result : Bool) → CIcePath → (old new : Option IceCore) → Type 0
RoutesData now component result path old new =
    MatchOption old (((result ≡ false) × (path ≡ no_path)) × (new ≡ None))
    (λ core. IsSomeAnd new (RoutesIn core now component result path))
