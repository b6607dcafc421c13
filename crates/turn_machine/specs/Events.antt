-- The events of a TURN server, and its outputs. An event is what remains of a datagram once it has
-- been parsed and authenticated: bytes, credentials and unknown attributes are not the machine's.
use Rattle.std.specs.Prelude.{ℕ, Bool, List, length, Option, nat_lt, if◌then◌else◌}
use Rattle.stun_endpoints.specs.declared.endpoints.Endpoint.{Endpoint}
use Rattle.stun_endpoints.specs.declared.endpoints.FiveTuple.{FiveTuple}

-- A socket that the caller has ready: its address, and a lower bound of its number
pub record Offer : Type 0 where
  pub number : ℕ
  pub address : Endpoint

-- A relayed address that an Allocate request asks for: its family, and the caller's socket, if it
-- has one
pub record Want : Type 0 where
  pub family : ℕ
  pub ready : Option Offer

-- What an authentic request asks for. An Allocate request with ADDITIONAL-ADDRESS-FAMILY has two
-- wants. A request that its bytes alone make unfit has the code of its refusal, such as 400 or 442
pub data Request : Type 0 where
  allocate : (id : ℕ) → (lifetime : Option ℕ) → List Want → Request
  unfit_allocate : (code : ℕ) → Request
  refresh : (family : Option ℕ) → (lifetime : Option ℕ) → Request
  permit : List Endpoint → Request
  bind : (number : ℕ) → Endpoint → Request
  unfit : (code : ℕ) → Request

-- A CreatePermission request with these peers. The server reads at most 64 peers of one request:
-- more are beyond its capacity, which is 508 (10.2), whatever their families and IP addresses are.
-- Their number is known from the bytes alone, so the request is an unfit one
abbrev pub most_peers : ℕ
most_peers = 64

abbrev pub permit_request : List Endpoint → Request
permit_request peers = if nat_lt most_peers (length peers) then unfit 508 else permit peers

-- type, code and error data of an ICMP packet (11.5 and 18.13)
pub record Icmp : Type 0 where
  pub type_number : ℕ
  pub code : ℕ
  pub error_data : ℕ

-- In order: an authentic request of a user; a Send indication, with DONT-FRAGMENT or without; a
-- ChannelData message; a datagram from a peer, at a socket; an ICMP packet about a datagram that a
-- socket sent to a peer; the caller ends one relayed address, or all of a user; or only time passes
pub data Event : Type 0 where
  asks : FiveTuple → (user : ℕ) → Request → Event
  sends : FiveTuple → Endpoint → (dont_fragment : Bool) → List ℕ → Event
  sends_on : FiveTuple → (channel : ℕ) → List ℕ → Event
  arrives : (number : ℕ) → Endpoint → List ℕ → Event
  bounces : (number : ℕ) → Endpoint → Icmp → Event
  ends : (number : ℕ) → Event
  ends_user : (user : ℕ) → Event
  ticks : Event

-- a relayed address in an Allocate response
pub record Given : Type 0 where
  pub family : ℕ
  pub number : ℕ
  pub address : Endpoint

-- a family that the client asked for and has no relayed address of, with the reason: 440 or 508
-- (18.12)
pub record Missing : Type 0 where
  pub family : ℕ
  pub code : ℕ

pub data Answer : Type 0 where
  allocated : List Given → (lifetime : ℕ) → List Missing → Answer
  refreshed : (lifetime : ℕ) → Answer
  done : Answer
  refused : (code : ℕ) → Answer

-- One output for each event: a response to a client; a datagram to a peer, from a socket, with the
-- DF bit or without; a Data indication, a ChannelData message or a Data indication with ICMP to a
-- client; or nothing
pub data Output : Type 0 where
  answers : FiveTuple → Answer → Output
  to_peer : (number : ℕ) → Endpoint → (dont_fragment : Bool) → List ℕ → Output
  to_client : FiveTuple → Endpoint → List ℕ → Output
  to_client_on : FiveTuple → (channel : ℕ) → List ℕ → Output
  to_client_icmp : FiveTuple → Endpoint → Icmp → Output
  nothing : Output
