-- Data of the two machines, in the bytes that carry it (RFC 8656, sections 11 and 12).
use Rattle.std.specs.Prelude.{◌≡◌, ℕ, ◌^◌, ◌<◌, false, List, length, None, Some}
use Rattle.stun_base.specs.declared.transport.TransportType.{TransportType}
use Rattle.stun_endpoints.specs.Conversions.{socket_of}
use Rattle.stun_endpoints.specs.declared.endpoints.Endpoint.{Endpoint}
use Rattle.stun_endpoints.specs.declared.endpoints.FiveTuple.{FiveTuple}
use Rattle.turn_client_machine.specs.Events.{Output, send_to, send_on}
use Rattle.turn_client_messages.specs.Heads.{carried}
use Rattle.turn_client_messages.specs.declared.sending.Carrier.TheVariants.{Channel, Indication}
use Rattle.turn_machine.specs.Events.{Output as ServerOutput, arrives, to_client, to_client_on}
use Rattle.turn_machine.specs.Relays.{Setup, Rules}
use Rattle.turn_allocations.specs.declared.families.Families.{Families}
use Rattle.turn_client_machine.specs.Reach.{IsSocket, happened_since}
use Rattle.turn_machine.specs.Runs.{Timed}
use Rattle.turn_machine.specs.Steps.{step}
use Rattle.turn_server.specs.Acting.{act, sends_to}
use Rattle.turn_server.specs.Datagrams.{Moment, kept}
use Rattle.turn_server.specs.Delivering.{message_by}
use Rattle.turn_server.specs.Judging.{Site}
use Rattle.turn_sessions.specs.Sides.{Fits, IsChannel, IsTransport}

-- the data fits its length field
abbrev pub IsShort : List ℕ → Type 0
IsShort bytes = length bytes < 2 ^ 16

-- d is what a client writes to send data so: in a Send indication with some transaction ID, or on a channel
abbrev pub Sends : TransportType → Output → List ℕ → Type 0
Sends transport (send_to peer bytes) d =
    IsTransport peer × IsShort bytes × ((id : ℕ) × (id < 2 ^ 96) × Fits d
    × (d ≡ carried transport (Indication id peer) bytes))
Sends transport (send_on channel bytes) d =
    IsChannel channel × IsShort bytes × (d ≡ carried transport (Channel channel) bytes)
Sends transport _ d = ⊥

-- d is what a server writes to a client to hand it a peer's data so: in a Data indication with some transaction
-- ID, or on a channel
abbrev pub Gives : ServerOutput → List ℕ → Type 0
Gives (to_client tuple peer bytes) d =
    IsTransport peer × IsShort bytes × ((id : ℕ) × (id < 2 ^ 96) × Fits d
    × (d ≡ message_by tuple None id (socket_of peer) bytes))
Gives (to_client_on tuple channel bytes) d =
    IsChannel channel × IsShort bytes × ((id : ℕ) × (peer : Endpoint)
    × (d ≡ message_by tuple (Some channel) id (socket_of peer) bytes))
Gives _ d = ⊥

-- to whom it goes
abbrev pub IsTo : (protocol : ℕ) → ServerOutput → Type 0
IsTo protocol (to_client tuple peer bytes) = tuple.transport ≡ protocol
IsTo protocol (to_client_on tuple channel bytes) = tuple.transport ≡ protocol
IsTo protocol _ = ⊥

-- a server, at a moment after these, sends the data of d to the peer, exactly, from the client's relayed address
pub record IsCarriedOn (setup : Setup) (rules : Rules) (there : List Moment) (since earlier : List Timed)
    (site : Site) (tuple : FiveTuple) (user : ℕ) (numbers : Families ℕ) (relayed : Endpoint) (now : ℕ)
    (d : List ℕ) (peer : Endpoint) (bytes : List ℕ) : Type 0 where
  pub number : ℕ
  pub socket : IsSocket tuple user number relayed (happened_since setup since earlier)
  pub acts : act site setup rules tuple numbers (kept setup there) now d
      ≡ sends_to number peer false bytes

-- what a server does, at a moment after these, with data of a peer that comes to its socket of this number
abbrev pub brought_by : Setup → Rules → List Moment → (number now : ℕ) → Endpoint → List ℕ → ServerOutput
brought_by setup rules there number now peer bytes =
    (step setup rules (kept setup there).state now (arrives number peer bytes)).output

-- d is what it writes for it, over this transport
pub record IsBrought (protocol : ℕ) (output : ServerOutput) (d : List ℕ) : Type 0 where
  pub gives : Gives output d
  pub to : IsTo protocol output
