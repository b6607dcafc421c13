-- What a TURN client is asked for, what it receives and what it sends, as C sees it.
use Rattle.std.specs.Prelude.{◌≡◌, ◌⊎◌, ℕ, ◌+◌, Bool, true, false, List, [], ◌∷◌, length, slice_range, Option, None, Some, Result, Ok, Err, ◌||◌, MatchOption, IsSomeAnd, unwrap_or, max, ◌==◌, if◌then◌else◌}
use Rattle.std.specs.List.{list_any}
use Rattle.std.specs.Option.{option_map}
use Rattle.stun_grammar.specs.declared.error.StunWriteError.{StunWriteError}
use Rattle.stun_grammar.specs.Numbers.{number}
use Rattle.stun_endpoints.specs.declared.endpoints.Endpoint.{Endpoint}
use Rattle.stun_endpoints.specs.Conversions.{socket_of}
use Rattle.turn_attrs.specs.declared.heads.Head.{Head}
use Rattle.turn_client_machine.specs.Clients.{is_peer}
use Rattle.turn_client_machine.specs.Events.{Event, Output, allocates, permits, binds, drops, closes, polls, sends, shows}
use Rattle.turn_client_machine.specs.Steps.{covers}
use Rattle.turn_client_state.specs.declared.naming.NameError.{NameError}
use Rattle.turn_client_state.specs.declared.naming.NameError.TheVariants.{Full, OtherFamily}
use Rattle.turn_client_state.specs.Naming.{named}
use Rattle.turn_client_state.specs.States.{output_at, setup_of}
use Rattle.turn_client_state.specs.Waking.{wake}
use Rattle.turn_client.specs.Clients.{Client, passes}
use Rattle.turn_client.specs.Receiving as receiving
use Rattle.turn_client.specs.declared.receiving.Received.{Received}
use Rattle.turn_client.specs.declared.receiving.Received.TheVariants.{Data, Failed, Reservation}
use Rattle.turn_client.specs.Receiving.{News, event_at, failed, news_at, no_news, reserved}
use Rattle.turn_client_messages.specs.declared.peer_errors.PeerError.{PeerError}
use Rattle.turn_client.specs.Sending as sending
use Rattle.stun_types_c.specs.declared.address.Address.{Address}
use Rattle.stun_types_c.specs.declared.allocation_client.CAllocationData.{CAllocationData}
use Rattle.stun_types_c.specs.declared.allocation_client.CAllocationHead.{CAllocationHead}
use Rattle.stun_types_c.specs.declared.allocation_core.AllocationCore.{AllocationCore}
use Rattle.stun_types_c.specs.declared.attribute.ShownAttribute.{ShownAttribute}
use Rattle.stun_types_c.specs.declared.call_result.CResult.{CResult}
use Rattle.stun_types_c.specs.declared.reading.Id.{Id}
use Rattle.stun_types.specs.LookingUp.{nth}
use Rattle.stun_framing.specs.declared.channel_range.ChannelRange.TheVariants.{Rfc8656}
use Rattle.stun_framing.specs.Channels.{begins_number}
use Rattle.turn_attrs.specs.Turn.{DATA}
use Rattle.stun_types_c.specs.Addresses.{Holds}
use Rattle.stun_types_c.specs.Attributes.{in_c as shown_in_c}
use Rattle.stun_types_c.specs.AllocationCodes.{FULL, OTHER_FAMILY}
use Rattle.stun_types_c.specs.AllocationMaking.{endpoint_named}
use Rattle.stun_types_c.specs.CResults.{plain, write_result, Refuses}
use Rattle.stun_types_c.specs.Codes.{OK, OUT_OF_MEMORY, BAD_ARGUMENT}
use Rattle.stun_types_c.specs.TurnAddresses.{nowhere}
use Rattle.stun_types_c.specs.TurnEnding.{never, shown_due}

-- the client is another one then; what was reported stays
abbrev pub with_client : Client → AllocationCore → AllocationCore
with_client client core = record core { client = client }

-- ---- What is wanted

abbrev pub name_result : Result (Unit {0}) NameError → CResult
name_result (Ok done) = plain OK
name_result (Err Full) = plain FULL
name_result (Err OtherFamily) = plain OTHER_FAMILY

abbrev pub permit_result : (now : ℕ) → Endpoint → Client → CResult
permit_result now peer client =
    name_result (named (setup_of client.held.settings) (max client.held.state.clock now)
    (list_any (covers peer.ip) client.held.state.peers || list_any (is_peer peer) client.held.state.peers) peer
    client.held.state.peers)

abbrev pub bind_result : (now : ℕ) → Endpoint → Client → CResult
bind_result now peer client =
    name_result (named (setup_of client.held.settings) (max client.held.state.clock now)
    (list_any (is_peer peer) client.held.state.peers) peer client.held.state.peers)

-- the wish of a number, and its peer; none if the number is no wish's, or a wish for a peer names none
abbrev pub event_named : (wish : ℕ) → (peer : Option Endpoint) → Option Event
event_named wish peer =
    if wish == 1 then Some allocates else (
    if wish == 2 then option_map permits peer else (
    if wish == 3 then option_map binds peer else (
    if wish == 4 then Some closes else (
    if wish == 5 then option_map drops peer else None))))

abbrev pub wish_result : (now : ℕ) → Event → Client → CResult
wish_result now (permits peer) client = permit_result now peer client
wish_result now (binds peer) client = bind_result now peer client
wish_result now _ client = plain OK

abbrev pub WantsIn : AllocationCore → (now : ℕ) → Option Event → CResult → (old new : Option AllocationCore)
    → Type 0
WantsIn core now event result old new =
    MatchOption event (Refuses (plain BAD_ARGUMENT) result old new)
    (λ e. (result ≡ wish_result now e core.client)
    × (new ≡ Some (with_client (passes now 0 e core.client) core)))

abbrev pub Wants : (now wish : ℕ) → Address → CResult → (old new : Option AllocationCore) → Type 0
Wants now wish peer result old new =
    MatchOption old (Refuses (plain BAD_ARGUMENT) result old new)
    (λ core. WantsIn core now (event_named wish (endpoint_named peer)) result old new)

-- ---- A datagram

abbrev pub no_data : CAllocationData
no_data = record {
  at = 0;
  length = 0;
  peer = nowhere;
  shown = 0;
  token = 0;
  icmp_data = 0;
  icmp_type = 0;
  icmp_code = 0;
  reserved = 0;
}

-- no ICMP error and no token
pub record HasNoMore (out : CAllocationData) : Type 0 where
  pub no_token : out.token ≡ 0
  pub no_data_of_icmp : out.icmp_data ≡ 0
  pub no_type : out.icmp_type ≡ 0
  pub no_code : out.icmp_code ≡ 0
  pub reserved_is : out.reserved ≡ 0

-- data of a peer, a part of d
pub record IsShown (peer : Endpoint) (bytes d : List ℕ) (out : CAllocationData) : Type 0 where
  pub peer_is : Holds (socket_of peer) out.peer
  pub stands : slice_range d out.at (out.at + out.length) ≡ bytes
  pub length_is : out.length ≡ length bytes
  pub is_shown : out.shown ≡ 1
  pub no_more : HasNoMore out

-- a packet to a peer was dropped (RFC 8656, section 11.6)
pub record IsFailed (failed : PeerError) (out : CAllocationData) : Type 0 where
  pub peer_is : Holds (socket_of failed.peer) out.peer
  pub none_at : out.at ≡ 0
  pub no_length : out.length ≡ 0
  pub is_failed : out.shown ≡ 2
  pub no_token : out.token ≡ 0
  pub data_is : out.icmp_data ≡ failed.error.«data»
  pub type_is : out.icmp_type ≡ failed.error.icmp_type
  pub code_is : out.icmp_code ≡ failed.error.code
  pub reserved_is : out.reserved ≡ 0

-- the server has reserved a port (section 7.3)
abbrev pub token_in_c : (token : ℕ) → CAllocationData
token_in_c token = record no_data { shown = 3; token = token }

abbrev pub IsNews : News → CAllocationData → Type 0
IsNews (failed error) out = IsFailed error out
IsNews (reserved token) out = out ≡ token_in_c token
IsNews no_news out = out ≡ no_data

-- the data that is shown, or else what else the datagram reports
abbrev pub IsTold : Output → News → List ℕ → CAllocationData → Type 0
IsTold (shows peer bytes) news d out = IsShown peer bytes d out
IsTold _ news d out = IsNews news out

-- where it is: after the four bytes that a ChannelData message begins with (RFC 8656, section 12.4), or as
-- the value of the first DATA (section 18.4)
abbrev pub value_place : Option ShownAttribute → ℕ
value_place None = 0
value_place (Some a) = a.value_at

abbrev pub data_place : List ℕ → ℕ
data_place [] = 0
data_place (first ∷ more) =
    if begins_number Rfc8656 first then 4
    else value_place (option_map shown_in_c (nth (first ∷ more) DATA 0))

pub record IsPlaced (peer : Endpoint) (bytes d : List ℕ) (out : CAllocationData) : Type 0 where
  pub peer_is : Holds (socket_of peer) out.peer
  pub place_is : out.at ≡ data_place d
  pub length_is : out.length ≡ length bytes
  pub is_shown : out.shown ≡ 1
  pub no_more : HasNoMore out

abbrev pub IsReceived : Option Received → List ℕ → CAllocationData → Type 0
IsReceived None d out = out ≡ no_data
IsReceived (Some (Data given)) d out = IsPlaced given.peer given.data.now d out
IsReceived (Some (Failed error)) d out = IsFailed error out
IsReceived (Some (Reservation token)) d out = out ≡ token_in_c token

pub record DataLeft : Type 0 where
  pub core : Option AllocationCore
  pub shown : CAllocationData

-- the client takes d, as `TurnClient` does
pub record ReceivesInC (core : AllocationCore) (now : ℕ) (from : Endpoint) (d : List ℕ) (out : CAllocationData)
    (kept : AllocationCore) : Type 0 where
  pub same : kept.changes ≡ core.changes
  pub receives : receiving.Receives core.client now from d kept.client
  pub in_c : IsTold (output_at now 0 (event_at core.client from d) core.client.held)
      (news_at core.client now from d kept.client.held.state) d out

-- or, if it is a challenge, an allocation fails, and nothing changes
abbrev pub ReceivesFrom : AllocationCore → (now : ℕ) → (from : Endpoint) → List ℕ → CResult → DataLeft → DataLeft
    → Type 0
ReceivesFrom core now from d result old new =
    ((result ≡ plain OK) × IsSomeAnd new.core (ReceivesInC core now from d new.shown))
    ⊎ ((receiving.is_challenge (receiving.judged core.client d) ≡ true)
    × Refuses (plain OUT_OF_MEMORY) result old new)

abbrev pub TakesDatagram : (now : ℕ) → (from : Address) → List ℕ → CResult → DataLeft → DataLeft → Type 0
TakesDatagram now from d result old new =
    MatchOption (endpoint_named from) (Refuses (plain BAD_ARGUMENT) result old new)
    (λ sender. MatchOption old.core (Refuses (plain BAD_ARGUMENT) result old new)
    (λ core. ReceivesFrom core now sender d result old new))

-- ---- Requests

pub record PollLeft : Type 0 where
  pub core : Option AllocationCore
  pub slice : List ℕ
  pub count : ℕ
  pub wake : ℕ

-- a request of so many bytes is written, or none, or the call returns why not
abbrev pub IsWritten : Result (Option ℕ) StunWriteError → CResult → (length : ℕ) → Type 0
IsWritten (Ok written) result length = (result ≡ plain OK) × (length ≡ unwrap_or written 0)
IsWritten (Err e) result length = (result ≡ write_result e) × (length ≡ 0)

-- the moment of the next poll
abbrev pub wake_shown : Option ℕ → ℕ
wake_shown None = never
wake_shown (Some due) = shown_due due

-- what a poll writes, as `TurnClient` does
pub record WritesInC (core : AllocationCore) (now id : ℕ) (result : CResult) (old new : List ℕ) (length : ℕ)
    : Type 0 where
  pub written : Result (Option ℕ) StunWriteError
  pub polls_are : sending.Polls core.client (output_at now id polls core.client.held) old new written
  pub in_c : IsWritten written result length

pub record PollsIn (core : AllocationCore) (now id : ℕ) (result : CResult) (old new : PollLeft) : Type 0 where
  pub core_is : new.core ≡ Some (with_client (passes now id polls core.client) core)
  pub writes : WritesInC core now id result old.slice new.slice new.count
  pub wake_is : new.wake ≡ wake_shown (wake (passes now id polls core.client).held.state)

abbrev pub PollsClient : (now : ℕ) → Id → CResult → PollLeft → PollLeft → Type 0
PollsClient now id result old new =
    MatchOption old.core (Refuses (plain BAD_ARGUMENT) result old new)
    (λ core. PollsIn core now (number id.bytes) result old new)

-- ---- Data to a peer

abbrev pub no_head : CAllocationHead
no_head = record { length = 0; padding = 0; sends = 0; reserved = 0 }

abbrev pub head_in_c : Option Head → CAllocationHead
head_in_c None = no_head
head_in_c (Some head) = record { length = head.length; padding = head.padding; sends = 1; reserved = 0 }

pub record HeadLeft : Type 0 where
  pub core : Option AllocationCore
  pub slice : List ℕ
  pub around : CAllocationHead

-- what comes before data is written, or nothing, or the call returns why not
abbrev pub IsHeadInC : Result (Option Head) StunWriteError → CResult → CAllocationHead → Type 0
IsHeadInC (Ok head) result around = (result ≡ plain OK) × (around ≡ head_in_c head)
IsHeadInC (Err e) result around = (result ≡ write_result e) × (around ≡ no_head)

-- what is written around n bytes of data with this output, with DONT-FRAGMENT or without it
abbrev pub SentAs : (whole : Bool) → Client → (id n : ℕ) → (peer : Endpoint) → Output → (old new : List ℕ)
    → Result (Option Head) StunWriteError → Type 0
SentAs true client id n peer output old new head =
    sending.SendsWhole client id peer n output old new head
SentAs false client id n peer output old new head = sending.Sends client id n output old new head

-- what is written around n bytes of data, whatever they are, as `TurnClient` does
pub record SendsBy (whole : Bool) (core : AllocationCore) (now id n : ℕ) (peer : Endpoint) (result : CResult) (old new : List ℕ)
    (around : CAllocationHead) (kept : AllocationCore) : Type 0 where
  pub same : kept.changes ≡ core.changes
  pub passed : (bytes : List ℕ) → kept.client ≡ passes now 0 (sends peer bytes) core.client
  pub head : Result (Option Head) StunWriteError
  pub sends_are : (bytes : List ℕ) → SentAs whole core.client id n peer
      (output_at now 0 (sends peer bytes) core.client.held) old new head
  pub in_c : IsHeadInC head result around

abbrev pub SendsTo : (whole : Bool) → (now n : ℕ) → (peer : Address) → Id → CResult → HeadLeft → HeadLeft → Type 0
SendsTo whole now n peer id result old new =
    MatchOption (endpoint_named peer) (Refuses (plain BAD_ARGUMENT) result old new)
    (λ address. MatchOption old.core (Refuses (plain BAD_ARGUMENT) result old new)
    (λ core. IsSomeAnd new.core
    (SendsBy whole core now (number id.bytes) n address result old.slice new.slice new.around)))
