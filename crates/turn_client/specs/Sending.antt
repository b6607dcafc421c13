-- What a client sends: a request at a poll, and what goes around data for a peer.
use Rattle.std.specs.Prelude.{◌≡◌, ◌⊎◌, ◌<◌, ℕ, Bool, List, ◌++◌, length, drop, Option, None, Some, Result, Ok, Err, ◌==◌, if◌then◌else◌}
use Rattle.stun_grammar.specs.declared.error.StunWriteError.{StunWriteError}
use Rattle.stun_grammar.specs.declared.error.StunWriteError.TheVariants.{OutOfMemory, OutOfRange, TooSmall}
use Rattle.turn_attrs.specs.declared.heads.Head.{Head}
use Rattle.turn_attrs.specs.Channels.{channel_of}
use Rattle.turn_client_machine.specs.declared.requests.Request.{Request}
use Rattle.turn_client_machine.specs.Clients.{Endpoint}
use Rattle.turn_client_machine.specs.Events.{Output, asks, send_to, send_on, nothing}
use Rattle.turn_client_messages.specs.declared.sending.Carrier.{Carrier}
use Rattle.turn_client_messages.specs.declared.sending.Carrier.TheVariants.{Channel, Indication, Whole}
use Rattle.turn_client_messages.specs.Heads.{carried, Surrounds, head_fault_of}
use Rattle.turn_client_messages.specs.Requests.{text_of, refusal_of}
use Rattle.turn_client.specs.Clients.{Client}
use Rattle.turn_client.specs.Receiving.{asked_by}

-- ---- Requests

-- a request as it is written, with the further peers that it names, and why it isn't
abbrev pub request_text : Client → Request → (others : List Endpoint) → List ℕ
request_text client r others = text_of client.content others (asked_by client r)

abbrev pub request_refusal : Client → Request → (others : List Endpoint) → Option StunWriteError
request_refusal client r others = refusal_of None client.content others (asked_by client r)

-- why a text isn't written into a slice: an allocation failed; a refusal; or there is no room
abbrev pub FailsWith : (refusal : Option StunWriteError) → (text old : List ℕ) → StunWriteError → Type 0
FailsWith refusal text old e =
    (e ≡ OutOfMemory) ⊎ ((refusal ≡ Some e)
    ⊎ ((e ≡ TooSmall (length text) (length old)) × (length old < length text)))

-- it is written at the start of a slice, or the slice stays
abbrev pub IsWritten : (refusal : Option StunWriteError) → (text old new : List ℕ)
    → Result (Option ℕ) StunWriteError → Type 0
IsWritten refusal text old new (Ok None) = ⊥
IsWritten refusal text old new (Ok (Some n)) =
    (refusal ≡ None) × (n ≡ length text) × (new ≡ text ++ drop n old)
IsWritten refusal text old new (Err e) = FailsWith refusal text old e × (new ≡ old)

-- what a poll with this output writes
abbrev pub Polls : Client → Output → (old new : List ℕ) → Result (Option ℕ) StunWriteError → Type 0
Polls client nothing old new result = (result ≡ Ok None) × (new ≡ old)
Polls client (asks r others) old new result =
    IsWritten (request_refusal client r others) (request_text client r others) old new result
Polls client _ old new result = ⊥

-- ---- Data (RFC 8656, sections 11.1 and 12.5)

-- the longest message that the transport to the server takes: UDP over IPv4, UDP over IPv6, and a stream
abbrev pub greatest_of : (is_reliable : Bool) → (server : Endpoint) → ℕ
greatest_of is_reliable server =
    if is_reliable then 65_552 else (if server.ip.family == 1 then 65_507 else 65_527)

-- that a channel has another number
abbrev pub no_channel : (number : ℕ) → StunWriteError
no_channel number = OutOfRange number 0x4000 0x4FFF

-- why no head is written
abbrev pub fault_by : Client → Carrier → (n : ℕ) → (old : List ℕ) → Option StunWriteError
fault_by client carrier n old =
    head_fault_of carrier n (greatest_of client.held.settings.is_reliable client.held.settings.server) (length old)

abbrev pub IsCarried : Client → Carrier → (n : ℕ) → (old new : List ℕ) → Result (Option Head) StunWriteError
    → Type 0
IsCarried client carrier n old new (Ok None) = ⊥
IsCarried client carrier n old new (Ok (Some head)) =
    (fault_by client carrier n old ≡ None)
    × Surrounds n (carried client.transport carrier) old new head
IsCarried client carrier n old new (Err e) = (fault_by client carrier n old ≡ Some e) × (new ≡ old)

-- by the channel with a number, if there is one: no peer has another number
abbrev pub SendsOn : Client → (number : ℕ) → (channel : Option ℕ) → (n : ℕ) → (old new : List ℕ)
    → Result (Option Head) StunWriteError → Type 0
SendsOn client number None n old new result = (result ≡ Err (no_channel number)) × (new ≡ old)
SendsOn client number (Some channel) n old new result =
    IsCarried client (Channel channel) n old new result

-- what is written around n bytes of data with this output
abbrev pub Sends : Client → (id n : ℕ) → Output → (old new : List ℕ) → Result (Option Head) StunWriteError
    → Type 0
Sends client id n nothing old new result = (result ≡ Ok None) × (new ≡ old)
Sends client id n (send_to peer bytes) old new result =
    IsCarried client (Indication id peer) n old new result
Sends client id n (send_on number bytes) old new result =
    SendsOn client number (channel_of number) n old new result
Sends client id n _ old new result = ⊥

-- The same with DONT-FRAGMENT, which ChannelData has no room for: in a Send indication, also to a peer with a
-- channel
abbrev pub SendsWhole : Client → (id : ℕ) → (peer : Endpoint) → (n : ℕ) → Output → (old new : List ℕ)
    → Result (Option Head) StunWriteError → Type 0
SendsWhole client id peer n nothing old new result = (result ≡ Ok None) × (new ≡ old)
SendsWhole client id peer n (send_to other bytes) old new result =
    IsCarried client (Whole id peer) n old new result
SendsWhole client id peer n (send_on number bytes) old new result =
    IsCarried client (Whole id peer) n old new result
SendsWhole client id peer n _ old new result = ⊥
