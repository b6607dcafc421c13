-- A client and a server (`turn_machine`): what the requests, responses and data of one are to the
-- other.
use Rattle.std.specs.Prelude.{◌≡◌, ℕ, ◌+◌, ◌<◌, ◌≤◌, Bool, true, false, List, find, Option, None, Some, [], ◌∷◌}
use Rattle.std.specs.List.{AllByRecursion}
use Rattle.std.specs.Option.{option_map_or}
use Rattle.stun_endpoints.specs.declared.endpoints.FiveTuple.{FiveTuple}
use Rattle.turn_machine.specs.Lists.{SomeOf as ServerHappened}
use Rattle.turn_machine.specs.Relays.{Setup as ServerSetup, Rules}
use Rattle.turn_machine.specs.Events.{Want, Request as ServerRequest, allocate as s_allocate, refresh as s_refresh, permit as s_permit, bind as s_bind, Event as ServerEvent, asks as s_asks, sends as s_sends, sends_on as s_sends_on, arrives as s_arrives, ticks as s_ticks, Answer as ServerAnswer, allocated as s_allocated, refreshed as s_refreshed, done as s_done, refused as s_refused, Output as ServerOutput, answers as s_answers, to_peer, to_client, to_client_on, to_client_icmp, nothing as s_nothing}
use Rattle.turn_machine.specs.Runs.{Timed as ServerTimed, Happening as ServerHappening}
use Rattle.turn_machine.specs.Warrants.{Permits as PermitsThere, Binds as BindsThere}
use Rattle.turn_machine.specs.Works.{Reaches, output_of as output_there}
use Rattle.turn_client_machine.specs.Clients.{Ip, Endpoint, seconds, Setup, Kind, Allocate, Refresh, Delete, Permit, Bind, Request, State, hears, Peer}
use Rattle.turn_client_machine.specs.Events.{Answer, Opened, Extended, Done, Refused, Challenged, Redirected, Violated, Event, gives, gives_on, strays, Output, asks, send_to, send_on, shows, nothing}
use Rattle.turn_client_machine.specs.Runs.{Happening}
use Rattle.turn_client_machine.specs.Warrants.{Confirmed, IsPartOf}

-- The client's request as the server's event, with a LIFETIME in seconds or none. An Allocate
-- request asks for one relayed address; the want has its family and the server's socket for it, if
-- there is one
abbrev pub request_of : (wanted : Option ℕ) → (id : ℕ) → Want → (others : List Endpoint) → Kind
    → ServerRequest
request_of wanted id want others Allocate = s_allocate id wanted (want ∷ [])
request_of wanted id want others Refresh = s_refresh None wanted
request_of wanted id want others Delete = s_refresh None (Some 0)
request_of wanted id want others (Permit peer) = s_permit (peer ∷ others)
request_of wanted id want others (Bind number peer) = s_bind number peer

-- The server's response as the client's answer. Of several relayed addresses the client takes the
-- first
abbrev pub answer_of : (mapped : Endpoint) → ServerAnswer → Answer
answer_of mapped (s_allocated [] lifetime missing) = Refused 508
answer_of mapped (s_allocated (g ∷ given) lifetime missing) = Opened g.address mapped lifetime
answer_of mapped (s_refreshed lifetime) = Extended lifetime
answer_of mapped s_done = Done
answer_of mapped (s_refused code) = Refused code

-- data from the client at the server, without DONT-FRAGMENT; data from the server at the client
abbrev pub at_server : FiveTuple → Output → ServerEvent
at_server tuple (send_to peer bytes) = s_sends tuple peer false bytes
at_server tuple (send_on number bytes) = s_sends_on tuple number bytes
at_server tuple (asks r others) = s_ticks
at_server tuple (shows peer bytes) = s_ticks
at_server tuple nothing = s_ticks

abbrev pub at_client : (server : Endpoint) → ServerOutput → Event
at_client server (to_client tuple peer bytes) = gives server peer bytes
at_client server (to_client_on tuple number bytes) = gives_on server number bytes
at_client server (s_answers tuple answer) = strays server
at_client server (to_peer socket peer dont_fragment bytes) = strays server
at_client server (to_client_icmp tuple peer icmp) = strays server
at_client server s_nothing = strays server

-- The server answered the request that asks for this so, no earlier than it was first sent. `shown` is what the
-- server's clock shows at each moment of the client's
pub record Answers (shown : ℕ → ℕ) (tuple : FiveTuple) (user : ℕ) (r : Request) (answer : Answer)
    (h : ServerHappening) : Type 0 where
  pub wanted : Option ℕ
  pub want : Want
  pub mapped : Endpoint
  pub given : ServerAnswer
  pub first : Request
  pub others : List Endpoint
  pub part : IsPartOf first others r
  pub asked : h.event ≡ s_asks tuple user (request_of wanted first.id want others first.kind)
  pub answered : h.output ≡ s_answers tuple given
  pub same : answer ≡ answer_of mapped given
  pub after : shown r.since ≤ h.moment

-- a success response
abbrev pub is_success : Answer → Bool
is_success (Opened relayed mapped lifetime) = true
is_success (Extended lifetime) = true
is_success Done = true
is_success (Refused code) = false
is_success (Challenged code challenge) = false
is_success (Redirected server) = false
is_success Violated = false

-- Each success response that the client accepts as authentic is one that the server gave to that
-- request. So nobody else has the key
abbrev pub IsLinked : (shown : ℕ → ℕ) → Setup → List Happening → List ServerHappening → FiveTuple
    → (user : ℕ) → Type 0
IsLinked shown setup hs there tuple user = (r : Request) (answer : Answer)
    → is_success answer ≡ true → Confirmed setup.server (λ q a. (q ≡ r) × (a ≡ answer)) hs
    → ServerHappened (Answers shown tuple user r answer) there

-- both clocks show the same
abbrev pub one_clock : ℕ → ℕ
one_clock moment = moment

-- the server's own warrants for relaying: a permission, and a channel
abbrev pub ServerPermits : List ServerHappening → FiveTuple → (user : ℕ) → Ip → (now : ℕ) → Type 0
ServerPermits there tuple user ip now = ServerHappened (PermitsThere tuple user ip now) there

abbrev pub ServerBinds : List ServerHappening → FiveTuple → (user number : ℕ) → Endpoint → (now : ℕ)
    → Type 0
ServerBinds there tuple user number peer now =
    ServerHappened (BindsThere tuple user number peer now) there

-- the lifetime that the server's response grants
abbrev pub granted_there : ServerAnswer → Option ℕ
granted_there (s_allocated given lifetime missing) = Some lifetime
granted_there (s_refreshed lifetime) = Some lifetime
granted_there s_done = None
granted_there (s_refused code) = None

-- the server granted a lifetime that hasn't expired
pub record LastsThere (tuple : FiveTuple) (user now : ℕ) (h : ServerHappening) : Type 0 where
  pub request : ServerRequest
  pub asked : h.event ≡ s_asks tuple user request
  pub given : ServerAnswer
  pub answered : h.output ≡ s_answers tuple given
  pub lifetime : ℕ
  pub granted : granted_there given ≡ Some lifetime
  pub in_time : now < h.moment + seconds lifetime

abbrev pub ServerLasts : List ServerHappening → FiveTuple → (user now : ℕ) → Type 0
ServerLasts there tuple user now = ServerHappened (LastsThere tuple user now) there

-- by the server's history, the allocation and each granted permission of a peer that isn't over
-- are live
abbrev pub KeepsPeer : List ServerHappening → FiveTuple → (user now : ℕ) → Peer → Type 0
KeepsPeer there tuple user now p =
    p.over ≡ false → 0 < p.expires_at → ServerPermits there tuple user p.address.ip now

pub record ServerKeeps (there : List ServerHappening) (tuple : FiveTuple) (user : ℕ) (state : State)
    : Type 0 where
  pub allocation : ServerLasts there tuple user state.clock
  pub peers : AllByRecursion (KeepsPeer there tuple user state.clock) state.peers

-- if the server sends a peer's data on a channel, the client has that channel for this very peer
abbrev pub IsAgreed : Setup → State → (now : ℕ) → Endpoint → ServerOutput → Type 0
IsAgreed setup state now peer output = (tuple : FiveTuple) (number : ℕ) (bytes : List ℕ)
    → output ≡ to_client_on tuple number bytes
    → option_map_or (λ p. p.address) (find (hears now number state.peers) state.peers) setup.server
    ≡ peer

-- the conclusion of the server's law `what_is_permitted_works`, both ways, for one socket
pub record Works (server : ServerSetup) (earlier : List ServerTimed) (now : ℕ) (rules : Rules)
    (tuple : FiveTuple) (peer : Endpoint) : Type 0 where
  pub number : ℕ
  pub out : (bytes : List ℕ)
      → output_there server earlier now rules (s_sends tuple peer false bytes)
      ≡ to_peer number peer false bytes
  pub back : (bytes : List ℕ) → Reaches tuple peer bytes
      (output_there server earlier now rules (s_arrives number peer bytes))

-- the server responds, and this is the client's answer
pub record IsHeard (mapped : Endpoint) (tuple : FiveTuple) (answer : Answer) (output : ServerOutput)
    : Type 0 where
  pub given : ServerAnswer
  pub answered : output ≡ s_answers tuple given
  pub heard : answer_of mapped given ≡ answer
