-- What warrants that something is sent or shown, in terms of the events, outputs and moments
-- before it, and not of the client's state.
use Rattle.std.specs.Prelude.{◌≡◌, ℕ, ◌+◌, ◌<◌, Bool, true, false, ◌⊎◌, List, [], ◌∷◌, Option, None, Some}
use Rattle.std.specs.List.{AllByRecursion}
use Rattle.turn_machine.specs.Lists.{SomeOf}
use Rattle.turn_client_machine.specs.Clients.{Ip, Endpoint, is_ip, is_endpoint, seconds, Setup, Kind, Allocate, Refresh, Delete, Permit, Bind, Request}
use Rattle.turn_client_machine.specs.Events.{Answer, Opened, Extended, Done, Event, permits, binds, sends, responds, gives, gives_on, polls, Output, asks, send_to, send_on, shows, nothing}
use Rattle.turn_client_machine.specs.Runs.{Happening, Happened}

-- a request asks for this: itself, or a permission for another peer that it names (10.1)
pub record IsAlong (first : Request) (others : List Endpoint) (r : Request) : Type 0 where
  pub peer : Endpoint
  pub kind : first.kind ≡ Permit peer
  pub named : SomeOf (λ other. r ≡ record first { kind = Permit other }) others

abbrev pub IsPartOf : (first : Request) → (others : List Endpoint) → Request → Type 0
IsPartOf first others r = (r ≡ first) ⊎ IsAlong first others r

abbrev pub AsksFor : Request → Output → Type 0
AsksFor r (asks first others) = IsPartOf first others r
AsksFor r (send_to peer bytes) = ⊥
AsksFor r (send_on number bytes) = ⊥
AsksFor r (shows peer bytes) = ⊥
AsksFor r nothing = ⊥

-- it was first sent at this happening, alone or in a request that names several peers
pub record Asks (r : Request) (h : Happening) : Type 0 where
  pub asked : AsksFor r h.output
  pub then : r.since ≡ h.moment

-- the whole request was first sent
pub record Sends (first : Request) (others : List Endpoint) (h : Happening) : Type 0 where
  pub asked : h.output ≡ asks first others
  pub then : first.since ≡ h.moment

-- an authentic response from the server to a request that this client sent before
pub record Confirms (server : Endpoint) (P : Request → Answer → Type 0) (h : Happening)
    (earlier : List Happening) : Type 0 where
  pub request : Request
  pub answer : Answer
  pub from : Endpoint
  pub is_server : is_endpoint from server ≡ true
  pub sent : Happened (Asks request) earlier
  pub responded : h.event ≡ responds from request.id true answer
  pub holds : P request answer

abbrev pub Confirmed : (server : Endpoint) → (P : Request → Answer → Type 0) → List Happening
    → Type 0
Confirmed server P [] = ⊥
Confirmed server P (h ∷ earlier) = Confirms server P h earlier ⊎ Confirmed server P earlier

-- the lifetime that a response grants, in seconds
abbrev pub lifetime_of : Kind → Answer → Option ℕ
lifetime_of Allocate (Opened relayed mapped lifetime) = Some lifetime
lifetime_of Refresh (Extended lifetime) = Some lifetime
lifetime_of kind answer = None

-- the allocation hasn't expired
pub record Lasts (now : ℕ) (r : Request) (answer : Answer) : Type 0 where
  pub lifetime : ℕ
  pub granted : lifetime_of r.kind answer ≡ Some lifetime
  pub in_time : now < r.since + seconds lifetime

-- whether a request names an IP address
abbrev pub names : Ip → Kind → Bool
names ip Allocate = false
names ip Refresh = false
names ip Delete = false
names ip (Permit peer) = is_ip ip peer.ip
names ip (Bind number peer) = is_ip ip peer.ip

-- within the last 300 seconds a request named this IP address, and succeeded
pub record Permits (ip : Ip) (now : ℕ) (r : Request) (answer : Answer) : Type 0 where
  pub named : names ip r.kind ≡ true
  pub success : answer ≡ Done
  pub in_time : now < r.since + seconds 300

-- within the last 600 seconds a request bound this channel to this very peer, and succeeded
pub record Binds (number : ℕ) (peer : Endpoint) (now : ℕ) (r : Request) (answer : Answer) : Type 0
  where
    pub kind : r.kind ≡ Bind number peer
    pub success : answer ≡ Done
    pub in_time : now < r.since + seconds 600

-- the user asks for this peer
abbrev pub NamesPeer : Endpoint → Happening → Type 0
NamesPeer peer h = (h.event ≡ permits peer) ⊎ (h.event ≡ binds peer)

-- the user asked for a peer with this IP address, and the server permits it
pub record IsPermitted (server : Endpoint) (ip : Ip) (now : ℕ) (earlier : List Happening)
    : Type 0 where
  pub peer : Endpoint
  pub ip_is : is_ip ip peer.ip ≡ true
  pub named : Happened (NamesPeer peer) earlier
  pub permitted : Confirmed server (Permits ip now) earlier

-- the user asked for this very peer, and the server has bound the channel to it
pub record IsBound (server : Endpoint) (number : ℕ) (peer : Endpoint) (now : ℕ)
    (earlier : List Happening) : Type 0 where
  pub named : Happened (NamesPeer peer) earlier
  pub bound : Confirmed server (Binds number peer now) earlier

-- the user asked for this very peer, and the client sent a ChannelBind request with this number
-- for it
pub record IsAskedFor (number : ℕ) (peer : Endpoint) (earlier : List Happening) : Type 0 where
  pub named : Happened (NamesPeer peer) earlier
  pub request : Request
  pub kind : request.kind ≡ Bind number peer
  pub sent : Happened (Asks request) earlier

-- a request for a peer is for one that the user asked for
abbrev pub IsWanted : List Happening → Kind → Type 0
IsWanted earlier Allocate = Unit {0}
IsWanted earlier Refresh = Unit {0}
IsWanted earlier Delete = Unit {0}
IsWanted earlier (Permit peer) = Happened (NamesPeer peer) earlier
IsWanted earlier (Bind number peer) = Happened (NamesPeer peer) earlier

-- Each output is one of these: a request, at a poll, for no peer but the user's; data of the user
-- to a peer, by a permission, or by a channel of this very peer and a permission, while the
-- allocation lasts; a peer's data to the user, from the server's own address: in a Data
-- indication, with a permission of the peer's IP address; on a channel of this very peer; or on
-- one that a request asked for, with a permission
abbrev pub IsRight : Setup → List Happening → (now : ℕ) → Event → Output → Type 0
IsRight setup earlier now event (asks r others) =
    (event ≡ polls) × IsWanted earlier r.kind
    × AllByRecursion (λ peer. Happened (NamesPeer peer) earlier) others
IsRight setup earlier now event (send_to peer bytes) =
    (event ≡ sends peer bytes) × Confirmed setup.server (Lasts now) earlier
    × IsPermitted setup.server peer.ip now earlier
IsRight setup earlier now event (send_on number bytes) =
    (peer : Endpoint) × (event ≡ sends peer bytes) × Confirmed setup.server (Lasts now) earlier
    × IsPermitted setup.server peer.ip now earlier × IsBound setup.server number peer now earlier
IsRight setup earlier now event (shows peer bytes) =
    (from : Endpoint) × (is_endpoint from setup.server ≡ true)
    × (((event ≡ gives from peer bytes) × IsPermitted setup.server peer.ip now earlier)
    ⊎ ((number : ℕ) × (event ≡ gives_on from number bytes)
    × (IsBound setup.server number peer now earlier
    ⊎ (IsAskedFor number peer earlier × IsPermitted setup.server peer.ip now earlier))))
IsRight setup earlier now event nothing = Unit {0}
