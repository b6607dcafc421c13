-- What warrants that a datagram is relayed, in terms of the events, outputs and moments before it,
-- and not of the server's state.
use Rattle.std.specs.Prelude.{◌≡◌, ℕ, ◌+◌, ◌<◌, ◌≤◌, ◌==◌, ◌&&◌, ◌||◌, if◌then◌else◌, Bool, true, false, ◌⊎◌, List, [], ◌∷◌, ◌++◌, Option, None, Some}
use Rattle.std.specs.List.{list_any}
use Rattle.std.specs.Option.{option_map_or}
use Rattle.stun_endpoints.specs.declared.endpoints.Ip.{Ip}
use Rattle.stun_endpoints.specs.declared.endpoints.Endpoint.{Endpoint}
use Rattle.stun_endpoints.specs.declared.endpoints.FiveTuple.{FiveTuple}
use Rattle.stun_endpoints.specs.Endpoints.{is_ip, is_tuple}
use Rattle.turn_machine.specs.Lists.{SomeOf, SomeSince}
use Rattle.turn_machine.specs.Relays.{seconds, Setup, Rules}
use Rattle.turn_machine.specs.Events.{Want, Request, allocate, unfit_allocate, refresh, permit, bind, unfit, Event, asks, sends, sends_on, arrives, bounces, ends, ends_user, Given, Missing, allocated, refreshed, done, Output, answers, to_peer, to_client, to_client_on, to_client_icmp, nothing}
use Rattle.turn_machine.specs.Runs.{Happening}

-- ---- The lifetime of a relayed address

-- this user's Allocate request from this client was answered with a relayed address of this family,
-- under this number
pub record Opens (tuple : FiveTuple) (user family number : ℕ) (h : Happening) : Type 0 where
  pub id : ℕ
  pub lifetime : Option ℕ
  pub wants : List Want
  pub asked : h.event ≡ asks tuple user (allocate id lifetime wants)
  pub given : List Given
  pub granted : ℕ
  pub missing : List Missing
  pub answered : h.output ≡ answers tuple (allocated given granted missing)
  pub has : SomeOf (λ g. (g.family ≡ family) × (g.number ≡ number)) given

-- whether a request is a Refresh request for this family
abbrev pub refreshes : (family : ℕ) → Request → Bool
refreshes family (refresh wanted lifetime) = option_map_or (λ f. family == f) wanted true
refreshes family (allocate id lifetime wants) = false
refreshes family (unfit_allocate code) = false
refreshes family (permit peers) = false
refreshes family (bind number peer) = false
refreshes family (unfit code) = false

abbrev pub is_refresh : FiveTuple → (user family : ℕ) → Event → Bool
is_refresh tuple user family (asks other owner request) =
    (is_tuple other tuple && (user == owner)) && refreshes family request
is_refresh tuple user family _ = false

abbrev pub refreshed_in : Output → Option ℕ
refreshed_in (answers tuple (refreshed lifetime)) = Some lifetime
refreshed_in _ = None

abbrev pub refreshed_to : FiveTuple → (user family : ℕ) → Happening → Option ℕ
refreshed_to tuple user family h =
    if is_refresh tuple user family h.event then refreshed_in h.output else None

-- whether the caller ends the relayed address
abbrev pub is_ended : (user number : ℕ) → Event → Bool
is_ended user number (ends n) = number == n
is_ended user number (ends_user u) = user == u
is_ended user number _ = false

-- The end of a relayed address: by the newest successful Refresh request since it was opened, or
-- else by the Allocate request. A Refresh with lifetime 0 ends it at once, and so does the caller
abbrev pub end_of : FiveTuple → (user family number first : ℕ) → List Happening → ℕ
end_of tuple user family number first [] = first
end_of tuple user family number first (h ∷ earlier) =
    if is_ended user number h.event then 0
    else option_map_or (λ lifetime. h.moment + seconds lifetime) (refreshed_to tuple user family h)
    (end_of tuple user family number first earlier)

-- ---- Permissions and channels

-- whether a request names an IP address, and so asks for a permission for it
abbrev pub names : Ip → Request → Bool
names ip (permit peers) = list_any (λ peer. is_ip ip peer.ip) peers
names ip (bind number peer) = is_ip ip peer.ip
names ip (allocate id lifetime wants) = false
names ip (unfit_allocate code) = false
names ip (refresh family lifetime) = false
names ip (unfit code) = false

-- Within the last 300 seconds a request of this user from this client named this IP address and
-- succeeded, and the rules then in force allowed the address
pub record Permits (tuple : FiveTuple) (user : ℕ) (ip : Ip) (now : ℕ) (h : Happening) : Type 0 where
  pub request : Request
  pub asked : h.event ≡ asks tuple user request
  pub named : names ip request ≡ true
  pub allowed : h.rules.allows_ip ip ≡ true
  pub succeeded : h.output ≡ answers tuple done
  pub came : h.moment ≤ now
  pub lasts : now < h.moment + seconds 300

-- within the last 600 seconds one bound this channel to this peer
pub record Binds (tuple : FiveTuple) (user channel : ℕ) (peer : Endpoint) (now : ℕ)
    (h : Happening) : Type 0 where
  pub asked : h.event ≡ asks tuple user (bind channel peer)
  pub allowed : (h.rules.allows_ip peer.ip && h.rules.allows_port peer) ≡ true
  pub succeeded : h.output ≡ answers tuple done
  pub came : h.moment ≤ now
  pub lasts : now < h.moment + seconds 600

-- within the last 600 seconds one bound a channel to a peer with this IP address
pub record BindsTo (tuple : FiveTuple) (user : ℕ) (ip : Ip) (now : ℕ) (h : Happening) : Type 0 where
  pub channel : ℕ
  pub peer : Endpoint
  pub ip_is : peer.ip ≡ ip
  pub binds : Binds tuple user channel peer now h

-- a CreatePermission request of this user from this client named this IP address and succeeded
pub record Renews (tuple : FiveTuple) (user : ℕ) (ip : Ip) (h : Happening) : Type 0 where
  pub peers : List Endpoint
  pub asked : h.event ≡ asks tuple user (permit peers)
  pub named : names ip (permit peers) ≡ true
  pub succeeded : h.output ≡ answers tuple done

-- Within the last 300 seconds a request named the peer's IP address. Or, if channels permit as long as
-- they last, one bound a channel to a peer with this IP address within the last 600, and no
-- CreatePermission request has named the address since
abbrev pub ArePermitting : Setup → FiveTuple → Endpoint → (now user : ℕ) → List Happening → Type 0
ArePermitting setup tuple peer now user since =
    SomeOf (Permits tuple user peer.ip now) since
    ⊎ ((setup.channel_permits ≡ true)
    × SomeSince (BindsTo tuple user peer.ip now) (λ h. ¬ (Renews tuple user peer.ip h)) since)

abbrev pub AreBinding : FiveTuple → (channel : ℕ) → Endpoint → (now user : ℕ) → List Happening
    → Type 0
AreBinding tuple channel peer now user since = SomeOf (Binds tuple user channel peer now) since

-- the types of ICMP that are relayed (11.5)
abbrev pub is_reported : (family type_number : ℕ) → Bool
is_reported family n =
    if family == 1 then (n == 3) || (n == 11) else (n == 1) || ((n == 2) || (n == 3))

-- ---- Warrants

-- The exchange of data between a client and a peer, through a socket, is warranted: the user opened
-- the allocation and asked for the exchange since then, and the allocation hasn't ended
pub record IsWarranted (earlier : List Happening) (now : ℕ) (tuple : FiveTuple) (number : ℕ)
    (peer : Endpoint) (Asked : (user : ℕ) → List Happening → Type 0) : Type 0 where
  pub user : ℕ
  pub since : List Happening
  pub opening : Happening
  pub before : List Happening
  pub split : earlier ≡ since ++ opening ∷ before
  pub opens : Opens tuple user peer.ip.family number opening
  pub came : opening.moment ≤ now
  pub kept : now
      < end_of tuple user peer.ip.family number (opening.moment + seconds opens.granted) since
  pub asked : Asked user since

-- Each output is one of these: a response to the client that asked; data to a peer, from the client
-- that sent it; data or ICMP from a peer, to the client that owns the socket; or nothing. The rules
-- in force allow the peer
abbrev pub IsRight : Setup → List Happening → (now : ℕ) → Rules → Event → Output → Type 0
IsRight setup earlier now rules event (answers tuple answer) =
    (user : ℕ) × (request : Request) × (event ≡ asks tuple user request)
IsRight setup earlier now rules event (to_peer number peer dont_fragment bytes) =
    (tuple : FiveTuple) × ((rules.allows_ip peer.ip && rules.allows_port peer) ≡ true)
    × (((event ≡ sends tuple peer dont_fragment bytes)
    × (dont_fragment ≡ true → setup.supports_dont_fragment ≡ true)
    × IsWarranted earlier now tuple number peer (ArePermitting setup tuple peer now))
    ⊎ ((channel : ℕ) × (event ≡ sends_on tuple channel bytes) × (dont_fragment ≡ false)
    × IsWarranted earlier now tuple number peer (AreBinding tuple channel peer now)))
IsRight setup earlier now rules event (to_client tuple peer bytes) =
    (number : ℕ) × (event ≡ arrives number peer bytes) × (rules.allows_ip peer.ip ≡ true)
    × IsWarranted earlier now tuple number peer (ArePermitting setup tuple peer now)
IsRight setup earlier now rules event (to_client_on tuple channel bytes) =
    (number : ℕ) × (peer : Endpoint) × (event ≡ arrives number peer bytes)
    × (rules.allows_ip peer.ip ≡ true)
    × IsWarranted earlier now tuple number peer
    (λ user since. ArePermitting setup tuple peer now user since
    × AreBinding tuple channel peer now user since)
IsRight setup earlier now rules event (to_client_icmp tuple peer icmp) =
    (number : ℕ) × (event ≡ bounces number peer icmp) × (rules.allows_ip peer.ip ≡ true)
    × (setup.passes_icmp ≡ true) × (is_reported peer.ip.family icmp.type_number ≡ true)
    × IsWarranted earlier now tuple number peer (ArePermitting setup tuple peer now)
IsRight setup earlier now rules event nothing = Unit {0}
