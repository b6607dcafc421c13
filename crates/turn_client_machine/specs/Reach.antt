-- The premises under which data reaches the other side: a client and a server whose requests,
-- responses and clocks belong together.
use Rattle.std.specs.Prelude.{◌≡◌, ℕ, ◌+◌, ◌<◌, ◌≤◌, Bool, true, false, ◌&&◌, ◌||◌, nat_lt, ◌==◌, List, [], ◌∷◌, ◌++◌, Option, None, Some}
use Rattle.std.specs.List.{AllByRecursion, list_any}
use Rattle.stun_endpoints.specs.declared.endpoints.FiveTuple.{FiveTuple}
use Rattle.turn_machine.specs.Lists.{SomeOf}
use Rattle.turn_machine.specs.Events.{Want, Request as ServerRequest, asks as s_asks, to_peer}
use Rattle.turn_machine.specs.Relays.{Setup as ServerSetup, Rules, is_owned}
use Rattle.turn_machine.specs.Times.{granted_for}
use Rattle.turn_machine.specs.Runs.{Timed as ServerTimed, Happening as ServerHappening, run as s_run, happening as s_happening}
use Rattle.turn_machine.specs.Warrants.{Opens, is_ended}
use Rattle.turn_machine.specs.Works.{output_of as output_there}
use Rattle.turn_client_machine.specs.Clients.{Endpoint, is_ip, seconds, Setup, Allocate, Bind, Request, Peer, State, is_allocated, is_peer, is_binding}
use Rattle.turn_client_machine.specs.Events.{Output}
use Rattle.turn_client_machine.specs.Lasting.{IsInTime}
use Rattle.turn_client_machine.specs.Runs.{Happening, Happened}
use Rattle.turn_client_machine.specs.Warrants.{Asks, Sends}
use Rattle.turn_client_machine.specs.Joined.{request_of, IsLinked, at_server}

-- the happenings of a server since then, after earlier events
abbrev pub happened_since : ServerSetup → (since earlier : List ServerTimed) → List ServerHappening
happened_since server [] earlier = []
happened_since server (timed ∷ since) earlier =
    s_happening server (s_run server (since ++ earlier)) timed ∷ happened_since server since earlier

-- The client had sent this request by then, an Allocate request less than 9 minutes before
pub record IsOwn (shown : ℕ → ℕ) (wanted : Option ℕ) (hs : List Happening) (moment : ℕ)
    (request : ServerRequest) : Type 0 where
  pub r : Request
  pub others : List Endpoint
  pub want : Want
  pub sent : Happened (Sends r others) hs
  pub same : request ≡ request_of wanted r.id want others r.kind
  pub after : shown r.since ≤ moment
  pub soon : r.kind ≡ Allocate → moment < shown r.since + seconds 540

-- Each request of this user from this 5-tuple is one that this client sent
abbrev pub IsAlone : (shown : ℕ → ℕ) → (wanted : Option ℕ) → List Happening → List ServerHappening
    → FiveTuple → (user : ℕ) → Type 0
IsAlone shown wanted hs there tuple user =
    AllByRecursion (λ h. (request : ServerRequest) → h.event ≡ s_asks tuple user request
    → IsOwn shown wanted hs h.moment request) there

-- The server's operator doesn't end a relayed address of this client, nor all that its user has
abbrev pub IsSpared : List ServerHappening → FiveTuple → (user : ℕ) → Type 0
IsSpared there tuple user = (family number : ℕ) → SomeOf (Opens tuple user family number) there
    → AllByRecursion (λ h. is_ended user number h.event ≡ false) there

-- the LIFETIME of the requests isn't 0, which would delete the allocation (8.1)
abbrev pub IsLifetime : Option ℕ → Type 0
IsLifetime None = Unit {0}
IsLifetime (Some n) = 0 < n

-- The server's clock, at each moment of the client's, never goes back, and gains at most `drift`
-- within a span of the client's
pub record IsSteady (shown : ℕ → ℕ) (drift span : ℕ) : Type 0 where
  pub later : (s t : ℕ) → s ≤ t → shown s ≤ shown t
  pub even : (s t : ℕ) → s ≤ t → t < s + span → shown t + s ≤ shown s + t + drift

-- The premises on both runs: the server had no allocation of this client earlier; since then, each
-- request that it accepted as this client's was, and each success that the client accepted was the
-- server's
pub record IsJoined (setup : Setup) (hs : List Happening) (server : ServerSetup)
    (since earlier : List ServerTimed) (tuple : FiveTuple) (user : ℕ) : Type 0 where
  -- the LIFETIME of the client's requests
  pub wanted : Option ℕ
  pub is_lifetime : IsLifetime wanted
  -- what the server's clock shows, which gains less than 20 seconds in a lifetime
  pub shown : ℕ → ℕ
  pub drift : ℕ
  pub steady : IsSteady shown drift (seconds (granted_for wanted server.greatest_lifetime))
  pub small : drift < seconds 20
  pub unknown : list_any (is_owned tuple user) (s_run server earlier).relays ≡ false
  pub linked : IsLinked shown setup hs (happened_since server since earlier) tuple user
  pub alone : IsAlone shown wanted hs (happened_since server since earlier) tuple user
  pub spared : IsSpared (happened_since server since earlier) tuple user

-- Data arrives at the server at a moment of its clock; the time under way and the server's drift
-- are at most `slack` together
abbrev pub Arrives : (shown : ℕ → ℕ) → (drift slack clock moment : ℕ) → Type 0
Arrives shown drift slack clock moment = moment + drift ≤ shown clock + slack

-- ---- To a peer

-- the socket of the client's allocation, by its number and address: the client's first Allocate
-- request that succeeded was answered with them
pub record IsSocket (tuple : FiveTuple) (user number : ℕ) (relayed : Endpoint)
    (there : List ServerHappening) : Type 0 where
  pub family : ℕ
  pub since : List ServerHappening
  pub opening : ServerHappening
  pub before : List ServerHappening
  pub split : there ≡ since ++ opening ∷ before
  pub opens : Opens tuple user family number opening
  pub address : SomeOf (λ g. (g.number ≡ number) × (g.address ≡ relayed)) opens.given
  pub first : AllByRecursion (λ h. (f n : ℕ) → Opens tuple user f n h → ⊥) before

-- the server sends the data to the peer, exactly, from the client's relayed address
pub record IsRelayed (server : ServerSetup) (since earlier : List ServerTimed) (rules : Rules)
    (tuple : FiveTuple) (user : ℕ) (relayed : Endpoint) (moment : ℕ) (peer : Endpoint)
    (bytes : List ℕ) (output : Output) : Type 0 where
  pub number : ℕ
  pub socket : IsSocket tuple user number relayed (happened_since server since earlier)
  pub sent : output_there server (since ++ earlier) moment rules (at_server tuple output)
      ≡ to_peer number peer false bytes

-- the server has permitted this peer, and the client hasn't given it up
abbrev pub IsUsable : Endpoint → Peer → Type 0
IsUsable named p = is_peer named p ≡ true → (p.over ≡ false) × (0 < p.expires_at)

-- The client has an allocation and a permission for the peer's IP address, by a peer at whatever
-- port; and nothing has been due for longer than `late`. Lateness and slack are less than 20
-- seconds together
pub record IsPunctual (late slack : ℕ) (named peer : Endpoint) (state : State) : Type 0 where
  pub allocation : is_allocated state.phase ≡ true
  pub known : list_any (is_peer named) state.peers ≡ true
  pub same : is_ip peer.ip named.ip ≡ true
  pub usable : AllByRecursion (IsUsable named) state.peers
  pub in_time : IsInTime late state
  pub soon : late + slack < seconds 20

-- ---- From a peer

-- this very peer has this channel, live or with its request under way
abbrev pub is_settled : (clock number : ℕ) → Endpoint → Peer → Bool
is_settled clock number address p =
    is_peer address p && ((p.number == number)
    && (nat_lt clock p.channel_expires_at || is_binding p))

-- each channel for which the client has sent a request for the peer is still the peer's, and live
-- or with its request under way
abbrev pub IsSettled : List Happening → Endpoint → State → Type 0
IsSettled hs peer state = (r : Request) (number : ℕ) → Happened (Asks r) hs
    → r.kind ≡ Bind number peer
    → list_any (is_settled state.clock number peer) state.peers ≡ true
