-- Whole runs of a server by the datagrams that came, and which events of the machine they were.
use Rattle.std.specs.Prelude.{◌≡◌, ◌⊎◌, ℕ, Bool, ◌&&◌, true, false, List, [], ◌∷◌, Some}
use Rattle.stun_endpoints.specs.declared.endpoints.Endpoint.{Endpoint}
use Rattle.stun_endpoints.specs.declared.endpoints.FiveTuple.{FiveTuple}
use Rattle.turn_machine.specs.Relays.{Setup, Rules}
use Rattle.turn_machine.specs.Events.{Request, Icmp, arrives, bounces, asks, ends, ends_user, ticks}
use Rattle.turn_machine.specs.Runs.{Happening, initial_state, happening, history}
use Rattle.turn_machine.specs.Times.{at}
use Rattle.turn_machine.specs.Reserving.{OuterState, Outer, plain, inner, outer_step, OuterTimed, inner_timed, inner_run}
use Rattle.turn_machine.specs.Warrants.{IsWarranted, ArePermitting, AreBinding}
use Rattle.turn_allocations.specs.declared.families.Families.{Families}
use Rattle.turn_attrs.specs.ChannelMessages.{data_in}
use Rattle.turn_server.specs.Indications.{sent_by, keeps_whole}
use Rattle.turn_server.specs.Judging.{Site, event_of, judge}
use Rattle.turn_server.specs.Judgments.{Asks, IsSend}
use Rattle.turn_server.specs.Wanted.{server_at}
use Rattle.turn_attrs.specs.Channels.{channel_field}

-- a client's datagram, at a moment at which the server is this, and the sockets that are used get these
-- numbers; a peer's datagram, at a socket; ICMP about a datagram that a socket sent to a peer; the end of a
-- relayed address, or of all that a user has; or time
pub data Arrival : Type 0 where
  of_client : Site → FiveTuple → (numbers : Families ℕ) → List ℕ → Arrival
  of_peer : (number : ℕ) → Endpoint → List ℕ → Arrival
  of_icmp : (number : ℕ) → Endpoint → Icmp → Arrival
  of_end : (number : ℕ) → Arrival
  of_user_end : (user : ℕ) → Arrival
  of_time : Arrival

-- and the caller's clock at it, and the rules in force
pub record Moment : Type 0 where
  pub now : ℕ
  pub rules : Rules
  pub arrival : Arrival

-- the event that it is, of a server at this moment
abbrev pub event_in : Setup → OuterState → Arrival → Outer
event_in setup h (of_client site tuple numbers d) =
    event_of tuple h numbers (judge setup.last_channel setup.supports_dont_fragment site d)
event_in setup h (of_peer number peer bytes) = plain (arrives number peer bytes)
event_in setup h (of_icmp number peer icmp) = plain (bounces number peer icmp)
event_in setup h (of_end number) = plain (ends number)
event_in setup h (of_user_end user) = plain (ends_user user)
event_in setup h of_time = plain ticks

-- what the server keeps: its relayed addresses, and its reservations
abbrev pub kept : Setup → List Moment → OuterState
kept setup [] = record { state = initial_state; held = [] }
kept setup (m ∷ earlier) =
    let h = kept setup earlier in
    (outer_step setup m.rules h m.now (event_in setup (server_at m.now h) m.arrival)).holding

-- the events, the newest first
abbrev pub events_in : Setup → List Moment → List OuterTimed
events_in setup [] = []
events_in setup (m ∷ earlier) =
    let outer = event_in setup (server_at m.now (kept setup earlier)) m.arrival in
    record { now = m.now; rules = m.rules; outer = outer } ∷ events_in setup earlier

-- what has happened, as events of the machine without reservations
abbrev pub past : Setup → List Moment → List Happening
past setup earlier = history setup (inner_run setup (events_in setup earlier))

-- what happens at a moment after these
abbrev pub happened : Setup → List Moment → Moment → Happening
happened setup earlier m =
    let h = kept setup earlier in
    let outer = event_in setup (server_at m.now h) m.arrival in
    happening setup h.state (inner_timed setup h record { now = m.now; rules = m.rules; outer = outer })

-- the clock at a moment after these
abbrev pub clock_at : Setup → List Moment → ℕ → ℕ
clock_at setup earlier now = (at now (kept setup earlier).state).clock

-- ---- What came

-- something that came, after these, is so
abbrev pub Came : (List Moment → Moment → Type 0) → List Moment → Type 0
Came P [] = ⊥
Came P (m ∷ earlier) = P earlier m ⊎ Came P earlier

-- it was a datagram of this client, and asks for this as a request of this user: it is authentic
pub record IsRequest (setup : Setup) (tuple : FiveTuple) (user : ℕ) (request : Request) (earlier : List Moment)
    (m : Moment) : Type 0 where
  pub site : Site
  pub numbers : Families ℕ
  pub datagram : List ℕ
  pub came : m.arrival ≡ of_client site tuple numbers datagram
  pub outer : Outer
  pub asked : Asks setup.supports_dont_fragment site (server_at m.now (kept setup earlier)) datagram tuple user outer
  pub request_is : let h = server_at m.now (kept setup earlier) in
      asks tuple user request ≡ inner setup h.state h.held outer

-- data of a datagram goes to a peer that the rules allow, with the DF bit or without: it is a Send indication
-- that names the peer, and has the bit if the server sets it and the indication shows DONT-FRAGMENT; or a
-- ChannelData message, without the bit; and that is warranted
abbrev pub IsRelayed : Setup → Rules → List Moment → (now : ℕ) → FiveTuple → List ℕ → (number : ℕ) → Endpoint
    → (dont_fragment : Bool) → List ℕ → Type 0
IsRelayed setup rules earlier now tuple d number peer dont_fragment bytes =
    ((rules.allows_ip peer.ip && rules.allows_port peer) ≡ true)
    × ((IsSend d × (sent_by setup.supports_dont_fragment d ≡ Some (peer, bytes))
    × (dont_fragment ≡ keeps_whole setup.supports_dont_fragment d)
    × IsWarranted (past setup earlier) (clock_at setup earlier now) tuple number peer
    (ArePermitting setup tuple peer (clock_at setup earlier now)))
    ⊎ ((data_in d ≡ Some bytes) × (dont_fragment ≡ false)
    × IsWarranted (past setup earlier) (clock_at setup earlier now) tuple number peer
    (AreBinding tuple (channel_field d) peer (clock_at setup earlier now))))
