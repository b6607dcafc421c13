-- Two agents that are passed each other's datagrams, in rounds as `ice_machine` has them in events.
use Rattle.std.specs.Prelude.{◌≡◌, ℕ, zero, suc, ◌+◌, ◌^◌, ◌<◌, ◌≤◌, List, [], ◌∷◌, Option, None, Some, nat_lt, if◌then◌else◌}
use Rattle.std.specs.List.{AllByRecursion}
use Rattle.std.specs.Option.{option_map_or}
use Rattle.stun_grammar.specs.Numbers.{IsBytes}
use Rattle.stun_endpoints.specs.declared.endpoints.Endpoint.{Endpoint}
use Rattle.ice_machine.specs.declared.messages.Request.{Request}
use Rattle.ice_machine.specs.Agents.{State, pace, seconds}
use Rattle.ice_machine.specs.Events.{sends, polls, Output, asks, answers, data_to}
use Rattle.ice_machine.specs.Meetings.{End, IsFit, Meeting as Machines}
use Rattle.ice_machine.specs.Networks.{Agents, Network, Place, nowhere}
use Rattle.ice_agent_state.specs.Agents.{output_at}
use Rattle.ice_checks.specs.declared.judged.Judged.{Judged}
use Rattle.ice_checks.specs.Views.{Login}
use Rattle.ice_agent.specs.Agents.{Agent, passes}
use Rattle.ice_agent.specs.Receiving.{Reply, event_at, judged, received, reply_text, reply_to}
use Rattle.ice_agent.specs.Runs.{Call, calls, learns_peer, takes, Moment, after_all, timed_all}
use Rattle.ice_agent.specs.Sending.{request_text}
use Rattle.ice_exchanges.specs.Datagrams.{IsPeers}
use Rattle.ice_exchanges.specs.Peers.{AreShort, IsTransport, Knows}

-- ---- A turn

pub record Both : Type 0 where
  pub one : Agent
  pub other : Agent

abbrev pub swapped : Both → Both
swapped both = record { one = both.other; other = both.one }

-- the bytes of a request; the peer's credentials are known then
abbrev pub bytes_of : Agent → Request → List ℕ
bytes_of agent r = option_map_or (λ peer. request_text agent peer r) agent.logins.peer []

-- what an agent answers a datagram with
abbrev pub reply_by : Agent → List ℕ → Judged → Output → Option Reply
reply_by agent d judged (answers base to id answer) = reply_to agent d judged answer
reply_by agent d judged _ = None

abbrev pub reply_at : Agent → (now base : ℕ) → (from : Endpoint) → List ℕ → Option Reply
reply_at agent now base from d =
    reply_by agent d (judged agent base from d) (output_at now 0 (event_at agent base from d) agent.held)

-- the response reaches the agent that sent the request
abbrev pub takes_back : (now anew : ℕ) → Request → Agent → Agent → Option Reply → Both
takes_back now anew r own peer None = record { one = own; other = peer }
takes_back now anew r own peer (Some reply) =
    record { one = received now anew r.base r.to (reply_text reply) own; other = peer }

-- the request reaches the other agent at a place, or is lost
abbrev pub crosses : (now anew : ℕ) → Request → Agent → Agent → Option Place → Both
crosses now anew r own peer None = record { one = own; other = peer }
crosses now anew r own peer (Some place) =
    let d = bytes_of own r in
    takes_back now anew r own (received now 0 place.base place.from d peer)
    (reply_at peer now place.base place.from d)

abbrev pub goes : (ℕ → Endpoint → Option Place) → (now anew : ℕ) → Agent → Agent → Output → Both
goes net now anew own peer (asks r) = crosses now anew r own peer (net r.base r.to)
goes net now anew own peer _ = record { one = own; other = peer }

-- an agent polls, the other one responds, and the response is received
abbrev pub turn : (ℕ → Endpoint → Option Place) → (now fresh anew : ℕ) → Agent → Agent → Both
turn net now fresh anew own peer =
    goes net now anew (passes now fresh polls own) peer (output_at now fresh polls own.held)

-- one polls, and then the other; `fresh` gives the round's four random numbers
abbrev pub round : Network → (now : ℕ) → (fresh : ℕ → ℕ) → Both → Both
round net now fresh both =
    let first = turn net.there now (fresh 0) (fresh 1) both.one both.other in
    swapped (turn net.back now (fresh 2) (fresh 3) first.other first.one)

-- ---- A run

-- as `ice_machine`'s, but that what comes to an agent besides are calls and datagrams
pub record Meeting : Type 0 where
  pub net : Network
  pub lost : ℕ
  pub one_end : End
  pub other_end : End
  pub moment : ℕ → ℕ
  pub fresh : ℕ → ℕ → ℕ
  pub one_noise : ℕ → List Moment
  pub other_noise : ℕ → List Moment

abbrev pub noisy : Meeting → (n : ℕ) → Both → Both
noisy m n both = record {
  one = after_all both.one (m.one_noise n);
  other = after_all both.other (m.other_noise n);
}

abbrev pub net_at : Meeting → (n : ℕ) → Network
net_at m n = if nat_lt n m.lost then nowhere else m.net

-- after so many rounds
abbrev pub after : Meeting → (n : ℕ) → Both → Both
after m zero both = both
after m (suc n) both = round (net_at m n) (m.moment n) (m.fresh n) (noisy m n (after m n both))

-- ---- The machines in it

abbrev pub machines : Both → Agents
machines both = record { one = both.one.held.state; other = both.other.held.state }

abbrev pub in_machines : Meeting → Both → Machines
in_machines m both = record {
  one_setup = both.one.held.setup;
  other_setup = both.other.held.setup;
  net = m.net;
  lost = m.lost;
  one_end = m.one_end;
  other_end = m.other_end;
  moment = m.moment;
  fresh = m.fresh;
  one_noise = λ n. timed_all (after m n both).one (m.one_noise n);
  other_noise = λ n. timed_all (after m n both).other (m.other_noise n);
}

-- ---- Its premises

-- a datagram that isn't the peer's, or the user's data
abbrev pub IsNoise : Agent → Call → Type 0
IsNoise agent (calls event) = (component : ℕ) × (bytes : List ℕ) × (event ≡ sends component bytes)
IsNoise agent (learns_peer peer) = ⊥
IsNoise agent (takes base from d) = IsBytes d × (IsPeers agent.logins d → ⊥)

abbrev pub AreNoise : (until : ℕ) → Agent → List Moment → Type 0
AreNoise until agent [] = Unit {0}
AreNoise until agent (m ∷ earlier) =
    IsNoise (after_all agent earlier) m.call × (m.now ≤ until) × AreNoise until agent earlier

-- the numbers fit their fields, as the types of the code guarantee
pub record IsNumbered (s : State) : Type 0 where
  pub tiebreaker : s.tiebreaker < 2 ^ 64
  pub bases : AllByRecursion (λ b. b.reflexive_priority < 2 ^ 32) s.bases
  pub pairs : AllByRecursion (λ p. p.reflexive_priority < 2 ^ 32) s.pairs

-- an agent that has its peer's credentials
pub record IsPaired (own peer : Agent) : Type 0 where
  pub login : Login
  pub knows : Knows own.logins login peer.logins
  pub short : AreShort own.logins login own.software

-- each network address is one, and what one agent sends on the way arrives at the other, and the other way round;
-- rounds are at least Ta of both apart, and at most 20 seconds; and transaction IDs have 96 bits
pub record IsMeeting (m : Meeting) (both : Both) : Type 0 where
  pub one_paired : IsPaired both.one both.other
  pub other_paired : IsPaired both.other both.one
  pub one_numbered : IsNumbered both.one.held.state
  pub other_numbered : IsNumbered both.other.held.state
  pub one_fit : IsFit both.one.held.setup
  pub other_fit : IsFit both.other.held.setup
  pub there : m.net.there m.one_end.base m.one_end.to
      ≡ Some (record { base = m.other_end.base; from = m.other_end.to })
  pub back : m.net.back m.other_end.base m.other_end.to
      ≡ Some (record { base = m.one_end.base; from = m.one_end.to })
  pub there_places : (base : ℕ) (to : Endpoint) (place : Place) → m.net.there base to ≡ Some place
      → IsTransport place.from
  pub back_places : (base : ℕ) (to : Endpoint) (place : Place) → m.net.back base to ≡ Some place
      → IsTransport place.from
  pub one_paced : (n : ℕ) → m.moment n + pace both.one.held.setup ≤ m.moment (suc n)
  pub other_paced : (n : ℕ) → m.moment n + pace both.other.held.setup ≤ m.moment (suc n)
  pub steady : (n : ℕ) → m.moment (suc n) ≤ m.moment n + seconds 20
  pub fresh : (n k : ℕ) → m.fresh n k < 2 ^ 96
  pub one_noise : (n : ℕ) → AreNoise (m.moment n) (after m n both).one (m.one_noise n)
  pub other_noise : (n : ℕ) → AreNoise (m.moment n) (after m n both).other (m.other_noise n)

-- ---- What it is

-- the user's data is sent on the way, until a moment
abbrev pub Reaches : Agent → End → (now : ℕ) → Type 0
Reaches agent e now = (t fresh : ℕ) (bytes : List ℕ) → t ≤ now
    → output_at t fresh (sends e.component bytes) agent.held ≡ data_to e.base e.to bytes

abbrev pub HaveMet : Meeting → (n : ℕ) → Both → Type 0
HaveMet m n both = Reaches both.one m.one_end (m.moment n) × Reaches both.other m.other_end (m.moment n)
