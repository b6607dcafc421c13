-- What a server keeps by the datagrams that came is what the machine keeps by the events that they were.
use Rattle.std.proofs.Common.{◌≡◌, ℕ, List, [], ◌∷◌, inl, inr, refl, sym, ap, ◌∙◌}
use Rattle.stun_endpoints.specs.declared.endpoints.FiveTuple.{FiveTuple}
use Rattle.turn_machine.specs.Lists.{SomeOf}
use Rattle.turn_machine.specs.Relays.{Setup, State}
use Rattle.turn_machine.specs.Events.{Request, asks}
use Rattle.turn_machine.specs.Reserving.{OuterState, inner, outer_step, OuterTimed, outer_run, inner_timed, inner_run}
use Rattle.turn_machine.specs.Runs.{Happening, run, happening}
use Rattle.turn_allocations.specs.declared.families.Families.{Families}
use Rattle.turn_server.specs.Datagrams.{Arrival, of_client, of_peer, of_icmp, of_end, of_user_end, of_time, Moment, event_in, events_in, past, kept, happened, Came, IsRequest}
use Rattle.turn_server.specs.Judging.{Judged, dropped, binding, refused, unknown, sent, sent_on, asked, event_of, judge}
use Rattle.turn_server.proofs.JudgingLemmas.{judgment_is_so, asker_is, asked_is_so}
use Rattle.turn_server.specs.Wanted.{server_at}

pub kept_is_run : (setup : Setup) (moments : List Moment) → kept setup moments ≡ outer_run setup (events_in setup moments)
kept_is_run setup [] = refl
kept_is_run setup (m ∷ earlier) =
    ap (λ (h : OuterState). (outer_step setup m.rules h m.now (event_in setup (server_at m.now (kept setup earlier)) m.arrival)).holding) (kept_is_run setup earlier)

-- what the machine's law says of runs with reservations
abbrev pub Runs : Type 0
Runs = (setup : Setup) (events : List OuterTimed) → (outer_run setup events).state ≡ run setup (inner_run setup events)

pub state_is_run : Runs → (setup : Setup) (moments : List Moment) → (kept setup moments).state ≡ run setup (inner_run setup (events_in setup moments))
state_is_run runs setup moments = ap (λ (h : OuterState). h.state) (kept_is_run setup moments) ∙ runs setup (events_in setup moments)

-- ---- The requests that happened came as datagrams

same_client : (setup : Setup) (other tuple : FiveTuple) (h : OuterState) (numbers : Families ℕ) (user : ℕ) (request : Request) (judged : Judged) → inner setup h.state h.held (event_of other h numbers judged) ≡ asks tuple user request → other ≡ tuple
same_client setup other tuple h numbers user request dropped e = absurd cc
same_client setup other tuple h numbers user request binding e = absurd cc
same_client setup other tuple h numbers user request (refused refusal) e = absurd cc
same_client setup other tuple h numbers user request (unknown key algorithm) e = absurd cc
same_client setup other tuple h numbers user request (sent peer dont_fragment bytes) e = absurd cc
same_client setup other tuple h numbers user request (sent_on channel bytes) e = absurd cc
same_client setup other tuple h numbers user request (asked by wanted key algorithm) e = (asker_is setup other tuple by user h numbers request wanted e).0

-- the event of a datagram that asks for something is an authentic request
arrival_asks : (setup : Setup) (tuple : FiveTuple) (user : ℕ) (request : Request) (earlier : List Moment) (m : Moment) (arrival : Arrival) → m.arrival ≡ arrival
    → (let h = server_at m.now (kept setup earlier) in inner setup h.state h.held (event_in setup h arrival) ≡ asks tuple user request) → IsRequest setup tuple user request earlier m
arrival_asks setup tuple user request earlier m (of_client site other numbers d) came e =
    let h = server_at m.now (kept setup earlier) in
    let judged = judge setup.last_channel setup.supports_dont_fragment site d in
    record {
      site = site;
      numbers = numbers;
      datagram = d;
      came = came ∙ ap (λ (t : FiveTuple). of_client site t numbers d) (same_client setup other tuple h numbers user request judged e);
      outer = event_of other h numbers judged;
      asked = asked_is_so setup setup.supports_dont_fragment site other tuple h numbers d user request judged (judgment_is_so setup.last_channel setup.supports_dont_fragment site d) e;
      request_is = sym e;
    }
arrival_asks setup tuple user request earlier m (of_peer number peer bytes) came e = absurd cc
arrival_asks setup tuple user request earlier m (of_icmp number peer icmp) came e = absurd cc
arrival_asks setup tuple user request earlier m (of_end number) came e = absurd cc
arrival_asks setup tuple user request earlier m (of_user_end who) came e = absurd cc
arrival_asks setup tuple user request earlier m of_time came e = absurd cc

pub requests_came : Runs → (setup : Setup) (earlier : List Moment) (tuple : FiveTuple) (user : ℕ) (request : Request) (h : Happening) → h.event ≡ asks tuple user request
    → SomeOf (λ (x : Happening). x ≡ h) (past setup earlier) → Came (λ before m. IsRequest setup tuple user request before m × (happened setup before m ≡ h)) earlier
requests_came runs setup [] tuple user request h is came = absurd came
requests_came runs setup (m ∷ earlier) tuple user request h is (inl now) =
    let outer = event_in setup (server_at m.now (kept setup earlier)) m.arrival in
    let timed : OuterTimed = record { now = m.now; rules = m.rules; outer = outer } in
    let same = kept_is_run setup earlier in
    let one = ap (λ (o : OuterState). happening setup (kept setup earlier).state (inner_timed setup o timed)) same
    ∙ ap (λ (s : State). happening setup s (inner_timed setup (outer_run setup (events_in setup earlier)) timed)) (state_is_run runs setup earlier) ∙ now in
    inl (arrival_asks setup tuple user request earlier m m.arrival refl (ap (λ (x : Happening). x.event) one ∙ is), one)
requests_came runs setup (m ∷ earlier) tuple user request h is (inr then) = inr (requests_came runs setup earlier tuple user request h is then)
