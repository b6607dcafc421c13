-- A flow lasts through all that came, as it does through the events that this was.
use Rattle.std.proofs.Common.{◌≡◌, ℕ, ◌<◌, Bool, true, false, not, List, [], ◌∷◌, ◌++◌, Some, refl, sym, ap, ◌∙◌, subst}
use Rattle.std.specs.List.{AllByRecursion}
use Rattle.std.specs.Prelude.{◌&&◌, ◌||◌, ◌==◌}
use Rattle.stun_endpoints.specs.declared.endpoints.FiveTuple.{FiveTuple}
use Rattle.stun_endpoints.specs.Endpoints.{is_tuple}
use Rattle.turn_machine.specs.Relays.{Setup, State}
use Rattle.turn_machine.specs.Events.{Event, Output}
use Rattle.turn_machine.specs.Flows.{Flow, flow_of, is_refusal, is_request, is_change, IsLeft as IsLeftBy, IsRelayed}
use Rattle.turn_machine.specs.Reserving.{OuterState, Reservation, inner, OuterTimed, outer_run, inner_timed, inner_run}
use Rattle.turn_machine.specs.Runs.{Timed, run, happening}
use Rattle.turn_machine.specs.Warrants.{is_ended}
use Rattle.turn_allocations.specs.declared.families.Families.{Families}
use Rattle.turn_server.specs.Datagrams.{Arrival, of_client, of_peer, of_icmp, of_end, of_user_end, of_time, Moment, event_in, events_in, kept, happened}
use Rattle.turn_server.specs.Flows.{IsLeft, may_change}
use Rattle.turn_server.specs.Judging.{Judged, dropped, binding, refused, unknown, sent, sent_on, asked, is_asked, event_of, judge}
use Rattle.turn_server.specs.Wanted.{Wanted, opening, reserving, claiming, other, outer_of, server_at}
use Rattle.turn_server.proofs.DatagramsLemmas.{Runs, kept_is_run, state_is_run}

-- ---- The events since

abbrev timed_of : Setup → List Moment → Moment → OuterTimed
timed_of setup earlier m = record { now = m.now; rules = m.rules; outer = event_in setup (server_at m.now (kept setup earlier)) m.arrival }

abbrev inner_after : Setup → (later earlier : List Moment) → List Timed
inner_after setup [] earlier = []
inner_after setup (m ∷ later) earlier =
    inner_timed setup (outer_run setup (events_in setup (later ++ earlier))) (timed_of setup (later ++ earlier) m) ∷ inner_after setup later earlier

runs_after : (setup : Setup) (later earlier : List Moment) → inner_run setup (events_in setup (later ++ earlier)) ≡ inner_after setup later earlier ++ inner_run setup (events_in setup earlier)
runs_after setup [] earlier = refl
runs_after setup (m ∷ later) earlier =
    ap (λ (ts : List Timed). inner_timed setup (outer_run setup (events_in setup (later ++ earlier))) (timed_of setup (later ++ earlier) m) ∷ ts) (runs_after setup later earlier)

module _ (runs : Runs) (setup : Setup) where
  happened_is : (earlier : List Moment) (m : Moment) → happened setup earlier m ≡ happening setup (run setup (inner_run setup (events_in setup earlier))) (inner_timed setup (outer_run setup (events_in setup earlier)) (timed_of setup earlier m))
  happened_is earlier m =
      ap (λ (o : OuterState). happening setup (kept setup earlier).state (inner_timed setup o (timed_of setup earlier m))) (kept_is_run setup earlier)
      ∙ ap (λ (s : State). happening setup s (inner_timed setup (outer_run setup (events_in setup earlier)) (timed_of setup earlier m))) (state_is_run runs setup earlier)

  left_by : (tuple : FiveTuple) (user number : ℕ) (later earlier : List Moment) → IsLeft setup tuple user number later earlier
      → IsLeftBy setup tuple user number (inner_after setup later earlier) (inner_run setup (events_in setup earlier))
  left_by tuple user number [] earlier left = tt
  left_by tuple user number (m ∷ later) earlier left =
      let timed = inner_timed setup (outer_run setup (events_in setup (later ++ earlier))) (timed_of setup (later ++ earlier) m) in
      let same = ap (λ (ts : List Timed). happening setup (run setup ts) timed) (sym (runs_after setup later earlier)) ∙ sym (happened_is (later ++ earlier) m) in
      (ap (is_change tuple user number) same ∙ left.0, left_by tuple user number later earlier left.1)

  -- the state is what the events leave
  state_after : (later earlier : List Moment) → (kept setup (later ++ earlier)).state ≡ run setup (inner_after setup later earlier ++ inner_run setup (events_in setup earlier))
  state_after later earlier = state_is_run runs setup (later ++ earlier) ∙ ap (run setup) (runs_after setup later earlier)

-- what the machine's law says
abbrev pub Lasting : Type 0
Lasting = (setup : Setup) (later earlier : List Timed) (tuple : FiveTuple) (channel user : ℕ) (flow : Flow)
    → flow_of (run setup earlier) tuple channel ≡ Some flow
    → AllByRecursion (λ a. a.number ≡ flow.number → a.user ≡ user) (run setup earlier).relays
    → IsLeftBy setup tuple user flow.number later earlier
    → (run setup (later ++ earlier)).clock < flow.expires_at
    → (flow_of (run setup (later ++ earlier)) tuple channel ≡ Some flow) × IsRelayed setup (later ++ earlier) tuple channel flow

pub flow_lasts : Runs → Lasting → (setup : Setup) (later earlier : List Moment) (tuple : FiveTuple) (channel user : ℕ) (flow : Flow)
    → flow_of (kept setup earlier).state tuple channel ≡ Some flow
    → AllByRecursion (λ a. a.number ≡ flow.number → a.user ≡ user) (kept setup earlier).state.relays
    → IsLeft setup tuple user flow.number later earlier
    → (kept setup (later ++ earlier)).state.clock < flow.expires_at
    → flow_of (kept setup (later ++ earlier)).state tuple channel ≡ Some flow
flow_lasts runs lasting setup later earlier tuple channel user flow there owner left soon =
    let is = state_is_run runs setup earlier in
    let after = state_after runs setup later earlier in
    let lasts = lasting setup (inner_after setup later earlier) (inner_run setup (events_in setup earlier)) tuple channel user flow
    (subst (λ (s : State). flow_of s tuple channel ≡ Some flow) is there)
    (subst (λ (s : State). AllByRecursion (λ a. a.number ≡ flow.number → a.user ≡ user) s.relays) is owner)
    (left_by runs setup tuple user flow.number later earlier left)
    (subst (λ (s : State). s.clock < flow.expires_at) after soon) in
    subst (λ (s : State). flow_of s tuple channel ≡ Some flow) (sym after) lasts.0

-- ---- What is no change

abbrev changes : FiveTuple → (user number : ℕ) → Event → Output → Bool
changes tuple user number event output = is_ended user number event || (is_request tuple event && not (is_refusal output))

-- a request of another client
of_another : (setup : Setup) (tuple from : FiveTuple) (user number by : ℕ) (state : State) (held : List Reservation) (h : OuterState) (numbers : Families ℕ) (output : Output) (wanted : Wanted)
    → is_tuple tuple from ≡ false → changes tuple user number (inner setup state held (outer_of from by h numbers wanted)) output ≡ false
of_another setup tuple from user number by state held h numbers output (opening id lifetime wants) isnt = ap (λ (b : Bool). b && not (is_refusal output)) isnt
of_another setup tuple from user number by state held h numbers output (reserving r) isnt = ap (λ (b : Bool). b && not (is_refusal output)) isnt
of_another setup tuple from user number by state held h numbers output (claiming c) isnt = ap (λ (b : Bool). b && not (is_refusal output)) isnt
of_another setup tuple from user number by state held h numbers output (other request) isnt = ap (λ (b : Bool). b && not (is_refusal output)) isnt

both_false : (b : Bool) → (b && true) ≡ false → b ≡ false
both_false true e = e
both_false false e = refl

of_datagram : (setup : Setup) (tuple from : FiveTuple) (user number : ℕ) (state : State) (held : List Reservation) (h : OuterState) (numbers : Families ℕ) (output : Output) (judged : Judged)
    → (is_tuple tuple from && is_asked judged) ≡ false → changes tuple user number (inner setup state held (event_of from h numbers judged)) output ≡ false
of_datagram setup tuple from user number state held h numbers output dropped isnt = refl
of_datagram setup tuple from user number state held h numbers output binding isnt = refl
of_datagram setup tuple from user number state held h numbers output (refused refusal) isnt = refl
of_datagram setup tuple from user number state held h numbers output (unknown key algorithm) isnt = refl
of_datagram setup tuple from user number state held h numbers output (sent peer whole bytes) isnt = refl
of_datagram setup tuple from user number state held h numbers output (sent_on channel bytes) isnt = refl
of_datagram setup tuple from user number state held h numbers output (asked by wanted key algorithm) isnt =
    of_another setup tuple from user number by state held h numbers output wanted (both_false (is_tuple tuple from) isnt)

or_none : (b : Bool) → b ≡ false → (b || false) ≡ false
or_none b isnt = ap (λ (x : Bool). x || false) isnt

of_arrival : (setup : Setup) (tuple : FiveTuple) (user number : ℕ) (state : State) (held : List Reservation) (h : OuterState) (output : Output) (arrival : Arrival)
    → may_change setup tuple user number arrival ≡ false → changes tuple user number (inner setup state held (event_in setup h arrival)) output ≡ false
of_arrival setup tuple user number state held h output (of_client site from numbers d) isnt =
    of_datagram setup tuple from user number state held h numbers output (judge setup.last_channel setup.supports_dont_fragment site d) isnt
of_arrival setup tuple user number state held h output (of_peer at peer bytes) isnt = refl
of_arrival setup tuple user number state held h output (of_icmp at peer icmp) isnt = refl
of_arrival setup tuple user number state held h output (of_end n) isnt = or_none (number == n) isnt
of_arrival setup tuple user number state held h output (of_user_end u) isnt = or_none (user == u) isnt
of_arrival setup tuple user number state held h output of_time isnt = refl

pub no_change : (setup : Setup) (tuple : FiveTuple) (user number : ℕ) (earlier : List Moment) (m : Moment) → may_change setup tuple user number m.arrival ≡ false → is_change tuple user number (happened setup earlier m) ≡ false
no_change setup tuple user number earlier m isnt =
    let h = server_at m.now (kept setup earlier) in
    of_arrival setup tuple user number h.state h.held h (happened setup earlier m).output m.arrival isnt
