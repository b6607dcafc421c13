-- While nothing that comes is a reason to end, a client that is polled in time stays punctual, whatever is
-- lost.
use Rattle.std.proofs.Common.{◌≡◌, ℕ, ◌+◌, ◌<◌, inl, inr, Bool, true, false, not, ◌&&◌, List, [], ◌∷◌, ◌++◌, Option, None, Some, find, refl, sym, ap, subst, ◌∙◌, arith}
use Rattle.std.specs.List.{AllByRecursion, list_any}
use Rattle.std.specs.Option.{option_map_or}
use Rattle.std.specs.Prelude.{◌==◌, nat_le}
use Rattle.std.proofs.lemmas.Bool.{cond_both, and_parts, and_from, or_cases, or_left, or_right, true≢false, false≢true}
use Rattle.stun_endpoints.proofs.AddressesLemmas.{endpoint_same}
use Rattle.turn_client_machine.proofs.ListsLemmas.{found_some, each_changed}
use Rattle.turn_client_machine.specs.Clients.{Endpoint, is_ip, seconds, Setup, Kind, Allocate, Refresh, Delete, Permit, Bind, Request, Pending, Phase, Quiet, Asking, Allocated, Closing, Ended, Task, Peer, State, is_allocated, is_active, is_endpoint, is_peer, is_dropped, is_rested}
use Rattle.turn_client_machine.specs.Events.{Event, allocates, permits, binds, drops, sends, closes, responds, gives, gives_on, strays, polls, Refused, Challenged, Violated}
use Rattle.turn_client_machine.specs.Tasks.{is_due, is_expired, may_send, turned, may_retry}
use Rattle.turn_client_machine.specs.Responses.{asks_instead, changed_first, is_allocate, granted_by, given_up}
use Rattle.turn_client_machine.specs.Steps.{Step, keeps, at, covers, replaced, dropped, is_listed, wanting, kind_in, kind_of, is_free, is_next, turned_of, turns_peer, happens, polled, own_task, takes_along, is_fit, most_others, turned_first}
use Rattle.turn_client_machine.specs.Runs.{Timed, run}
use Rattle.turn_client_machine.specs.Lasting.{IsInTime, IsOpen, IsServed, IsServedFor, is_refusal}
use Rattle.turn_client_machine.specs.Reach.{IsUsable, IsPunctual}
use Rattle.turn_client_machine.proofs.Keeping.{PeerChanges, happens_each, MainChanges, happens_main}
use Rattle.turn_client_machine.proofs.KeptLemmas.{stays_allocated}
use Rattle.turn_client_machine.proofs.StayingLemmas.{refusing, same_endpoint}
use Rattle.turn_client_machine.proofs.NumbersLemmas.{NamesKeep, happens_peers, joined_keeps}
use Rattle.turn_client_machine.proofs.RoundsLemmas.{known_changed, known_keep}
use Rattle.turn_client_machine.proofs.JoiningLemmas.{fit_parts}

-- ---- A client with an allocation asks for no other

abbrev allocating : Option Pending → Bool
allocating o = option_map_or (λ (q : Pending). is_allocate q.request.kind) o false

abbrev AsksNoMore : Phase → Task → ℕ → Type 0
AsksNoMore phase t expires_at = is_allocated phase ≡ true → allocating t.pending ≡ false

now_asked : (clock fresh : ℕ) (challenge : Option ℕ) (o : Option Pending) → allocating o ≡ false → is_allocate (option_map_or (λ (q : Pending). q.request) o (record { id = fresh; kind = Refresh; challenge = challenge; since = clock })).kind ≡ false
now_asked clock fresh challenge None none = refl
now_asked clock fresh challenge (Some q) none = none

turned_asks : (setup : Setup) (clock fresh : ℕ) (challenge : Option ℕ) (phase : Phase) (t : Task) → is_allocated phase ≡ true → allocating t.pending ≡ false → allocating (turned setup clock fresh (kind_in phase) challenge t).pending ≡ false
turned_asks setup clock fresh challenge Quiet t there none = absurd (false≢true there)
turned_asks setup clock fresh challenge Asking t there none = absurd (false≢true there)
turned_asks setup clock fresh challenge Allocated t there none =
    cond_both (may_send setup t) _ _ (λ (s : Task). allocating s.pending ≡ false) (λ _. now_asked clock fresh challenge t.pending none) (λ _. none)
turned_asks setup clock fresh challenge (Closing why) t there none = absurd (false≢true there)
turned_asks setup clock fresh challenge (Ended why) t there none = absurd (false≢true there)

asks_main : (setup : Setup) (fresh : ℕ) (state : State) (event : Event) → MainChanges AsksNoMore setup fresh state event
asks_main setup fresh state event = record {
  begins_it = λ _ there. absurd (false≢true there);
  closes_it = λ phase why _ there. absurd (false≢true there);
  ends_it = λ phase why _ there. absurd (false≢true there);
  opens_it = λ q id relayed mapped lifetime active genuine is awaited kind le a there. refl;
  extends_it = λ q id lifetime genuine is awaited kind le a there. refl;
  again_it = λ code challenge may a there. refl;
  turns_it = λ is fit out a there. turned_asks setup state.clock fresh state.challenge state.phase state.task there (a there);
}

run_asks : (setup : Setup) (events : List Timed) → is_allocated (run setup events).phase ≡ true → allocating (run setup events).task.pending ≡ false
run_asks setup [] = λ there. absurd (false≢true there)
run_asks setup (timed ∷ earlier) =
    let s = at timed.now (run setup earlier) in
    happens_main AsksNoMore setup timed.fresh s timed.event (asks_main setup timed.fresh s timed.event) (run_asks setup earlier)

-- ---- A peer stays usable

wanting_usable : (named : Endpoint) (clock : ℕ) (p : Peer) → IsUsable named p → IsUsable named (wanting clock p)
wanting_usable named clock p u =
    cond_both p.over _ _ (IsUsable named) (λ over here. absurd (true≢false (sym over ∙ (u here).0)))
    (λ _. cond_both p.wants _ _ (IsUsable named) (λ _. u) (λ _. u))

granted_usable : (named : Endpoint) (r : Request) (kind : Kind) (p : Peer) → IsUsable named p → IsUsable named (granted_by r kind p)
granted_usable named r Allocate p u = u
granted_usable named r Refresh p u = u
granted_usable named r Delete p u = u
granted_usable named r (Permit peer) p u = λ here. ((u here).0, omega arith)
granted_usable named r (Bind number peer) p u = λ here. ((u here).0, omega arith)

granted_usable_of : (named : Endpoint) (p : Peer) (o : Option Pending) → IsUsable named p → IsUsable named (option_map_or (λ (q : Pending). granted_by q.request q.request.kind p) o p)
granted_usable_of named p None u = u
granted_usable_of named p (Some q) u = granted_usable named q.request q.request.kind p u

usable_changes : (named : Endpoint) (setup : Setup) (fresh : ℕ) (state : State) (event : Event) → is_refusal setup named state event ≡ false → (event ≡ polls → ⊥) → allocating state.task.pending ≡ false → list_any (is_peer named) state.peers ≡ true
    → PeerChanges (IsUsable named) setup fresh state event
usable_changes named setup fresh state event harmless timeless none known = record {
  new = λ wants other peers is unknown here. absurd (true≢false (sym (subst (λ (e : Endpoint). list_any (is_peer e) state.peers ≡ true) (endpoint_same named other here) known) ∙ unknown));
  replaces = λ wants other p is unknown rested u here. absurd (true≢false (sym (subst (λ (e : Endpoint). list_any (is_peer e) state.peers ≡ true) (endpoint_same named other here) known) ∙ unknown));
  drops_it = λ p other is listed u here. absurd (true≢false (sym (same_endpoint named p.address other here (and_parts (is_peer other p) (not (is_dropped p)) listed).0) ∙ (ap (is_refusal setup named state) (sym is) ∙ harmless)));
  reopens = λ p q is opening u here. absurd (true≢false (sym opening ∙ subst (λ (o : Option Pending). allocating o ≡ false) is none));
  restarts = λ p again u here.
      let on = (u here).0 in
      let ips = and_parts (is_ip again.0.ip p.address.ip) (again.0.port == p.address.port) again.2 in
      let covered = and_from (not p.over) (is_ip again.0.ip p.address.ip) (ap not on) ips.0 in
      absurd (true≢false (sym (found_some (is_peer again.0) (covers again.0.ip) p state.peers again.3 covered) ∙ again.4));
  wants = λ p address _ _. wanting_usable named state.clock p;
  grants = λ p id genuine is u. granted_usable_of named p p.task.pending u;
  turns_down = λ p id code genuine awaited found u. cond_both (asks_instead code p) _ _ (IsUsable named) (λ _. u)
      (λ isnt here. refusing setup named state event genuine.from id true (Refused code) p genuine.event_is harmless awaited found here (ap not isnt));
  challenges_it = λ p is awaited found u. cond_both (may_retry setup state.challenge is.code p.task) _ _ (IsUsable named) (λ _. u)
      (λ isnt here. refusing setup named state event is.from is.id is.authentic (Challenged is.code is.challenge) p is.event_is harmless awaited found here (ap not isnt));
  violates_it = λ p is awaited found u. cond_both setup.is_reliable _ _ (IsUsable named)
      (λ reliable here. refusing setup named state event is.from is.id is.authentic Violated p is.event_is harmless awaited found here reliable) (λ _. u);
  turns_it = λ p along is _ out u. absurd (timeless is);
}

changed_usable : (along : Bool) (named : Endpoint) (setup : Setup) (clock fresh : ℕ) (challenge : Option ℕ) (test : Peer → Bool) (ps : List Peer) → AllByRecursion (IsOpen named clock) ps → AllByRecursion (IsUsable named) ps
    → AllByRecursion (IsUsable named) (changed_first test (turned_of along setup clock fresh challenge) ps)
changed_usable along named setup clock fresh challenge test [] opens us = tt
changed_usable along named setup clock fresh challenge test (p ∷ ps) opens us =
    cond_both (test p) _ _ (AllByRecursion (IsUsable named))
    (λ _. (
      cond_both (is_expired clock p.task) (given_up 0 p) (record p { task = turned setup clock fresh (kind_of p) challenge (own_task p); shared = along }) (IsUsable named)
          (λ late here. absurd (true≢false (sym late ∙ opens.0 here))) (λ _. us.0),
      us.1,
    ))
    (λ _. (us.0, changed_usable along named setup clock fresh challenge test ps opens.1 us.1))

found_usable : (named : Endpoint) (setup : Setup) (fresh : ℕ) (state : State) (o : Option Peer) → AllByRecursion (IsOpen named state.clock) state.peers → AllByRecursion (IsUsable named) state.peers
    → AllByRecursion (IsUsable named) (option_map_or (turns_peer setup fresh (is_free state.peers) state) o (keeps state)).state.peers
found_usable named setup fresh state None opens us = us
found_usable named setup fresh state (Some p) opens us =
    let along = takes_along setup state.clock state.peers p in
    joined_keeps (AllByRecursion (IsUsable named)) setup state.clock fresh state.challenge
    (λ ps each. each_changed (IsUsable named) (is_fit state.clock) (turned_of true setup state.clock fresh state.challenge) ps
    (λ q fit _ one. cond_both (is_expired state.clock q.task) (given_up 0 q) (record q { task = turned setup state.clock fresh (kind_of q) state.challenge (own_task q); shared = true }) (IsUsable named)
    (λ late. absurd (true≢false (sym late ∙ (fit_parts state.clock q fit).early))) (λ _. one)) each)
    (most_others setup along) (turned_first setup fresh (is_free state.peers) along state)
    (changed_usable along named setup state.clock fresh state.challenge (is_next (is_free state.peers) state.clock) state.peers opens us)

polled_usable : (named : Endpoint) (setup : Setup) (fresh : ℕ) (state : State) → AllByRecursion (IsOpen named state.clock) state.peers → AllByRecursion (IsUsable named) state.peers → AllByRecursion (IsUsable named) (polled setup fresh state).state.peers
polled_usable named setup fresh state opens us =
    cond_both (is_active state.phase && is_due state.clock state.task) _ _ (λ (s : Step). AllByRecursion (IsUsable named) s.state.peers)
    (λ _. cond_both (is_expired state.clock state.task) _ _ (λ (s : Step). AllByRecursion (IsUsable named) s.state.peers) (λ _. us) (λ _. us))
    (λ _. cond_both (is_allocated state.phase) _ _ (λ (s : Step). AllByRecursion (IsUsable named) s.state.peers)
    (λ _. found_usable named setup fresh state (find (is_next (is_free state.peers) state.clock) state.peers) opens us) (λ _. us))

usable_on : (named : Endpoint) (setup : Setup) (fresh : ℕ) (state : State) (event : Event) → is_refusal setup named state event ≡ false → (event ≡ polls → AllByRecursion (IsOpen named state.clock) state.peers) → allocating state.task.pending ≡ false → list_any (is_peer named) state.peers ≡ true
    → AllByRecursion (IsUsable named) state.peers → AllByRecursion (IsUsable named) (happens setup fresh state event).state.peers
usable_on named setup fresh state polls harmless opens none known us = polled_usable named setup fresh state (opens refl) us
usable_on named setup fresh state allocates harmless opens none known us = happens_each (IsUsable named) setup fresh state allocates (usable_changes named setup fresh state allocates harmless (λ e. absurd cc) none known) us
usable_on named setup fresh state (permits peer) harmless opens none known us = happens_each (IsUsable named) setup fresh state (permits peer) (usable_changes named setup fresh state (permits peer) harmless (λ e. absurd cc) none known) us
usable_on named setup fresh state (binds peer) harmless opens none known us = happens_each (IsUsable named) setup fresh state (binds peer) (usable_changes named setup fresh state (binds peer) harmless (λ e. absurd cc) none known) us
usable_on named setup fresh state (drops peer) harmless opens none known us = happens_each (IsUsable named) setup fresh state (drops peer) (usable_changes named setup fresh state (drops peer) harmless (λ e. absurd cc) none known) us
usable_on named setup fresh state (sends peer bytes) harmless opens none known us = happens_each (IsUsable named) setup fresh state (sends peer bytes) (usable_changes named setup fresh state (sends peer bytes) harmless (λ e. absurd cc) none known) us
usable_on named setup fresh state closes harmless opens none known us = happens_each (IsUsable named) setup fresh state closes (usable_changes named setup fresh state closes harmless (λ e. absurd cc) none known) us
usable_on named setup fresh state (responds from id authentic answer) harmless opens none known us = happens_each (IsUsable named) setup fresh state (responds from id authentic answer) (usable_changes named setup fresh state (responds from id authentic answer) harmless (λ e. absurd cc) none known) us
usable_on named setup fresh state (gives from peer bytes) harmless opens none known us = happens_each (IsUsable named) setup fresh state (gives from peer bytes) (usable_changes named setup fresh state (gives from peer bytes) harmless (λ e. absurd cc) none known) us
usable_on named setup fresh state (gives_on from number bytes) harmless opens none known us = happens_each (IsUsable named) setup fresh state (gives_on from number bytes) (usable_changes named setup fresh state (gives_on from number bytes) harmless (λ e. absurd cc) none known) us
usable_on named setup fresh state (strays from) harmless opens none known us = happens_each (IsUsable named) setup fresh state (strays from) (usable_changes named setup fresh state (strays from) harmless (λ e. absurd cc) none known) us

-- the place of a usable peer isn't given to another
usable_stays : (named address : Endpoint) (clock : ℕ) (wants : Bool) (ps : List Peer) → AllByRecursion (IsUsable named) ps → list_any (is_peer named) ps ≡ true → list_any (is_peer named) (changed_first (is_rested clock) (replaced clock wants address) ps) ≡ true
usable_stays named address clock wants [] us known = known
usable_stays named address clock wants (p ∷ ps) us known =
    cond_both (is_rested clock p) _ _ (λ (qs : List Peer). list_any (is_peer named) qs ≡ true)
    (λ rested. elim (or_cases (is_peer named p) (list_any (is_peer named) ps) known) [
      | inl here ↦ absurd (true≢false (sym (and_parts p.over (option_map_or (λ until. nat_le until clock) p.rests_until false) rested).0 ∙ (us.0 here).0))
      | inr more ↦ or_right (is_peer named (replaced clock wants address p)) (list_any (is_peer named) ps) more
    ])
    (λ _. elim (or_cases (is_peer named p) (list_any (is_peer named) ps) known) [
      | inl here ↦ or_left (is_peer named p) (list_any (is_peer named) (changed_first (is_rested clock) (replaced clock wants address) ps)) here
      | inr more ↦ or_right (is_peer named p) (list_any (is_peer named) (changed_first (is_rested clock) (replaced clock wants address) ps)) (usable_stays named address clock wants ps us.1 more)
    ])

known_names : (setup : Setup) (named : Endpoint) (state : State) (event : Event) → AllByRecursion (IsUsable named) state.peers → NamesKeep setup state event (λ ps. list_any (is_peer named) ps ≡ true)
known_names setup named state event us = record {
  grown = λ wants address is unknown can none known. or_right (is_endpoint named address) (list_any (is_peer named) state.peers) known;
  replaced_by = λ wants address is unknown can known. usable_stays named address state.clock wants state.peers us known;
  dropped_by = λ address is known. known_changed named (is_listed address) (dropped state.clock) (λ p. refl) state.peers known;
}

-- the peer is known, and usable
record Stays (named : Endpoint) (ps : List Peer) : Type 0 where
  known : list_any (is_peer named) ps ≡ true
  us : AllByRecursion (IsUsable named) ps

stays_usable : (setup : Setup) (since earlier : List Timed) (named : Endpoint) → is_allocated (run setup earlier).phase ≡ true → list_any (is_peer named) (run setup earlier).peers ≡ true → AllByRecursion (IsUsable named) (run setup earlier).peers → IsServed setup since earlier → IsServedFor setup named since earlier
    → Stays named (run setup (since ++ earlier)).peers
stays_usable setup [] earlier named there known us served for_it = record { known = known; us = us }
stays_usable setup (timed ∷ since) earlier named there known us served for_it =
    let s = at timed.now (run setup (since ++ earlier)) in
    let before = stays_usable setup since earlier named there known us served.1 for_it.1.1 in
    record {
      known = happens_peers (λ ps. list_any (is_peer named) ps ≡ true) setup (known_keep setup named) timed.fresh s timed.event (known_names setup named s timed.event before.us) before.known;
      us = usable_on named setup timed.fresh s timed.event for_it.0 for_it.1.0 (run_asks setup (since ++ earlier) (stays_allocated setup since earlier there served.1)) before.known before.us;
    }

pub served_punctual : (setup : Setup) (since earlier : List Timed) (now late slack : ℕ) (named peer : Endpoint) → late + slack < seconds 20 → is_ip peer.ip named.ip ≡ true → is_allocated (run setup earlier).phase ≡ true → list_any (is_peer named) (run setup earlier).peers ≡ true
    → AllByRecursion (IsUsable named) (run setup earlier).peers → IsServed setup since earlier → IsServedFor setup named since earlier → IsInTime late (at now (run setup (since ++ earlier))) → IsPunctual late slack named peer (at now (run setup (since ++ earlier)))
served_punctual setup since earlier now late slack named peer less same there known us served for_it in_time =
    let s = stays_usable setup since earlier named there known us served for_it in
    record {
      allocation = stays_allocated setup since earlier there served;
      known = s.known;
      same = same;
      usable = s.us;
      in_time = in_time;
      soon = less;
    }
