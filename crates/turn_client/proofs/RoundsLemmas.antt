-- A client whose requests are granted at once goes on for ever.
use Rattle.std.proofs.Common.{◌≡◌, ℕ, ◌+◌, ◌<◌, ◌≤◌, inl, inr, true, false, ◌&&◌, List, [], ◌∷◌, ◌++◌, Option, Some, refl, sym, ap, subst, ◌∙◌, arith, eq-eqb, le-leb}
use Rattle.std.specs.List.{AllByRecursion, list_any}
use Rattle.std.specs.Option.{option_map_or}
use Rattle.std.specs.Prelude.{◌==◌, ◌⊎◌, nat_le}
use Rattle.std.proofs.lemmas.Bool.{cond-true, and_from}
use Rattle.stun_endpoints.proofs.AddressesLemmas.{endpoint_is_itself}
use Rattle.turn_client_machine.specs.declared.phases.Phase.TheVariants.{Asking}
use Rattle.turn_client_machine.specs.declared.requests.Answer.TheVariants.{Opened}
use Rattle.turn_client_machine.specs.declared.requests.Kind.TheVariants.{Allocate}
use Rattle.turn_client_machine.specs.declared.tasks.Pending.{Pending}
use Rattle.turn_client_machine.specs.Clients.{Endpoint, State, is_active, is_allocated, is_endpoint, is_ip, is_peer, seconds}
use Rattle.turn_client_machine.specs.Events.{Event, asks, nothing, Output, responds, send_on, send_to, shows}
use Rattle.turn_client_machine.specs.Lasting.{IsInTime, IsOn}
use Rattle.turn_client_machine.specs.Reach.{IsPunctual}
use Rattle.turn_client_machine.specs.Responses.{answered, is_allocate, is_useful, opened}
use Rattle.turn_client_machine.specs.Rounds.{exchange, IsCalm, replied}
use Rattle.turn_client_machine.specs.Steps.{at, step}
use Rattle.turn_client_machine.specs.Tasks.{awaits}
use Rattle.turn_client_machine.proofs.AddedLemmas.{dropped_rests, going_rests, named_rests, Rests}
use Rattle.turn_client_machine.proofs.RoundsLemmas.{all_free, at_once, exchange_known, Going, going_at, going_from, opened_calm, rested, soon_each, usable_each, went}
use Rattle.turn_client_state.specs.States.{setup_of}
use Rattle.turn_client_state.specs.declared.settings.Settings.{Settings}
use Rattle.turn_client.specs.Clients.{Client, Kept}
use Rattle.turn_client.specs.Histories.{state_at}
use Rattle.turn_client.specs.Receiving.{event_at}
use Rattle.turn_client.specs.Rounds.{all_exchanged, all_rounds, answers_to, AreGranted, AreRounds, exchanged, Exchange, IsGranted, IsRound, IsWish, poll_at, polled_by, Round}
use Rattle.turn_client.specs.Runs.{after_all, calls, Moment, stepped, takes}
use Rattle.turn_client.proofs.HistoriesLemmas.{settings_stay}
use Rattle.turn_client.proofs.PollingLemmas.{is_idle}

-- ---- An exchange is the machine's

answered_as : (client : Client) (lifetime now fresh : ℕ) (d : List ℕ) (earlier : List Moment) (o : Output) → let before = after_all client earlier in let polled = after_all client (poll_at now fresh ∷ earlier) in IsGranted polled lifetime d o
    → (after_all client (answers_to before now d o ++ poll_at now fresh ∷ earlier)).held.state ≡ replied (setup_of before.held.settings) lifetime now polled.held.state o
answered_as client lifetime now fresh d earlier (asks r others) granted =
    let before = after_all client earlier in
    let polled = after_all client (poll_at now fresh ∷ earlier) in
    ap (λ (e : Event). (step (setup_of before.held.settings) polled.held.state now 0 e).state) granted
answered_as client lifetime now fresh d earlier (send_to peer bytes) granted = refl
answered_as client lifetime now fresh d earlier (send_on number bytes) granted = refl
answered_as client lifetime now fresh d earlier (shows peer bytes) granted = refl
answered_as client lifetime now fresh d earlier nothing granted = refl

exchange_is : (client : Client) (lifetime now : ℕ) (x : Exchange) (earlier : List Moment) → IsGranted (after_all client (poll_at now x.fresh ∷ earlier)) lifetime x.datagram (polled_by client now x earlier)
    → (after_all client (exchanged client now x earlier)).held.state ≡ exchange (setup_of (after_all client earlier).held.settings) lifetime now x.fresh (after_all client earlier).held.state
exchange_is client lifetime now x earlier = answered_as client lifetime now x.fresh x.datagram earlier (polled_by client now x earlier)

-- ---- It goes on

-- from one state to a later one, no peer is given up
record Keeps (before after : State) : Type 0 where
  on : (named : Endpoint) → AllByRecursion (IsOn named) before.peers → AllByRecursion (IsOn named) after.peers
  known : (named : Endpoint) → list_any (is_peer named) before.peers ≡ true → list_any (is_peer named) after.peers ≡ true

record Along (late now : ℕ) (before after : State) : Type 0 where
  going : Going late (at now after)
  same : (after ≡ before) ⊎ (at now after ≡ after)
  keeps : Keeps before after

along : (client : Client) (lifetime late now : ℕ) (xs : List Exchange) (earlier : List Moment) → 0 < client.held.settings.most_sends → 80 ≤ lifetime → late < seconds 20 → let before = (after_all client earlier).held.state in Going late (at now before)
    → AreGranted client lifetime now xs earlier → Along late now before (after_all client (all_exchanged client now xs earlier)).held.state
along client lifetime late now [] earlier some useful less g granted = record { going = g; same = inl refl; keeps = record { on = λ named each. each; known = λ named is. is } }
along client lifetime late now (x ∷ xs) earlier some useful less g granted =
    let b = along client lifetime late now xs earlier some useful less g granted.1 in
    let before = all_exchanged client now xs earlier in
    let s = (after_all client before).held.state in
    let setup = setup_of (after_all client before).held.settings in
    let sends : 0 < setup.most_sends = subst (λ (h : Settings). 0 < h.most_sends) (sym (settings_stay client before)) some in
    let w = went setup lifetime now x.fresh late s sends useful less b.going in
    let clock = w.clock in
    let t = exchange setup lifetime now x.fresh s in
    let here : at now t ≡ t = at_once now t (omega (arith, clock)) in
    subst (Along late now (after_all client earlier).held.state) (sym (exchange_is client lifetime now x before granted.0))
    (record {
      going = subst (Going late) (sym here) w.going;
      same = inr here;
      keeps = record {
        on = λ named each. w.on named (b.keeps.on named each);
        known = λ named is. exchange_known setup lifetime now x.fresh named s (b.keeps.known named is);
      };
    })

-- after a round
record Rounded (before after : State) : Type 0 where
  going : Going 0 after
  granted : AllByRecursion (λ p. p.over ≡ false → 0 < p.expires_at) after.peers
  keeps : Keeps before after

round_goes : (client : Client) (lifetime late : ℕ) (round : Round) (earlier : List Moment) → 0 < client.held.settings.most_sends → 80 ≤ lifetime → late < seconds 20 → let before = (after_all client earlier).held.state in Going 0 before → IsRound client lifetime late round earlier
    → Rounded before (after_all client (all_exchanged client round.now round.exchanges earlier)).held.state
round_goes client lifetime late round earlier some useful less g is =
    let before = (after_all client earlier).held.state in
    let a = along client lifetime late round.now round.exchanges earlier some useful less (going_at late round.now before g is.soon) is.granted in
    let t = (after_all client (all_exchanged client round.now round.exchanges earlier)).held.state in
    let free = all_free (at round.now t).clock late t.peers a.going.each in
    let r = rested late (at round.now t) a.going (is_idle (at round.now t) free is.done) in
    record {
      going = elim a.same [
        | inl none ↦ subst (Going 0) (sym none) g
        | inr here ↦ subst (Going 0) here r.going
      ];
      granted = r.granted_each;
      keeps = a.keeps;
    }

record Gone (before after : State) : Type 0 where
  going : Going 0 after
  keeps : Keeps before after

rounds_go : (client : Client) (lifetime late : ℕ) (rounds : List Round) (earlier : List Moment) → 0 < client.held.settings.most_sends → 80 ≤ lifetime → late < seconds 20 → let before = (after_all client earlier).held.state in Going 0 before → AreRounds client lifetime late rounds earlier
    → Gone before (after_all client (all_rounds client rounds earlier)).held.state
rounds_go client lifetime late [] earlier some useful less g are = record { going = g; keeps = record { on = λ named each. each; known = λ named is. is } }
rounds_go client lifetime late (round ∷ rounds) earlier some useful less g are =
    let b = rounds_go client lifetime late rounds earlier some useful less g are.1 in
    let r = round_goes client lifetime late round (all_rounds client rounds earlier) some useful less b.going are.0 in
    record {
      going = r.going;
      keeps = record {
        on = λ named each. r.keeps.on named (b.keeps.on named each);
        known = λ named is. r.keeps.known named (b.keeps.known named is);
      };
    }

pub rounds_rest : (client : Client) (earlier : List Moment) (rounds : List Round) (lifetime late : ℕ) → 0 < client.held.settings.most_sends → 80 ≤ lifetime → late < seconds 20 → let before = (after_all client earlier).held.state in IsCalm before → IsInTime 0 before → AreRounds client lifetime late rounds earlier
    → Rests (after_all client (all_rounds client rounds earlier)).held.state
rounds_rest client earlier rounds lifetime late some useful less calm in_time are =
    going_rests (after_all client (all_rounds client rounds earlier)).held.state (rounds_go client lifetime late rounds earlier some useful less (going_from (after_all client earlier).held.state calm in_time) are).going

pub stays_punctual : (client : Client) (earlier : List Moment) (round : Round) (rounds : List Round) (lifetime late slack later : ℕ) (named peer : Endpoint) → 0 < client.held.settings.most_sends → 80 ≤ lifetime → late + slack < seconds 20 → let before = (after_all client earlier).held.state in IsCalm before → IsInTime 0 before
    → is_ip peer.ip named.ip ≡ true → list_any (is_peer named) before.peers ≡ true → AllByRecursion (IsOn named) before.peers → AreRounds client lifetime late (round ∷ rounds) earlier → let after = after_all client (all_rounds client (round ∷ rounds) earlier) in later ≤ after.held.state.clock + late
    → IsPunctual late slack named peer (state_at after later)
stays_punctual client earlier round rounds lifetime late slack later named peer some useful less calm in_time same_ip known on are soon =
    let quick : late < seconds 20 = omega (arith, less) in
    let b = rounds_go client lifetime late rounds earlier some useful quick (going_from (after_all client earlier).held.state calm in_time) are.1 in
    let r = round_goes client lifetime late round (all_rounds client rounds earlier) some useful quick b.going are.0 in
    let s = (after_all client (all_rounds client (round ∷ rounds) earlier)).held.state in
    let here = going_at late later s r.going soon in
    record {
      allocation = ap is_allocated here.phase;
      known = r.keeps.known named (b.keeps.known named known);
      same = same_ip;
      usable = usable_each named s.peers (r.keeps.on named (b.keeps.on named on)) r.granted;
      in_time = record { allocation = here.soon; peers = soon_each (at later s).clock late s.peers here.each };
      soon = less;
    }

-- ---- Wishes

pub wish_rests : (client : Client) (now : ℕ) (event : Event) → now ≤ client.held.state.clock → IsWish event → IsCalm client.held.state → IsInTime 0 client.held.state → Rests (stepped client now 0 (calls event)).held.state
wish_rests client now event le wish calm in_time =
    let setup = setup_of client.held.settings in
    elim wish [
      | inl naming ↦ named_rests setup client.held.state now 0 event le naming calm in_time
      | inr dropping ↦ subst (λ (e : Event). Rests (step setup client.held.state now 0 e).state) (sym dropping.1) (dropped_rests setup client.held.state now 0 dropping.0 le calm in_time)
    ]

-- ---- The beginning

pub opened_rests : (client : Client) (now lifetime : ℕ) (d : List ℕ) (brought : List Kept) (q : Pending) (relayed mapped : Endpoint) → client.held.state.phase ≡ Asking → client.held.state.task.pending ≡ Some q → q.request.kind ≡ Allocate → let server = client.held.settings.server in
    event_at client server d ≡ responds server q.request.id true (Opened relayed mapped lifetime) → relayed.ip.family ≡ client.held.settings.family → 80 ≤ lifetime → (state_at client now).clock + seconds 60 ≤ q.request.since + seconds lifetime
    → Rests (stepped client now 0 (takes server d brought)).held.state
opened_rests client now lifetime d brought q relayed mapped phase pending kind event family useful soon =
    let setup = setup_of client.held.settings in
    let server = client.held.settings.server in
    let r = q.request in
    let st = state_at client now in
    let answer = Opened relayed mapped lifetime in
    let heard : (stepped client now 0 (takes server d brought)).held.state ≡ opened r relayed mapped lifetime st
    = ap (λ (e : Event). (step setup client.held.state now 0 e).state) event
    ∙ (cond-true (is_endpoint server server && is_active st.phase) _ st (and_from (is_endpoint server server) (is_active st.phase) (endpoint_is_itself server) (ap is_active phase))
    ∙ (cond-true (awaits r.id st.task) _ _ (ap (λ (o : Option Pending). option_map_or (λ (p : Pending). p.request.id == r.id) o false) pending ∙ eq-eqb r.id r.id refl)
    ∙ (ap (λ (o : Option Pending). option_map_or (λ (p : Pending). answered setup true answer st p.request) o st) pending
    ∙ (cond-true (true && is_allocate r.kind) _ st (ap is_allocate kind)
    ∙ cond-true (is_useful setup relayed lifetime) (opened r relayed mapped lifetime st) _ (and_from (nat_le 80 lifetime) (relayed.ip.family == setup.family) (le-leb 80 lifetime useful) (eq-eqb relayed.ip.family setup.family family)))))) in
    let begun = opened_calm st r relayed mapped lifetime soon useful in
    subst Rests (sym heard) (begun.0, begun.1)
