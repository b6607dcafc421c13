-- A client whose requests are granted at once goes on for ever.
use Rattle.std.proofs.Common.{◌≡◌, ℕ, zero, suc, ◌+◌, ◌<◌, ◌≤◌, inl, inr, ◌⊎◌, Bool, true, false, not, ◌&&◌, ◌||◌, List, [], ◌∷◌, ◌++◌, length, map, Option, None, Some, refl, sym, ap, subst, ◌∙◌, arith, find, eq-eqb, true≢false, zero-le}
use mathlib.Core.Logic.{⊎_elim}
use Rattle.std.specs.List.{AllByRecursion, list_any}
use Rattle.std.specs.Option.{option_map_or}
use Rattle.std.specs.Prelude.{◌==◌, max, is_some, if◌then◌else◌}
use Rattle.std.proofs.lemmas.Bool.{cond_both, cond-true, cond-false, and_from, and_right, or_left, or_right, or_cases, leb-false, lt-ltb, lt-leb, le-leb, cases_Bool, and_parts, not-true}
use Rattle.stun_endpoints.proofs.AddressesLemmas.{endpoint_is_itself}
use Rattle.turn_client_machine.specs.Clients.{Endpoint, is_ip, is_endpoint, seconds, Setup, Kind, Allocate, Refresh, Delete, Permit, Bind, Request, Pending, Phase, Allocated, Task, Peer, State, is_allocated, is_active, is_peer, is_dropped, Useless}
use Rattle.turn_client_machine.specs.Events.{Answer, Extended, Done, responds, polls, Output, asks, send_to, send_on, shows, nothing}
use Rattle.turn_client_machine.specs.Tasks.{awaits, is_due, is_expired, sent_task, turn_output}
use Rattle.turn_client_machine.specs.Responses.{changed_first, reopened, opened, extended, granted, granted_by, awaits_of, answered_any, answered_peer, deletes, is_long, changed_each}
use Rattle.turn_client_machine.specs.Steps.{keeps, at, turns, is_due_of, kind_of, turned_of, turns_peer, polled, kind_in, step, counted, is_next, is_free, is_under_way, peers_polled, is_fit, joined, takes_along, is_single, most_others, others_at, own_task}
use Rattle.turn_client_machine.specs.Renewing.{IsTurn, new_request}
use Rattle.turn_client_machine.specs.Runs.{Timed, run}
use Rattle.turn_client_machine.specs.Working.{dues}
use Rattle.turn_client_machine.specs.Lasting.{IsInTime, IsOn}
use Rattle.turn_client_machine.specs.Reach.{IsUsable, IsPunctual}
use Rattle.turn_client_machine.specs.Rounds.{success_to, replied, replied_to, exchange, exchanges, rounds, reply_events, exchanges_events, rounds_events, AreClose, IsCalmPeer, IsCalm}
use Rattle.turn_client_machine.proofs.ListsLemmas.{found, each_map, each_changed_each, each_changed, each_pair}
use Rattle.turn_client_machine.proofs.WorkingLemmas.{count_none, none_counted, count_changed, turned_of_not_due}
use Rattle.turn_client_machine.proofs.NumbersLemmas.{length-changed_first, IsSame, turned_same, PeersKeep, no_names, happens_peers, joined_keeps, length-changed_each}
use Rattle.turn_client_machine.proofs.RenewingLemmas.{one_renews, Asked, peer_asked, output_asked, main_asked, main_answered, own_same}
use Rattle.turn_client_machine.proofs.JoiningLemmas.{fit_parts}
use Rattle.turn_client_machine.proofs.AtOnceLemmas.{count_one, count_calm}

-- ---- The peers, after their requests were granted

abbrev Final : (along : Bool) → Setup → State → (fresh : ℕ) → List Peer → List Peer
Final along setup state fresh ps = changed_each (awaits_of fresh) granted
    (joined setup state.clock fresh state.challenge (most_others setup along) (changed_first (is_due_of state.clock) (turned_of along setup state.clock fresh state.challenge) ps))

-- it isn't too late for any
abbrev pub InTime : (clock late : ℕ) → Peer → Type 0
InTime clock late p = p.over ≡ false → clock ≤ p.task.due + late

-- what is due isn't over
due_on : (clock : ℕ) (p : Peer) → is_due_of clock p ≡ true → p.over ≡ false
due_on clock p due = not-true p.over (and_parts (not p.over) (is_due clock p.task) due).0

idle_awaits : (fresh : ℕ) (p : Peer) → p.task.pending ≡ None → awaits_of fresh p ≡ false
idle_awaits fresh p free = ap (λ (o : Option Pending). option_map_or (λ (q : Pending). q.request.id == fresh) o false) free

-- what a peer is after it was granted
record IsFresh (clock : ℕ) (p : Peer) : Type 0 where
  calm : IsCalmPeer clock p
  some : 0 < p.expires_at
  later : clock < p.task.due

permit_fresh : (along : Bool) (clock : ℕ) (r : Request) (p : Peer) (t : Task) (address : Endpoint) → r.since ≡ clock → IsCalmPeer clock p → IsFresh clock (granted_by r (Permit address) (record p { task = t; shared = along }))
permit_fresh along clock r p t address since calm = record {
  calm = record {
    asked = λ _. inl (omega arith);
    free = refl;
    time = λ _. omega arith;
    ends = λ _ _. omega arith;
  };
  some = omega arith;
  later = omega (arith, since);
}

bind_fresh : (along : Bool) (clock : ℕ) (r : Request) (p : Peer) (t : Task) (number : ℕ) (address : Endpoint) → r.since ≡ clock → IsCalmPeer clock p → IsFresh clock (granted_by r (Bind number address) (record p { task = t; shared = along }))
bind_fresh along clock r p t number address since calm = record {
  calm = record {
    asked = λ _. inl (omega arith);
    free = refl;
    time = λ _. omega arith;
    ends = λ _ _. omega arith;
  };
  some = omega arith;
  later = omega (arith, since);
}

granted_fresh : (along : Bool) (setup : Setup) (state : State) (fresh : ℕ) (p : Peer) → IsCalmPeer state.clock p → IsFresh state.clock (granted (Asked along setup state fresh p))
granted_fresh along setup state fresh p calm =
    cond_both p.wants (Bind p.number p.address) (Permit p.address) (λ (k : Kind). IsFresh state.clock (granted_by (new_request state fresh (kind_of p)) k (Asked along setup state fresh p)))
    (λ _. bind_fresh along state.clock (new_request state fresh (kind_of p)) p (sent_task setup state.clock (new_request state fresh (kind_of p)) p.task) p.number p.address refl calm)
    (λ _. permit_fresh along state.clock (new_request state fresh (kind_of p)) p (sent_task setup state.clock (new_request state fresh (kind_of p)) p.task) p.address refl calm)

-- ---- The peers

pub record IsKept (clock late : ℕ) (p : Peer) : Type 0 where
  pub calm : IsCalmPeer clock p
  pub soon : InTime clock late p

fresh_kept : (clock late : ℕ) (p : Peer) → IsFresh clock p → IsKept clock late p
fresh_kept clock late p f = record { calm = f.calm; soon = λ _. let later = f.later in omega (arith, later) }

-- a peer whose request was sent now
record WasAsked (setup : Setup) (state : State) (fresh late : ℕ) (p : Peer) : Type 0 where
  along : Bool
  before : Peer
  kept : IsKept state.clock late before
  is : p ≡ Asked along setup state fresh before

-- between the request and its response
abbrev Half : Setup → State → (fresh late : ℕ) → Peer → Type 0
Half setup state fresh late p = IsKept state.clock late p ⊎ WasAsked setup state fresh late p

asked_idle : (setup : Setup) (state : State) (fresh late : ℕ) (p : Peer) → 0 < setup.most_sends → late < seconds 20 → WasAsked setup state fresh late p → is_due_of state.clock p ≡ true → ⊥
asked_idle setup state fresh late p some less w due =
    let on = due_on state.clock p due in
    let was_on : w.before.over ≡ false = sym (ap (λ (q : Peer). q.over) w.is) ∙ on in
    let time = w.kept.calm.time was_on in
    let here = w.kept.soon was_on in
    let early : is_expired state.clock w.before.task ≡ false = lt-leb w.before.task.deadline state.clock (omega (arith, time, here, less)) in
    true≢false (sym due ∙ (ap (is_due_of state.clock) (w.is ∙ sym (peer_asked w.along setup state fresh w.before some early w.kept.calm.free)) ∙ turned_of_not_due w.along setup state.clock fresh state.challenge w.before))

-- the first peer
half_next : (along : Bool) (setup : Setup) (state : State) (fresh late : ℕ) (p : Peer) → 0 < setup.most_sends → late < seconds 20 → is_due_of state.clock p ≡ true → Half setup state fresh late p → turned_of along setup state.clock fresh state.challenge p ≡ Asked along setup state fresh p
half_next along setup state fresh late p some less due (inl k) =
    let on = due_on state.clock p due in
    let time = k.calm.time on in
    let here = k.soon on in
    peer_asked along setup state fresh p some (lt-leb p.task.deadline state.clock (omega (arith, time, here, less))) k.calm.free
half_next along setup state fresh late p some less due (inr w) = absurd (asked_idle setup state fresh late p some less w due)

-- a further peer
fit_kept : (setup : Setup) (state : State) (fresh late : ℕ) (p : Peer) → is_fit state.clock p ≡ true → Half setup state fresh late p → IsKept state.clock late p
fit_kept setup state fresh late p fit (inl k) = k
fit_kept setup state fresh late p fit (inr w) = absurd (true≢false (sym (ap is_under_way w.is) ∙ (fit_parts state.clock p fit).free))

due_kept : (setup : Setup) (state : State) (fresh late : ℕ) (p : Peer) → 0 < setup.most_sends → late < seconds 20 → is_due_of state.clock p ≡ true → Half setup state fresh late p → IsKept state.clock late p
due_kept setup state fresh late p some less due (inl k) = k
due_kept setup state fresh late p some less due (inr w) = absurd (asked_idle setup state fresh late p some less w due)

half_fit : (setup : Setup) (state : State) (fresh late : ℕ) (p : Peer) → 0 < setup.most_sends → is_fit state.clock p ≡ true → Half setup state fresh late p → turned_of true setup state.clock fresh state.challenge p ≡ Asked true setup state fresh p
half_fit setup state fresh late p some fit half = peer_asked true setup state fresh p some (fit_parts state.clock p fit).early (fit_kept setup state fresh late p fit half).calm.free

-- what the sending of the request keeps, together with that
abbrev Polled : (along : Bool) → Setup → State → (fresh : ℕ) → List Peer → List Peer
Polled along setup state fresh ps = joined setup state.clock fresh state.challenge (most_others setup along) (changed_first (is_due_of state.clock) (turned_of along setup state.clock fresh state.challenge) ps)

half_each : (P : Peer → Type 0) (along : Bool) (setup : Setup) (state : State) (fresh late : ℕ) (ps : List Peer) → ((a : Bool) (p : Peer) → P p → P (Asked a setup state fresh p)) → 0 < setup.most_sends → late < seconds 20 → AllByRecursion (λ p. Half setup state fresh late p × P p) ps
    → AllByRecursion (λ p. Half setup state fresh late p × P p) (Polled along setup state fresh ps)
half_each P along setup state fresh late ps f some less each =
    let Both = λ (p : Peer). Half setup state fresh late p × P p in
    joined_keeps (AllByRecursion Both) setup state.clock fresh state.challenge
    (λ qs. each_changed Both (is_fit state.clock) (turned_of true setup state.clock fresh state.challenge) qs
    (λ p fit _ both. subst Both (sym (half_fit setup state fresh late p some fit both.0)) (inr (record { along = true; before = p; kept = fit_kept setup state fresh late p fit both.0; is = refl }), f true p both.1)))
    (most_others setup along) (changed_first (is_due_of state.clock) (turned_of along setup state.clock fresh state.challenge) ps)
    (each_changed Both (is_due_of state.clock) (turned_of along setup state.clock fresh state.challenge) ps
    (λ p due _ both. subst Both (sym (half_next along setup state fresh late p some less due both.0)) (inr (record { along = along; before = p; kept = due_kept setup state fresh late p some less due both.0; is = refl }), f along p both.1)) each)

-- what a peer is after the response
answered_kept : (setup : Setup) (state : State) (fresh late : ℕ) (p : Peer) → awaits_of fresh p ≡ true → Half setup state fresh late p → IsFresh state.clock (granted p)
answered_kept setup state fresh late p awaited (inl k) = absurd (true≢false (sym awaited ∙ idle_awaits fresh p k.calm.free))
answered_kept setup state fresh late p awaited (inr w) = subst (λ (q : Peer). IsFresh state.clock (granted q)) (sym w.is) (granted_fresh w.along setup state fresh w.before w.kept.calm)

other_kept : (setup : Setup) (state : State) (fresh late : ℕ) (p : Peer) → awaits_of fresh p ≡ false → Half setup state fresh late p → IsKept state.clock late p
other_kept setup state fresh late p other (inl k) = k
other_kept setup state fresh late p other (inr w) = absurd (true≢false (sym (ap (awaits_of fresh) w.is ∙ eq-eqb fresh fresh refl) ∙ other))

finished_each : (setup : Setup) (state : State) (fresh late : ℕ) (qs : List Peer) → AllByRecursion (Half setup state fresh late) qs → AllByRecursion (IsKept state.clock late) (changed_each (awaits_of fresh) granted qs)
finished_each setup state fresh late [] each = tt
finished_each setup state fresh late (p ∷ qs) each = (
  cond_both (awaits_of fresh p) (granted p) p (IsKept state.clock late)
      (λ awaited. fresh_kept state.clock late (granted p) (answered_kept setup state fresh late p awaited each.0)) (λ other. other_kept setup state fresh late p other each.0),
  finished_each setup state fresh late qs each.1,
)

halves : (along : Bool) (setup : Setup) (state : State) (fresh late : ℕ) (ps : List Peer) → 0 < setup.most_sends → late < seconds 20 → AllByRecursion (IsKept state.clock late) ps → AllByRecursion (Half setup state fresh late) (Polled along setup state fresh ps)
halves along setup state fresh late ps some less each =
    each_map (λ p. Half setup state fresh late p × Unit {0}) (Half setup state fresh late) (λ p both. both.0) (Polled along setup state fresh ps)
    (half_each (λ p. Unit {0}) along setup state fresh late ps (λ a p is. is) some less (each_map (IsKept state.clock late) (λ p. Half setup state fresh late p × Unit {0}) (λ p k. (inl k, tt)) ps each))

final_each : (along : Bool) (setup : Setup) (state : State) (fresh late : ℕ) (ps : List Peer) → 0 < setup.most_sends → late < seconds 20 → AllByRecursion (IsKept state.clock late) ps → AllByRecursion (IsKept state.clock late) (Final along setup state fresh ps)
final_each along setup state fresh late ps some less each = finished_each setup state fresh late (Polled along setup state fresh ps) (halves along setup state fresh late ps some less each)

fresh_idle : (clock : ℕ) (p : Peer) → IsFresh clock p → is_due_of clock p ≡ false
fresh_idle clock p f = and_right (not p.over) (is_due clock p.task) (lt-leb p.task.due clock f.later)

finished_count : (setup : Setup) (state : State) (fresh late : ℕ) (qs : List Peer) → AllByRecursion (Half setup state fresh late) qs → counted (is_due_of state.clock) (changed_each (awaits_of fresh) granted qs) ≤ counted (is_due_of state.clock) qs
finished_count setup state fresh late [] each = zero-le
finished_count setup state fresh late (p ∷ qs) each =
    count_one (is_due_of state.clock) p (if awaits_of fresh p then granted p else p) qs (changed_each (awaits_of fresh) granted qs)
    (cond_both (awaits_of fresh p) (granted p) p (λ (q : Peer). is_due_of state.clock q ≡ true → is_due_of state.clock p ≡ true)
    (λ awaited due. absurd (true≢false (sym due ∙ fresh_idle state.clock (granted p) (answered_kept setup state fresh late p awaited each.0)))) (λ _ due. due))
    (finished_count setup state fresh late qs each.1)

final_count : (along : Bool) (setup : Setup) (state : State) (fresh late : ℕ) (ps : List Peer) (q : Peer) → 0 < setup.most_sends → late < seconds 20 → AllByRecursion (IsKept state.clock late) ps → find (is_due_of state.clock) ps ≡ Some q
    → counted (is_due_of state.clock) (Final along setup state fresh ps) < counted (is_due_of state.clock) ps
final_count along setup state fresh late ps q some less each found_it =
    let first = changed_first (is_due_of state.clock) (turned_of along setup state.clock fresh state.challenge) ps in
    let one = count_changed (is_due_of state.clock) (is_due_of state.clock) (turned_of along setup state.clock fresh state.challenge) (λ p due. due) (turned_of_not_due along setup state.clock fresh state.challenge) ps q found_it in
    let two : counted (is_due_of state.clock) (Polled along setup state fresh ps) < counted (is_due_of state.clock) ps = joined_keeps (λ qs. counted (is_due_of state.clock) qs < counted (is_due_of state.clock) ps) setup state.clock fresh state.challenge
    (λ qs before. let le = count_calm (is_due_of state.clock) (is_fit state.clock) (turned_of true setup state.clock fresh state.challenge) (λ p _ due. absurd (true≢false (sym due ∙ turned_of_not_due true setup state.clock fresh state.challenge p))) qs in omega (arith, before, le)) (most_others setup along) first one in
    let three = finished_count setup state fresh late (Polled along setup state fresh ps) (halves along setup state fresh late ps some less each) in
    omega (arith, two, three)

-- no exchange gives up a peer
granted_by_on : (named : Endpoint) (r : Request) (kind : Kind) (p : Peer) → IsOn named p → IsOn named (granted_by r kind p)
granted_by_on named r Allocate p on = on
granted_by_on named r Refresh p on = on
granted_by_on named r Delete p on = on
granted_by_on named r (Permit address) p on = on
granted_by_on named r (Bind number address) p on = on

granted_on : (named : Endpoint) (p : Peer) (o : Option Pending) → IsOn named p → IsOn named (option_map_or (λ (q : Pending). granted_by q.request q.request.kind p) o p)
granted_on named p None on = on
granted_on named p (Some q) on = granted_by_on named q.request q.request.kind p on

final_on : (named : Endpoint) (along : Bool) (setup : Setup) (state : State) (fresh late : ℕ) (ps : List Peer) → 0 < setup.most_sends → late < seconds 20 → AllByRecursion (IsKept state.clock late) ps → AllByRecursion (IsOn named) ps → AllByRecursion (IsOn named) (Final along setup state fresh ps)
final_on named along setup state fresh late ps some less each on =
    let Both = λ (p : Peer). Half setup state fresh late p × IsOn named p in
    let Polled_ps = Polled along setup state fresh ps in
    each_changed_each (IsOn named) (awaits_of fresh) granted Polled_ps (λ p _ _ one. granted_on named p p.task.pending one)
    (each_map Both (IsOn named) (λ p both. both.1) Polled_ps
    (half_each (IsOn named) along setup state fresh late ps (λ a p one. one) some less
    (each_pair (Half setup state fresh late) (IsOn named) ps (each_map (IsKept state.clock late) (Half setup state fresh late) (λ p k. inl k) ps each) on)))

length_final : (along : Bool) (setup : Setup) (state : State) (fresh : ℕ) (ps : List Peer) → length (Final along setup state fresh ps) ≡ length ps
length_final along setup state fresh ps = length-changed_each (awaits_of fresh) granted (Polled along setup state fresh ps)
    ∙ joined_keeps (λ qs. length qs ≡ length ps) setup state.clock fresh state.challenge
    (λ qs same. length-changed_first (is_fit state.clock) (turned_of true setup state.clock fresh state.challenge) qs ∙ same) (most_others setup along) (changed_first (is_due_of state.clock) (turned_of along setup state.clock fresh state.challenge) ps)
    (length-changed_first (is_due_of state.clock) (turned_of along setup state.clock fresh state.challenge) ps)

-- ---- One exchange

-- the clock is there already
pub at_once : (now : ℕ) (s : State) → now ≤ s.clock → at now s ≡ s
at_once now s le = let same : max s.clock now ≡ s.clock = omega (arith, le) in ap (λ (c : ℕ). record s { clock = c }) same

exchange_main : (setup : Setup) (lifetime now fresh : ℕ) (state : State) → 0 < setup.most_sends → 80 ≤ lifetime → state.phase ≡ Allocated → IsTurn (at now state).clock state.task
    → exchange setup lifetime now fresh state ≡ extended (new_request (at now state) fresh Refresh) lifetime (record (at now state) { task = sent_task setup (at now state).clock (new_request (at now state) fresh Refresh) state.task })
exchange_main setup lifetime now fresh state some useful phase turn =
    let st = at now state in
    let r = new_request st fresh Refresh in
    let active : is_active st.phase ≡ true = ap is_active phase in
    let sent = record st { task = sent_task setup st.clock r st.task } in
    let asked : polled setup fresh st ≡ record { state = sent; output = asks r [] }
    = main_asked setup fresh st some active turn ∙ ap (λ (k : Kind). record { state = record st { task = sent_task setup st.clock (new_request st fresh k) st.task }; output = asks (new_request st fresh k) [] }) (ap kind_in phase) in
    ap (replied_to setup lifetime now) asked
    ∙ (main_answered setup fresh now 0 (Extended lifetime) st r active refl
    ∙ (cond-true (is_long lifetime) (extended r lifetime (at now sent)) (deletes Useless (at now sent)) (le-leb 80 lifetime useful)
    ∙ ap (extended r lifetime) (at_once now sent (omega arith))))

success_to_peer : (lifetime : ℕ) (p : Peer) → success_to lifetime (kind_of p) ≡ Done
success_to_peer lifetime p = cond_both p.wants (Bind p.number p.address) (Permit p.address) (λ (k : Kind). success_to lifetime k ≡ Done) (λ _. refl) (λ _. refl)

exchange_peer : (setup : Setup) (lifetime now fresh : ℕ) (state : State) (p : Peer) → 0 < setup.most_sends → state.phase ≡ Allocated → state.task.pending ≡ None → is_due (at now state).clock state.task ≡ false → find (is_due_of (at now state).clock) state.peers ≡ Some p → is_free state.peers ≡ true
    → is_expired (at now state).clock p.task ≡ false → p.task.pending ≡ None
    → exchange setup lifetime now fresh state ≡ record (at now state) { peers = Final (takes_along setup (at now state).clock state.peers p) setup (at now state) fresh state.peers }
exchange_peer setup lifetime now fresh state p some phase idle_task idle found spare fit free =
    let st = at now state in
    let r = new_request st fresh (kind_of p) in
    let active : is_active st.phase ≡ true = ap is_active phase in
    let there : is_allocated st.phase ≡ true = ap is_allocated phase in
    let along = takes_along setup st.clock st.peers p in
    let others = others_at setup fresh true along st in
    let sent = record st { peers = Polled along setup st fresh st.peers } in
    let one = one_renews along setup st fresh true p st.peers some fit free found in
    let asked : polled setup fresh st ≡ record { state = sent; output = asks r others }
    = cond-false (is_active st.phase && is_due st.clock st.task) (turns setup fresh st) _ (and_right (is_active st.phase) (is_due st.clock st.task) idle)
    ∙ (cond-true (is_allocated st.phase) _ (keeps st) there
    ∙ (ap (λ (free : Bool). peers_polled setup fresh free st) spare
    ∙ (ap (λ (o : Option Peer). option_map_or (turns_peer setup fresh true st) o (keeps st)) found
    ∙ ap (λ (o : Output). record { state = sent; output = o }) (cond-false (is_expired st.clock p.task) nothing (turn_output setup st.clock fresh (kind_of p) st.challenge others (own_task p)) fit
    ∙ (ap (λ (t : Task). turn_output setup st.clock fresh (kind_of p) st.challenge others t) (own_same p free) ∙ output_asked setup fresh (kind_of p) st others p.task some free))))) in
    let after = at now sent in
    ap (replied_to setup lifetime now) asked
    ∙ (ap (λ (a : Answer). (step setup sent now 0 (responds setup.server fresh true a)).state) (success_to_peer lifetime p)
    ∙ (cond-true (is_endpoint setup.server setup.server && is_active st.phase) (answered_any setup fresh true Done after) after (and_from (is_endpoint setup.server setup.server) (is_active st.phase) (endpoint_is_itself setup.server) active)
    ∙ (cond-false (awaits fresh st.task) _ _ (ap (λ (o : Option Pending). option_map_or (λ (q : Pending). q.request.id == fresh) o false) idle_task)
    ∙ (cond-true (is_allocated st.phase && list_any (awaits_of fresh) after.peers) (answered_peer setup fresh true Done after) after (and_from (is_allocated st.phase) (list_any (awaits_of fresh) after.peers) there one.awaited)
    ∙ ap (λ (s : State). answered_peer setup fresh true Done s) (at_once now sent (omega arith))))))

exchange_none : (setup : Setup) (lifetime now fresh : ℕ) (state : State) → state.phase ≡ Allocated → is_due (at now state).clock state.task ≡ false → find (is_due_of (at now state).clock) state.peers ≡ None → is_free state.peers ≡ true → exchange setup lifetime now fresh state ≡ at now state
exchange_none setup lifetime now fresh state phase idle found spare =
    let st = at now state in
    let there : is_allocated st.phase ≡ true = ap is_allocated phase in
    ap (replied_to setup lifetime now)
    (cond-false (is_active st.phase && is_due st.clock st.task) (turns setup fresh st) _ (and_right (is_active st.phase) (is_due st.clock st.task) idle)
    ∙ (cond-true (is_allocated st.phase) _ (keeps st) there ∙ (ap (λ (free : Bool). peers_polled setup fresh free st) spare ∙ ap (λ (o : Option Peer). option_map_or (turns_peer setup fresh true st) o (keeps st)) found)))

-- ---- It goes on

pub record Going (late : ℕ) (state : State) : Type 0 where
  pub phase : state.phase ≡ Allocated
  pub free : state.task.pending ≡ None
  pub time : state.task.due + seconds 20 ≤ state.task.deadline
  pub soon : state.clock ≤ state.task.due + late
  pub each : AllByRecursion (IsKept state.clock late) state.peers

abbrev bit : Bool → ℕ
bit b = if b then 1 else 0

dues_there : (s : State) → s.phase ≡ Allocated → dues s ≡ bit (is_due s.clock s.task) + counted (is_due_of s.clock) s.peers
dues_there s phase = ap (λ (ph : Phase). (if is_active ph && is_due s.clock s.task then 1 else 0) + (if is_allocated ph then counted (is_due_of s.clock) s.peers else 0)) phase

-- after an exchange: at the same moment, fewer things are due, or none was
pub record Went (late : ℕ) (before after : State) : Type 0 where
  pub going : Going late after
  pub clock : after.clock ≡ before.clock
  pub size : length after.peers ≡ length before.peers
  pub fewer : (dues after < dues before) ⊎ ((dues before ≡ 0) × (dues after ≡ 0))
  pub on : (named : Endpoint) → AllByRecursion (IsOn named) before.peers → AllByRecursion (IsOn named) after.peers

kept_found : (clock late : ℕ) (p : Peer) (ps : List Peer) → find (is_due_of clock) ps ≡ Some p → AllByRecursion (IsKept clock late) ps → IsKept clock late p × (is_due_of clock p ≡ true)
kept_found clock late p ps is each = found (IsKept clock late) (is_due_of clock) (λ (o : Option Peer). o ≡ Some p → IsKept clock late p × (is_due_of clock p ≡ true)) (λ e. absurd cc) ps (λ x due k e. let same : x ≡ p = cc in subst (λ (y : Peer). IsKept clock late y × (is_due_of clock y ≡ true)) same (k, due)) each is

went_main : (setup : Setup) (lifetime now fresh late : ℕ) (state : State) → 0 < setup.most_sends → 80 ≤ lifetime → late < seconds 20 → Going late (at now state) → is_due (at now state).clock state.task ≡ true → Went late (at now state) (exchange setup lifetime now fresh state)
went_main setup lifetime now fresh late state some useful less g due =
    let st = at now state in
    let time = g.time in
    let soon = g.soon in
    let fit : is_expired st.clock st.task ≡ false = lt-leb st.task.deadline st.clock (omega (arith, time, soon, less)) in
    let r = new_request st fresh Refresh in
    let after = extended r lifetime (record st { task = sent_task setup st.clock r st.task }) in
    let idle : is_due after.clock after.task ≡ false = lt-leb after.task.due st.clock (omega (arith, useful)) in
    let one = dues_there st g.phase in
    let two = dues_there after g.phase in
    let was : bit (is_due st.clock st.task) ≡ 1 = cond-true {A = ℕ} (is_due st.clock st.task) 1 0 due in
    let now_none : bit (is_due after.clock after.task) ≡ 0 = cond-false {A = ℕ} (is_due after.clock after.task) 1 0 idle in
    subst (Went late st) (sym (exchange_main setup lifetime now fresh state some (omega (arith, useful)) g.phase (record { due = due; fit = fit; free = g.free })))
    (record {
      going = record { phase = g.phase; free = refl; time = omega (arith, useful); soon = omega (arith, useful); each = g.each };
      clock = refl;
      size = refl;
      fewer = inl (omega (arith, one, two, was, now_none));
      on = λ named each. each;
    })

none_under_way : (clock late : ℕ) (ps : List Peer) → AllByRecursion (IsKept clock late) ps → counted is_single ps ≡ 0
none_under_way clock late [] each = refl
none_under_way clock late (p ∷ ps) each =
    cond-false (is_single p) (1 + counted is_single ps) (counted is_single ps) (ap (λ (o : Option Pending). is_some o && not p.shared) each.0.calm.free) ∙ none_under_way clock late ps each.1

pub all_free : (clock late : ℕ) (ps : List Peer) → AllByRecursion (IsKept clock late) ps → is_free ps ≡ true
all_free clock late ps each = let none = none_under_way clock late ps each in lt-ltb (counted is_single ps) 8 (omega (arith, none))

went_peer : (setup : Setup) (lifetime now fresh late : ℕ) (state : State) (o : Option Peer) → 0 < setup.most_sends → late < seconds 20 → Going late (at now state) → is_due (at now state).clock state.task ≡ false → find (is_due_of (at now state).clock) state.peers ≡ o
    → Went late (at now state) (exchange setup lifetime now fresh state)
went_peer setup lifetime now fresh late state None some less g idle found_it =
    let st = at now state in
    let one = dues_there st g.phase in
    let none : bit (is_due st.clock st.task) ≡ 0 = cond-false {A = ℕ} (is_due st.clock st.task) 1 0 idle in
    let count = count_none (is_due_of st.clock) st.peers found_it in
    subst (Went late st) (sym (exchange_none setup lifetime now fresh state g.phase idle found_it (all_free st.clock late st.peers g.each)))
    (record { going = g; clock = refl; size = refl; fewer = inr (omega (arith, one, none, count), omega (arith, one, none, count)); on = λ named each. each })
went_peer setup lifetime now fresh late state (Some p) some less g idle found_it =
    let st = at now state in
    let kept = kept_found st.clock late p st.peers found_it g.each in
    let k = kept.0 in
    let on = due_on st.clock p kept.1 in
    let time = k.calm.time on in
    let soon = k.soon on in
    let fit : is_expired st.clock p.task ≡ false = lt-leb p.task.deadline st.clock (omega (arith, time, soon, less)) in
    let along = takes_along setup st.clock st.peers p in
    let after = record st { peers = Final along setup st fresh st.peers } in
    let one = dues_there st g.phase in
    let two = dues_there after g.phase in
    let count = final_count along setup st fresh late st.peers p some less g.each found_it in
    subst (Went late st) (sym (exchange_peer setup lifetime now fresh state p some g.phase g.free idle found_it (all_free st.clock late st.peers g.each) fit k.calm.free))
    (record {
      going = record { phase = g.phase; free = g.free; time = g.time; soon = g.soon; each = final_each along setup st fresh late st.peers some less g.each };
      clock = refl;
      size = length_final along setup st fresh st.peers;
      fewer = inl (omega (arith, one, two, count));
      on = λ named. final_on named along setup st fresh late st.peers some less g.each;
    })

pub went : (setup : Setup) (lifetime now fresh late : ℕ) (state : State) → 0 < setup.most_sends → 80 ≤ lifetime → late < seconds 20 → Going late (at now state) → Went late (at now state) (exchange setup lifetime now fresh state)
went setup lifetime now fresh late state some useful less g = ⊎_elim
    (λ due. went_main setup lifetime now fresh late state some useful less g due)
    (λ idle. went_peer setup lifetime now fresh late state (find (is_due_of (at now state).clock) state.peers) some less g idle refl)
    (cases_Bool (is_due (at now state).clock state.task))

-- ---- As many as there are things to be due

record Passed (late n : ℕ) (before after : State) : Type 0 where
  going : Going late after
  clock : after.clock ≡ before.clock
  size : length after.peers ≡ length before.peers
  left : (dues after + n ≤ dues before) ⊎ (dues after ≡ 0)
  on : (named : Endpoint) → AllByRecursion (IsOn named) before.peers → AllByRecursion (IsOn named) after.peers

passed : (setup : Setup) (lifetime now fresh late n : ℕ) (state : State) → 0 < setup.most_sends → 80 ≤ lifetime → late < seconds 20 → Going late (at now state) → Passed late n (at now state) (at now (exchanges setup lifetime now fresh n state))
passed setup lifetime now fresh late zero state some useful less g = record { going = g; clock = refl; size = refl; left = inl (omega arith); on = λ named each. each }
passed setup lifetime now fresh late (suc n) state some useful less g =
    let before = passed setup lifetime now fresh late n state some useful less g in
    let s = exchanges setup lifetime now fresh n state in
    let w = went setup lifetime now (fresh + n) late s some useful less before.going in
    let clock = w.clock in
    subst (Passed late (suc n) (at now state)) (sym (at_once now (exchange setup lifetime now (fresh + n) s) (omega (arith, clock))))
    (record {
      going = w.going;
      clock = w.clock ∙ before.clock;
      size = w.size ∙ before.size;
      left = elim w.fewer [
        | inl fewer ↦ elim before.left [
          | inl le ↦ inl (omega (arith, fewer, le))
          | inr none ↦ absurd (omega (arith, fewer, none))
        ]
        | inr none ↦ inr none.1
      ];
      on = λ named each. w.on named (before.on named each);
    })

-- an exchange leaves the clock at its moment
exchanged_clock : (setup : Setup) (lifetime now fresh late n : ℕ) (state : State) → 0 < setup.most_sends → 80 ≤ lifetime → late < seconds 20 → Going late (at now state) → at now (exchanges setup lifetime now fresh (suc n) state) ≡ exchanges setup lifetime now fresh (suc n) state
exchanged_clock setup lifetime now fresh late n state some useful less g =
    let s = exchanges setup lifetime now fresh n state in
    let w = went setup lifetime now (fresh + n) late s some useful less (passed setup lifetime now fresh late n state some useful less g).going in
    let clock = w.clock in
    at_once now (exchange setup lifetime now (fresh + n) s) (omega (arith, clock))

pub counted_few : (clock : ℕ) (ps : List Peer) → counted (is_due_of clock) ps ≤ length ps
counted_few clock [] = omega arith
counted_few clock (p ∷ ps) = let more = counted_few clock ps in cond_both (is_due_of clock p) (1 + counted (is_due_of clock) ps) (counted (is_due_of clock) ps) (λ (n : ℕ). n ≤ suc (length ps)) (λ _. omega (arith, more)) (λ _. omega (arith, more))

few_dues : (s : State) → s.phase ≡ Allocated → dues s ≤ suc (length s.peers)
few_dues s phase =
    let one = dues_there s phase in
    let more = counted_few s.clock s.peers in
    let main : bit (is_due s.clock s.task) ≤ 1 = cond_both {A = ℕ} (is_due s.clock s.task) 1 0 (λ (n : ℕ). n ≤ 1) (λ _. omega arith) (λ _. omega arith) in
    omega (arith, one, more, main)

-- nothing is due any more
pub record Rested (state : State) : Type 0 where
  pub going : Going 0 state
  pub none : dues state ≡ 0
  pub granted_each : AllByRecursion (λ p. p.over ≡ false → 0 < p.expires_at) state.peers

idle_later : (clock late : ℕ) (ps : List Peer) → AllByRecursion (IsKept clock late) ps → AllByRecursion (λ p. is_due_of clock p ≡ false) ps → AllByRecursion (IsKept clock 0) ps × AllByRecursion (λ p. p.over ≡ false → 0 < p.expires_at) ps
idle_later clock late [] each idle = (tt, tt)
idle_later clock late (p ∷ ps) each idle =
    let more = idle_later clock late ps each.1 idle.1 in
    let later : (on : p.over ≡ false) → clock < p.task.due = λ on. leb-false p.task.due clock (sym (ap (λ (b : Bool). not b && is_due clock p.task) on) ∙ idle.0) in (
      (record { calm = each.0.calm; soon = λ on. let after = later on in omega (arith, after) }, more.0),
      (
        λ on. elim (each.0.calm.asked on) [
          | inl some ↦ some
          | inr due ↦ let after = later on in absurd (omega (arith, due, after))
        ],
        more.1,
      ),
    )

pub rested : (late : ℕ) (state : State) → Going late state → dues state ≡ 0 → Rested state
rested late state g none =
    let one = dues_there state g.phase in
    let count : counted (is_due_of state.clock) state.peers ≡ 0 = omega (arith, one, none) in
    let both = idle_later state.clock late state.peers g.each (none_counted (is_due_of state.clock) state.peers count) in
    let idle : is_due state.clock state.task ≡ false = ⊎_elim
    (λ due. let was : bit (is_due state.clock state.task) ≡ 1 = cond-true {A = ℕ} (is_due state.clock state.task) 1 0 due in absurd (omega (arith, one, none, was)))
    (λ no. no) (cases_Bool (is_due state.clock state.task)) in
    let after = leb-false state.task.due state.clock idle in
    record {
      going = record { phase = g.phase; free = g.free; time = g.time; soon = omega (arith, after); each = both.0 };
      none = none;
      granted_each = both.1;
    }

-- ---- From moment to moment

each_at : (clock after late : ℕ) (ps : List Peer) → clock ≤ after → after ≤ clock + late → AllByRecursion (IsKept clock 0) ps → AllByRecursion (IsKept after late) ps
each_at clock after late [] le soon each = tt
each_at clock after late (p ∷ ps) le soon each = (
  record {
    calm = record {
      asked = λ on. elim (each.0.calm.asked on) [
        | inl some ↦ inl some
        | inr due ↦ inr (omega (arith, due, le))
      ];
      free = each.0.calm.free;
      time = each.0.calm.time;
      ends = each.0.calm.ends;
    };
    soon = λ on. let before = each.0.soon on in omega (arith, before, soon);
  },
  each_at clock after late ps le soon each.1,
)

pub going_at : (late now : ℕ) (state : State) → Going 0 state → now ≤ state.clock + late → Going late (at now state)
going_at late now state g soon = let before = g.soon in record {
  phase = g.phase;
  free = g.free;
  time = g.time;
  soon = omega (arith, before, soon);
  each = each_at state.clock (max state.clock now) late state.peers (omega arith) (omega (arith, soon)) g.each;
}

-- after a round
record Round (before after : State) : Type 0 where
  rests : Rested after
  on : (named : Endpoint) → AllByRecursion (IsOn named) before.peers → AllByRecursion (IsOn named) after.peers

round_rests : (setup : Setup) (lifetime now fresh late : ℕ) (state : State) → 0 < setup.most_sends → 80 ≤ lifetime → late < seconds 20 → Going 0 state → now ≤ state.clock + late → Round state (exchanges setup lifetime now fresh (suc (length state.peers)) state)
round_rests setup lifetime now fresh late state some useful less g soon =
    let st = at now state in
    let here = going_at late now state g soon in
    let p = passed setup lifetime now fresh late (suc (length state.peers)) state some useful less here in
    let few = few_dues st here.phase in
    let after = at now (exchanges setup lifetime now fresh (suc (length state.peers)) state) in
    subst (Round state) (exchanged_clock setup lifetime now fresh late (length state.peers) state some useful less here)
    (record {
      rests = rested late after p.going (elim p.left [
        | inl le ↦ omega (arith, le, few)
        | inr none ↦ none
      ]);
      on = p.on;
    })

pub rounds_go : (setup : Setup) (lifetime fresh late : ℕ) (moments : List ℕ) (state : State) → 0 < setup.most_sends → 80 ≤ lifetime → late < seconds 20 → Going 0 state → AreClose setup lifetime fresh late moments state → Going 0 (rounds setup lifetime fresh moments state)
rounds_go setup lifetime fresh late [] state some useful less g close = g
rounds_go setup lifetime fresh late (now ∷ earlier) state some useful less g close =
    (round_rests setup lifetime now fresh late (rounds setup lifetime fresh earlier state) some useful less (rounds_go setup lifetime fresh late earlier state some useful less g close.1) close.0).rests.going

rounds_on : (setup : Setup) (lifetime fresh late : ℕ) (moments : List ℕ) (state : State) (named : Endpoint) → 0 < setup.most_sends → 80 ≤ lifetime → late < seconds 20 → Going 0 state → AreClose setup lifetime fresh late moments state → AllByRecursion (IsOn named) state.peers → AllByRecursion (IsOn named) (rounds setup lifetime fresh moments state).peers
rounds_on setup lifetime fresh late [] state named some useful less g close on = on
rounds_on setup lifetime fresh late (now ∷ earlier) state named some useful less g close on =
    (round_rests setup lifetime now fresh late (rounds setup lifetime fresh earlier state) some useful less (rounds_go setup lifetime fresh late earlier state some useful less g close.1) close.0).on named (rounds_on setup lifetime fresh late earlier state named some useful less g close.1 on)

-- ---- The peers stay

same_peer : (peer : Endpoint) (p q : Peer) → IsSame p q → is_peer peer q ≡ is_peer peer p
same_peer peer p q same = ap (is_endpoint peer) same.1

known_mapped : (peer : Endpoint) (change : Peer → Peer) → ((p : Peer) → IsSame p (change p)) → (ps : List Peer) → list_any (is_peer peer) ps ≡ true → list_any (is_peer peer) (map {B = Peer} change ps) ≡ true
known_mapped peer change same [] known = known
known_mapped peer change same (p ∷ ps) known = elim (or_cases (is_peer peer p) (list_any (is_peer peer) ps) known) [
  | inl is ↦ or_left (is_peer peer (change p)) (list_any (is_peer peer) (map {B = Peer} change ps)) (same_peer peer p (change p) (same p) ∙ is)
  | inr more ↦ or_right (is_peer peer (change p)) (list_any (is_peer peer) (map {B = Peer} change ps)) (known_mapped peer change same ps more)
]

pub known_changed : (peer : Endpoint) (test : Peer → Bool) (change : Peer → Peer) → ((p : Peer) → (change p).address ≡ p.address) → (ps : List Peer) → list_any (is_peer peer) ps ≡ true → list_any (is_peer peer) (changed_first test change ps) ≡ true
known_changed peer test change same [] known = known
known_changed peer test change same (p ∷ ps) known =
    cond_both (test p) (change p ∷ ps) (p ∷ changed_first test change ps) (λ (qs : List Peer). list_any (is_peer peer) qs ≡ true)
    (λ _. ap (λ (e : Endpoint). is_endpoint peer e || list_any (is_peer peer) ps) (same p) ∙ known)
    (λ _. elim (or_cases (is_peer peer p) (list_any (is_peer peer) ps) known) [
      | inl is ↦ or_left (is_peer peer p) (list_any (is_peer peer) (changed_first test change ps)) is
      | inr more ↦ or_right (is_peer peer p) (list_any (is_peer peer) (changed_first test change ps)) (known_changed peer test change same ps more)
    ])

known_each : (peer : Endpoint) (test : Peer → Bool) (change : Peer → Peer) → ((p : Peer) → (change p).address ≡ p.address) → (ps : List Peer) → list_any (is_peer peer) ps ≡ true → list_any (is_peer peer) (changed_each test change ps) ≡ true
known_each peer test change same [] known = known
known_each peer test change same (p ∷ ps) known =
    let one : (if test p then change p else p).address ≡ p.address = cond_both (test p) (change p) p (λ (q : Peer). q.address ≡ p.address) (λ _. same p) (λ _. refl) in
    elim (or_cases (is_peer peer p) (list_any (is_peer peer) ps) known) [
      | inl is ↦ or_left (is_peer peer (if test p then change p else p)) (list_any (is_peer peer) (changed_each test change ps)) (subst (λ (e : Endpoint). is_endpoint peer e ≡ true) (sym one) is)
      | inr more ↦ or_right (is_peer peer (if test p then change p else p)) (list_any (is_peer peer) (changed_each test change ps)) (known_each peer test change same ps more)
    ]

pub known_keep : (setup : Setup) (peer : Endpoint) → PeersKeep setup (λ ps. list_any (is_peer peer) ps ≡ true)
known_keep setup peer = record {
  mapped = λ change same calm ps. known_mapped peer change same ps;
  changed = λ test change same calm ps. known_changed peer test change (λ p. (same p).1) ps;
  changed_all = λ test change same calm ps. known_each peer test change (λ p. (same p).1) ps;
  turned = λ along clock fresh challenge ps. known_changed peer (is_next (is_free ps) clock) (turned_of along setup clock fresh challenge) (λ p. (turned_same along setup clock fresh challenge p).1) ps;
  joins = λ clock fresh challenge ps. known_changed peer (is_fit clock) (turned_of true setup clock fresh challenge) (λ p. (turned_same true setup clock fresh challenge p).1) ps;
}

replied_known : (setup : Setup) (lifetime now : ℕ) (peer : Endpoint) (state : State) (o : Output) → list_any (is_peer peer) state.peers ≡ true → list_any (is_peer peer) (replied setup lifetime now state o).peers ≡ true
replied_known setup lifetime now peer state (asks r others) known =
    happens_peers (λ ps. list_any (is_peer peer) ps ≡ true) setup (known_keep setup peer) 0 (at now state) (responds setup.server r.id true (success_to lifetime r.kind)) (no_names setup (at now state) (responds setup.server r.id true (success_to lifetime r.kind)) (λ ps. list_any (is_peer peer) ps ≡ true) (λ a e. absurd cc) (λ a e. absurd cc) (λ a e. absurd cc)) known
replied_known setup lifetime now peer state (send_to other bytes) known = known
replied_known setup lifetime now peer state (send_on number bytes) known = known
replied_known setup lifetime now peer state (shows other bytes) known = known
replied_known setup lifetime now peer state nothing known = known

-- an exchange leaves the peers
pub exchange_known : (setup : Setup) (lifetime now fresh : ℕ) (peer : Endpoint) (state : State) → list_any (is_peer peer) state.peers ≡ true → list_any (is_peer peer) (exchange setup lifetime now fresh state).peers ≡ true
exchange_known setup lifetime now fresh peer state known =
    let s = step setup state now fresh polls in
    replied_known setup lifetime now peer s.state s.output
    (happens_peers (λ ps. list_any (is_peer peer) ps ≡ true) setup (known_keep setup peer) fresh (at now state) polls (no_names setup (at now state) polls (λ ps. list_any (is_peer peer) ps ≡ true) (λ a e. absurd cc) (λ a e. absurd cc) (λ a e. absurd cc)) known)

exchanges_known : (setup : Setup) (lifetime now fresh n : ℕ) (peer : Endpoint) (state : State) → list_any (is_peer peer) state.peers ≡ true → list_any (is_peer peer) (exchanges setup lifetime now fresh n state).peers ≡ true
exchanges_known setup lifetime now fresh zero peer state known = known
exchanges_known setup lifetime now fresh (suc n) peer state known =
    exchange_known setup lifetime now (fresh + n) peer (exchanges setup lifetime now fresh n state) (exchanges_known setup lifetime now fresh n peer state known)

rounds_known : (setup : Setup) (lifetime fresh : ℕ) (moments : List ℕ) (peer : Endpoint) (state : State) → list_any (is_peer peer) state.peers ≡ true → list_any (is_peer peer) (rounds setup lifetime fresh moments state).peers ≡ true
rounds_known setup lifetime fresh [] peer state known = known
rounds_known setup lifetime fresh (now ∷ earlier) peer state known =
    let before = rounds setup lifetime fresh earlier state in
    exchanges_known setup lifetime now fresh (suc (length before.peers)) peer before (rounds_known setup lifetime fresh earlier peer state known)

-- ---- It stays punctual

pub calm_kept : (clock : ℕ) (ps : List Peer) → AllByRecursion (IsCalmPeer clock) ps → AllByRecursion (λ (p : Peer). p.over ≡ false → clock ≤ p.task.due + 0) ps → AllByRecursion (IsKept clock 0) ps
calm_kept clock [] calm soon = tt
calm_kept clock (p ∷ ps) calm soon = (record { calm = calm.0; soon = soon.0 }, calm_kept clock ps calm.1 soon.1)

pub going_from : (state : State) → IsCalm state → IsInTime 0 state → Going 0 state
going_from state calm in_time = record { phase = calm.allocation; free = calm.free; time = calm.time; soon = in_time.allocation; each = calm_kept state.clock state.peers calm.peers in_time.peers }

pub usable_each : (named : Endpoint) (ps : List Peer) → AllByRecursion (IsOn named) ps → AllByRecursion (λ (p : Peer). p.over ≡ false → 0 < p.expires_at) ps → AllByRecursion (IsUsable named) ps
usable_each named [] on some = tt
usable_each named (p ∷ ps) on some = (λ here. (on.0 here, some.0 (on.0 here)), usable_each named ps on.1 some.1)

pub soon_each : (clock late : ℕ) (ps : List Peer) → AllByRecursion (IsKept clock late) ps → AllByRecursion (λ (p : Peer). p.over ≡ false → clock ≤ p.task.due + late) ps
soon_each clock late = each_map (IsKept clock late) (λ (p : Peer). p.over ≡ false → clock ≤ p.task.due + late) (λ p k. k.soon)

pub stays_punctual : (setup : Setup) (state : State) (lifetime fresh late slack now later : ℕ) (earlier : List ℕ) (named peer : Endpoint) → 0 < setup.most_sends → 80 ≤ lifetime → late + slack < seconds 20 → IsCalm state → IsInTime 0 state → is_ip peer.ip named.ip ≡ true → list_any (is_peer named) state.peers ≡ true
    → AllByRecursion (IsOn named) state.peers → AreClose setup lifetime fresh late (now ∷ earlier) state → later ≤ (rounds setup lifetime fresh (now ∷ earlier) state).clock + late → IsPunctual late slack named peer (at later (rounds setup lifetime fresh (now ∷ earlier) state))
stays_punctual setup state lifetime fresh late slack now later earlier named peer some useful less calm in_time same_ip known on close soon =
    let before = rounds setup lifetime fresh earlier state in
    let g = rounds_go setup lifetime fresh late earlier state some useful (omega (arith, less)) (going_from state calm in_time) close.1 in
    let r = (round_rests setup lifetime now fresh late before some useful (omega (arith, less)) g close.0).rests in
    let on_then = rounds_on setup lifetime fresh late (now ∷ earlier) state named some useful (omega (arith, less)) (going_from state calm in_time) close on in
    let s = rounds setup lifetime fresh (now ∷ earlier) state in
    let here = going_at late later s r.going soon in
    record {
      allocation = ap is_allocated here.phase;
      known = rounds_known setup lifetime fresh (now ∷ earlier) named state known;
      same = same_ip;
      usable = usable_each named s.peers on_then r.granted_each;
      in_time = record { allocation = here.soon; peers = soon_each (at later s).clock late s.peers here.each };
      soon = less;
    }

-- ---- The beginning

restarted_calm : (clock : ℕ) (ps : List Peer) → AllByRecursion (IsCalmPeer clock) (map {B = Peer} (reopened clock) ps)
restarted_calm clock [] = tt
restarted_calm clock (p ∷ ps) = (
  record {
    asked = λ _. inr (omega arith);
    free = refl;
    time = λ _. omega arith;
    ends = λ _ some. absurd (omega (arith, some));
  },
  restarted_calm clock ps,
)

restarted_in_time : (clock : ℕ) (ps : List Peer) → AllByRecursion (λ (p : Peer). p.over ≡ false → clock ≤ p.task.due + 0) (map {B = Peer} (reopened clock) ps)
restarted_in_time clock [] = tt
restarted_in_time clock (p ∷ ps) = (λ _. omega arith, restarted_in_time clock ps)

restarted_known : (peer : Endpoint) (clock : ℕ) (ps : List Peer) → list_any (is_peer peer) (map {B = Peer} (reopened clock) ps) ≡ list_any (is_peer peer) ps
restarted_known peer clock [] = refl
restarted_known peer clock (p ∷ ps) = ap (λ (b : Bool). is_peer peer p || b) (restarted_known peer clock ps)

restarted_on : (peer : Endpoint) (clock : ℕ) (ps : List Peer) → AllByRecursion (λ p. is_peer peer p ≡ true → is_dropped p ≡ false) ps → AllByRecursion (IsOn peer) (map {B = Peer} (reopened clock) ps)
restarted_on peer clock [] listed = tt
restarted_on peer clock (p ∷ ps) listed = (λ here. and_right p.over (is_dropped p) (listed.0 here), restarted_on peer clock ps listed.1)

-- an allocation that was just opened
pub opened_calm : (state : State) (r : Request) (relayed mapped : Endpoint) (lifetime : ℕ) → state.clock + seconds 60 ≤ r.since + seconds lifetime → 80 ≤ lifetime → IsCalm (opened r relayed mapped lifetime state) × IsInTime 0 (opened r relayed mapped lifetime state)
    × ((peer : Endpoint) → list_any (is_peer peer) (opened r relayed mapped lifetime state).peers ≡ list_any (is_peer peer) state.peers)
    × ((peer : Endpoint) → AllByRecursion (λ p. is_peer peer p ≡ true → is_dropped p ≡ false) state.peers → AllByRecursion (IsOn peer) (opened r relayed mapped lifetime state).peers)
opened_calm state r relayed mapped lifetime soon useful = (
  record { allocation = refl; free = refl; time = omega (arith, useful); peers = restarted_calm state.clock state.peers },
  record { allocation = omega (arith, soon); peers = restarted_in_time state.clock state.peers },
  λ peer. restarted_known peer state.clock state.peers,
  λ peer listed. restarted_on peer state.clock state.peers listed,
)

-- ---- The same as events

run_reply : (setup : Setup) (lifetime now : ℕ) (o : Output) (events : List Timed) → run setup (reply_events setup lifetime now o ++ events) ≡ replied setup lifetime now (run setup events) o
run_reply setup lifetime now (asks r others) events = refl
run_reply setup lifetime now (send_to peer bytes) events = refl
run_reply setup lifetime now (send_on number bytes) events = refl
run_reply setup lifetime now (shows peer bytes) events = refl
run_reply setup lifetime now nothing events = refl

run_exchanges : (setup : Setup) (lifetime now fresh n : ℕ) (events : List Timed) → run setup (exchanges_events setup lifetime now fresh n events) ≡ exchanges setup lifetime now fresh n (run setup events)
run_exchanges setup lifetime now fresh zero events = refl
run_exchanges setup lifetime now fresh (suc n) events =
    let before = exchanges_events setup lifetime now fresh n events in
    run_reply setup lifetime now (step setup (run setup before) now (fresh + n) polls).output (record { now = now; fresh = fresh + n; event = polls } ∷ before)
    ∙ ap (exchange setup lifetime now (fresh + n)) (run_exchanges setup lifetime now fresh n events)

pub run_rounds : (setup : Setup) (lifetime fresh : ℕ) (moments : List ℕ) (events : List Timed) → run setup (rounds_events setup lifetime fresh moments events) ≡ rounds setup lifetime fresh moments (run setup events)
run_rounds setup lifetime fresh [] events = refl
run_rounds setup lifetime fresh (now ∷ earlier) events =
    let before = rounds_events setup lifetime fresh earlier events in
    run_exchanges setup lifetime now fresh (suc (length (run setup before).peers)) before
    ∙ ap (λ (s : State). exchanges setup lifetime now fresh (suc (length s.peers)) s) (run_rounds setup lifetime fresh earlier events)

-- so each run goes on punctually
pub run_punctual : (setup : Setup) (events : List Timed) (lifetime fresh late slack now later : ℕ) (earlier : List ℕ) (named peer : Endpoint) → 0 < setup.most_sends → 80 ≤ lifetime → late + slack < seconds 20 → IsCalm (run setup events) → IsInTime 0 (run setup events)
    → is_ip peer.ip named.ip ≡ true → list_any (is_peer named) (run setup events).peers ≡ true → AllByRecursion (IsOn named) (run setup events).peers → AreClose setup lifetime fresh late (now ∷ earlier) (run setup events) → later ≤ (run setup (rounds_events setup lifetime fresh (now ∷ earlier) events)).clock + late
    → IsPunctual late slack named peer (at later (run setup (rounds_events setup lifetime fresh (now ∷ earlier) events)))
run_punctual setup events lifetime fresh late slack now later earlier named peer some useful less calm in_time same_ip known on close soon =
    let same = run_rounds setup lifetime fresh (now ∷ earlier) events in
    subst (λ (s : State). IsPunctual late slack named peer (at later s)) (sym same)
    (stays_punctual setup (run setup events) lifetime fresh late slack now later earlier named peer some useful less calm in_time same_ip known on close (subst (λ (s : State). later ≤ s.clock + late) same soon))
