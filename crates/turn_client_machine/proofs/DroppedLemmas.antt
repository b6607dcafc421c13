-- A peer that the user has dropped stays so until they ask for it again, and nothing is sent to it or shown from it.
use Rattle.std.proofs.Common.{◌≡◌, ℕ, ◌+◌, inl, inr, ◌⊎◌, Bool, true, false, not, ◌&&◌, ◌||◌, List, [], ◌∷◌, ◌++◌, Option, None, Some, find, refl, sym, ap, subst, ◌∙◌, arith, ltb-true}
use mathlib.Core.Logic.{⊎_elim}
use Rattle.std.specs.List.{AllByRecursion, list_any}
use Rattle.std.specs.Option.{option_map_or}
use Rattle.std.specs.Prelude.{◌==◌, nat_lt, if◌then◌else◌}
use Rattle.std.proofs.lemmas.Bool.{cond_both, and_parts, and_from, or_cases, or_left, or_right, or_parts, cases_Bool, true≢false, false_from_ne_true, not_from_false}
use Rattle.stun_endpoints.proofs.AddressesLemmas.{endpoint_same}
use Rattle.turn_client_machine.specs.Clients.{Endpoint, is_ip, is_endpoint, seconds, Setup, Kind, Allocate, Refresh, Delete, Permit, Bind, Pending, Task, Peer, State, is_allocated, is_active, is_peer, is_dropped, is_permitted, has_channel, is_bind, is_binding, hears}
use Rattle.turn_client_machine.specs.Events.{Event, allocates, permits, binds, drops, sends, closes, responds, gives, gives_on, strays, polls, send_to, send_on, shows, nothing}
use Rattle.turn_client_machine.specs.Tasks.{request_now, may_send, is_due, is_expired, turn_output}
use Rattle.turn_client_machine.specs.Responses.{changed_first, granted, turned_down, challenged, violated_by}
use Rattle.turn_client_machine.specs.Steps.{Step, turned_of, wanting, keeps, at, is_ready, sent_by, dropped, is_listed, kind_in, kind_of, is_next, is_free, turns_peer, polled, happens, takes_along, others_at, own_task, most_others, turned_first}
use Rattle.turn_client_machine.specs.Dropping.{IsGone, IsGoneAt, IsUnnamed, is_for, is_shared, IsQuiet}
use Rattle.turn_client_machine.specs.Runs.{Timed, Happening, run, happening, history}
use Rattle.turn_client_machine.proofs.ListsLemmas.{found, each_pair, each_map}
use Rattle.turn_client_machine.proofs.Keeping.{PeerChanges, happens_each}
use Rattle.turn_client_machine.proofs.Backed.{IsPending, IsBacked, is_main, WasSent}
use Rattle.turn_client_machine.proofs.BackedLemmas.{IsKept, kind_is, main_kind, run_kept}
use Rattle.turn_client_machine.proofs.NumbersLemmas.{IsSame, granted_same, turned_down_same, challenged_same, violated_same, turned_same, wanting_same}
use Rattle.turn_client_machine.proofs.StayingLemmas.{same_endpoint}
use Rattle.turn_client_machine.proofs.TidyLemmas.{AreOnce, run_once, IsTidy, run_tidy, awaits_none, next_on}
use Rattle.turn_client_machine.proofs.JoiningLemmas.{own_pending, others_each, IfOn, turned_each}

-- ---- It is dropped

not_there : (address : Endpoint) (ps : List Peer) → list_any (is_peer address) ps ≡ false → AllByRecursion (IsGoneAt address) ps
not_there address [] none = tt
not_there address (p ∷ ps) none = let both = or_parts (is_peer address p) (list_any (is_peer address) ps) none in (λ here. absurd (true≢false (sym here ∙ both.0)), not_there address ps both.1)

gone_at_once : (address : Endpoint) (clock : ℕ) (ps : List Peer) → AreOnce ps → AllByRecursion IsTidy ps → AllByRecursion (IsGoneAt address) (changed_first (is_listed address) (dropped clock) ps)
gone_at_once address clock [] once tidy = tt
gone_at_once address clock (p ∷ ps) once tidy =
    cond_both (is_listed address p) _ _ (AllByRecursion (IsGoneAt address))
    (λ listed. (
      λ _. record { dropped = refl; over = refl; permission = refl; channel = refl; free = refl },
      not_there address ps (subst (λ (e : Endpoint). list_any (is_peer e) ps ≡ false) (sym (endpoint_same address p.address (and_parts (is_peer address p) (not (is_dropped p)) listed).0)) once.0),
    ))
    (λ isnt. (
      λ here. ⊎_elim (λ d. tidy.0.gone d) (λ no. absurd (true≢false (sym (and_from (is_peer address p) (not (is_dropped p)) here (not_from_false (is_dropped p) no)) ∙ isnt))) (cases_Bool (is_dropped p)),
      gone_at_once address clock ps once.1 tidy.1,
    ))

-- ---- It stays so

same_here : (address : Endpoint) (p q : Peer) → IsSame p q → is_peer address q ≡ true → is_peer address p ≡ true
same_here address p q same here = subst (λ (e : Endpoint). is_endpoint address e ≡ true) same.1 here

not_named : (address other : Endpoint) (event : Event) → (event ≡ permits address → ⊥) → (event ≡ binds address → ⊥) → (event ≡ permits other) ⊎ (event ≡ binds other) → is_endpoint address other ≡ true → ⊥
not_named address other event not_permitted not_bound named here =
    let same = sym (endpoint_same address other here) in
    ⊎_elim (λ is. not_permitted (is ∙ ap (λ (e : Endpoint). permits e) same)) (λ is. not_bound (is ∙ ap (λ (e : Endpoint). binds e) same)) named

gone_changes : (address : Endpoint) (setup : Setup) (fresh : ℕ) (state : State) (event : Event) → (event ≡ permits address → ⊥) → (event ≡ binds address → ⊥) → PeerChanges (IsGoneAt address) setup fresh state event
gone_changes address setup fresh state event not_permitted not_bound = record {
  new = λ wants other peers is _ here. absurd (not_named address other event not_permitted not_bound is here);
  replaces = λ wants other p is _ _ _ here. absurd (not_named address other event not_permitted not_bound is here);
  drops_it = λ p other _ _ _ _. record { dropped = refl; over = refl; permission = refl; channel = refl; free = refl };
  reopens = λ p q _ _ gone here. let g = gone here in record { dropped = g.dropped; over = and_from p.over (is_dropped p) g.over g.dropped; permission = refl; channel = refl; free = refl };
  restarts = λ p why gone here. absurd (not_permitted (why.1 ∙ ap (λ (e : Endpoint). permits e) (sym (endpoint_same address why.0 (same_endpoint address p.address why.0 here why.2)))));
  wants = λ p other is named_it gone here. absurd (not_bound (is ∙ ap (λ (e : Endpoint). binds e) (sym (endpoint_same address other (same_endpoint address p.address other (same_here address p (wanting state.clock p) (wanting_same state.clock p) here) named_it)))));
  grants = λ p id genuine awaited gone here. awaits_none id p awaited (gone (same_here address p (granted p) (granted_same p) here)).free;
  turns_down = λ p id code genuine awaited found gone here. awaits_none id p awaited (gone (same_here address p (turned_down state.clock code p) (turned_down_same state.clock code p) here)).free;
  challenges_it = λ p is awaited found gone here. awaits_none is.id p awaited (gone (same_here address p (challenged setup state.challenge state.clock is.code p) (challenged_same setup state.challenge state.clock is.code p) here)).free;
  violates_it = λ p is awaited found gone here. awaits_none is.id p awaited (gone (same_here address p (violated_by setup p) (violated_same setup p) here)).free;
  turns_it = λ p along is on out gone here.
      absurd (true≢false (sym (gone (same_here address p (turned_of along setup state.clock fresh state.challenge p) (turned_same along setup state.clock fresh state.challenge p) here)).over ∙ on));
}

pub run_gone : (setup : Setup) (since earlier : List Timed) (drop : Timed) (address : Endpoint) → drop.event ≡ drops address → AllByRecursion (IsUnnamed address) since → AllByRecursion (IsGoneAt address) (run setup (since ++ drop ∷ earlier)).peers
run_gone setup [] earlier drop address is unnamed =
    let s = at drop.now (run setup earlier) in
    subst (λ (e : Event). AllByRecursion (IsGoneAt address) (happens setup drop.fresh s e).state.peers) (sym is)
    (gone_at_once address s.clock s.peers (run_once setup earlier) (run_tidy setup earlier))
run_gone setup (timed ∷ since) earlier drop address is unnamed =
    let s = at timed.now (run setup (since ++ drop ∷ earlier)) in
    happens_each (IsGoneAt address) setup timed.fresh s timed.event (gone_changes address setup timed.fresh s timed.event unnamed.0.0 unnamed.0.1) (run_gone setup since earlier drop address is unnamed.1)

-- ---- Nothing is sent to it or shown from it

not_permitted : (now : ℕ) (address : Endpoint) (p : Peer) → IsGoneAt address p → is_permitted now address.ip p ≡ true → is_peer address p ≡ false
not_permitted now address p gone permitted =
    false_from_ne_true (is_peer address p) (λ here.
    let some = ltb-true now p.expires_at (and_parts (is_ip address.ip p.address.ip) (nat_lt now p.expires_at) permitted).1 in
    let none = (gone here).permission in
    omega (arith, some, none))

-- a permission of its IP address is another peer's
shared_by : (now : ℕ) (address : Endpoint) (ps : List Peer) → AllByRecursion (IsGoneAt address) ps → list_any (is_permitted now address.ip) ps ≡ true → is_shared now address ps ≡ true
shared_by now address [] gone some = absurd cc
shared_by now address (p ∷ ps) gone some = elim (or_cases (is_permitted now address.ip p) (list_any (is_permitted now address.ip) ps) some) [
  | inl here ↦ or_left (is_permitted now address.ip p && not (is_peer address p)) (is_shared now address ps) (and_from (is_permitted now address.ip p) (not (is_peer address p)) here (not_from_false (is_peer address p) (not_permitted now address p gone.0 here)))
  | inr more ↦ or_right (is_permitted now address.ip p && not (is_peer address p)) (is_shared now address ps) (shared_by now address ps gone.1 more)
]

no_channel : {R : Type 0} (now : ℕ) (address : Endpoint) (p : Peer) → IsGoneAt address p → has_channel now address p ≡ true → R
no_channel now address p gone has =
    let one = and_parts (is_peer address p) (nat_lt now p.expires_at && nat_lt (now + seconds 20) p.channel_expires_at) has in
    let some = ltb-true now p.expires_at (and_parts (nat_lt now p.expires_at) (nat_lt (now + seconds 20) p.channel_expires_at) one.1).0 in
    let none = (gone one.0).permission in
    absurd (omega (arith, some, none))

sent_quiet : (address other : Endpoint) (bytes : List ℕ) (s : State) → AllByRecursion (IsGoneAt address) s.peers → IsQuiet address (is_shared s.clock address s.peers) (sends other bytes) (sent_by other bytes s)
sent_quiet address other bytes s gone =
    found (IsGoneAt address) (has_channel s.clock other)
    (λ o. IsQuiet address (is_shared s.clock address s.peers) (sends other bytes) (option_map_or (λ (p : Peer). send_on p.number bytes) o (if list_any (is_permitted s.clock other.ip) s.peers then send_to other bytes else nothing)))
    (cond_both (list_any (is_permitted s.clock other.ip) s.peers) _ _ (IsQuiet address (is_shared s.clock address s.peers) (sends other bytes))
    (λ some here. shared_by s.clock address s.peers gone (subst (λ (e : Endpoint). list_any (is_permitted s.clock e.ip) s.peers ≡ true) (sym (endpoint_same address other here)) some))
    (λ _. tt))
    s.peers
    (λ p has g is. let same : other ≡ address = cc in no_channel s.clock address p g (subst (λ (e : Endpoint). has_channel s.clock e p ≡ true) same has))
    gone

hears_gone : {R : Type 0} (now number : ℕ) (ps : List Peer) (p : Peer) → IsGone p → hears now number ps p ≡ true → R
hears_gone now number ps p gone hears_it =
    let its = list_any (is_permitted now p.address.ip) ps in
    absurd (elim (or_cases (nat_lt now p.channel_expires_at) (is_binding p && its) (and_parts (p.number == number) (nat_lt now p.channel_expires_at || (is_binding p && its)) hears_it).1) [
      | inl live ↦ let some = ltb-true now p.channel_expires_at live in let none = gone.channel in omega (arith, some, none)
      | inr binding ↦ true≢false (sym (and_parts (is_binding p) its binding).0 ∙ ap (λ (o : Option Pending). option_map_or (λ (q : Pending). is_bind q.request.kind) o false) gone.free)
    ])

given_on_quiet : (address from : Endpoint) (number : ℕ) (bytes : List ℕ) (s : State) → AllByRecursion (IsGoneAt address) s.peers
    → IsQuiet address (is_shared s.clock address s.peers) (gives_on from number bytes) (option_map_or (λ (p : Peer). shows p.address bytes) (find (hears s.clock number s.peers) s.peers) nothing)
given_on_quiet address from number bytes s gone =
    found (IsGoneAt address) (hears s.clock number s.peers)
    (λ o. IsQuiet address (is_shared s.clock address s.peers) (gives_on from number bytes) (option_map_or (λ (p : Peer). shows p.address bytes) o nothing)) tt s.peers
    (λ p heard g here. hears_gone s.clock number s.peers p (g here) heard) gone

-- ---- No request is for it

main_for : (address : Endpoint) (kind : Kind) → is_main kind ≡ true → is_for address kind ≡ false
main_for address Allocate is = refl
main_for address Refresh is = refl
main_for address Delete is = refl
main_for address (Permit peer) is = absurd cc
main_for address (Bind number peer) is = absurd cc

for_other : (address : Endpoint) (p : Peer) (kind : Kind) → is_peer address p ≡ false → (kind ≡ Permit p.address) ⊎ (kind ≡ Bind p.number p.address) → is_for address kind ≡ false
for_other address p kind isnt (inl is) = ap (is_for address) is ∙ isnt
for_other address p kind isnt (inr is) = ap (is_for address) is ∙ isnt

main_quiet : (address : Endpoint) (shared : Bool) (event : Event) (setup : Setup) (hs : List Happening) (clock fresh : ℕ) (kind : Kind) (challenge : Option ℕ) (o : Option Pending) → is_main kind ≡ true → WasSent hs o
    → is_for address (option_map_or (λ (q : Pending). q.request) o (record { id = fresh; kind = kind; challenge = challenge; since = clock })).kind ≡ false
main_quiet address shared event setup hs clock fresh kind challenge None main sent = main_for address kind main
main_quiet address shared event setup hs clock fresh kind challenge (Some q) main sent = main_for address q.request.kind sent.1

peer_quiet : (address : Endpoint) (hs : List Happening) (clock fresh : ℕ) (p : Peer) (challenge : Option ℕ) (o : Option Pending) → is_peer address p ≡ false → IsPending hs p.address p.number o
    → is_for address (option_map_or (λ (q : Pending). q.request) o (record { id = fresh; kind = kind_of p; challenge = challenge; since = clock })).kind ≡ false
peer_quiet address hs clock fresh p challenge None isnt pending = for_other address p (kind_of p) isnt (kind_is p)
peer_quiet address hs clock fresh p challenge (Some q) isnt pending = for_other address p q.request.kind isnt pending.kind

turn_quiet : (address : Endpoint) (shared : Bool) (event : Event) (setup : Setup) (clock fresh : ℕ) (kind : Kind) (challenge : Option ℕ) (others : List Endpoint) (t : Task) → is_for address (request_now clock fresh kind challenge t).kind ≡ false
    → AllByRecursion (λ other. is_endpoint address other ≡ false) others → IsQuiet address shared event (turn_output setup clock fresh kind challenge others t)
turn_quiet address shared event setup clock fresh kind challenge others t isnt none = cond_both (may_send setup t) _ _ (IsQuiet address shared event) (λ _. (isnt, none)) (λ _. tt)

polled_quiet : (address : Endpoint) (shared : Bool) (setup : Setup) (fresh : ℕ) (hs : List Happening) (s : State) → IsKept setup hs s → AllByRecursion (IsGoneAt address) s.peers → IsQuiet address shared polls (polled setup fresh s).output
polled_quiet address shared setup fresh hs s k gone =
    cond_both (is_active s.phase && is_due s.clock s.task) _ _ (λ (x : Step). IsQuiet address shared polls x.output)
    (λ due. cond_both (is_expired s.clock s.task) _ _ (λ (x : Step). IsQuiet address shared polls x.output) (λ _. tt)
    (λ fit. turn_quiet address shared polls setup s.clock fresh (kind_in s.phase) s.challenge [] s.task (main_quiet address shared polls setup hs s.clock fresh (kind_in s.phase) s.challenge s.task.pending (main_kind s.phase) k.main.pending) tt))
    (λ _. cond_both (is_allocated s.phase) _ _ (λ (x : Step). IsQuiet address shared polls x.output)
    (λ _. found (λ p. IsBacked setup.server hs p × IsGoneAt address p) (is_next (is_free s.peers) s.clock) (λ o. IsQuiet address shared polls (option_map_or (turns_peer setup fresh (is_free s.peers) s) o (keeps s)).output) tt s.peers
    (λ p next b. cond_both (is_expired s.clock p.task) _ _ (IsQuiet address shared polls) (λ _. tt)
    (λ _. let along = takes_along setup s.clock s.peers p in turn_quiet address shared polls setup s.clock fresh (kind_of p) s.challenge (others_at setup fresh (is_free s.peers) along s) (own_task p)
    (peer_quiet address hs s.clock fresh p s.challenge (own_task p).pending
    (false_from_ne_true (is_peer address p) (λ here. true≢false (sym (b.1 here).over ∙ next_on (is_free s.peers) s.clock p next))) (own_pending (IsPending hs p.address p.number) p tt b.0.pending))
    (others_each (λ other. is_endpoint address other ≡ false) setup s.clock fresh s.challenge (most_others setup along) (turned_first setup fresh (is_free s.peers) along s)
    (turned_each (λ other. is_endpoint address other ≡ false) along setup s.clock fresh s.challenge (is_next (is_free s.peers) s.clock) s.peers
    (each_map (IsGoneAt address) (IfOn (λ other. is_endpoint address other ≡ false)) (λ q gone_it on. false_from_ne_true (is_peer address q) (λ here. true≢false (sym (gone_it here).over ∙ on))) s.peers gone)))))
    (each_pair (IsBacked setup.server hs) (IsGoneAt address) s.peers k.each gone))
    (λ _. tt))

happens_quiet : (address : Endpoint) (setup : Setup) (fresh : ℕ) (hs : List Happening) (s : State) (event : Event) → IsKept setup hs s → AllByRecursion (IsGoneAt address) s.peers → IsQuiet address (is_shared s.clock address s.peers) event (happens setup fresh s event).output
happens_quiet address setup fresh hs s allocates k gone = tt
happens_quiet address setup fresh hs s (permits peer) k gone = tt
happens_quiet address setup fresh hs s (binds peer) k gone = tt
happens_quiet address setup fresh hs s (drops peer) k gone = tt
happens_quiet address setup fresh hs s (sends peer bytes) k gone = cond_both (is_ready s) _ _ (IsQuiet address (is_shared s.clock address s.peers) (sends peer bytes)) (λ _. sent_quiet address peer bytes s gone) (λ _. tt)
happens_quiet address setup fresh hs s closes k gone = tt
happens_quiet address setup fresh hs s (responds from id authentic answer) k gone = tt
happens_quiet address setup fresh hs s (gives from peer bytes) k gone =
    let shared = is_shared s.clock address s.peers in
    cond_both (is_endpoint from setup.server && (is_allocated s.phase && list_any (is_permitted s.clock peer.ip) s.peers)) _ _ (IsQuiet address shared (gives from peer bytes))
    (λ yes here.
    let there = and_parts (is_allocated s.phase) (list_any (is_permitted s.clock peer.ip) s.peers) (and_parts (is_endpoint from setup.server) (is_allocated s.phase && list_any (is_permitted s.clock peer.ip) s.peers) yes).1 in
    (shared_by s.clock address s.peers gone (subst (λ (e : Endpoint). list_any (is_permitted s.clock e.ip) s.peers ≡ true) (sym (endpoint_same address peer here)) there.1), (from, refl)))
    (λ _. tt)
happens_quiet address setup fresh hs s (gives_on from number bytes) k gone =
    cond_both (is_endpoint from setup.server && is_allocated s.phase) _ _ (IsQuiet address (is_shared s.clock address s.peers) (gives_on from number bytes)) (λ _. given_on_quiet address from number bytes s gone) (λ _. tt)
happens_quiet address setup fresh hs s (strays from) k gone = tt
happens_quiet address setup fresh hs s polls k gone = polled_quiet address (is_shared s.clock address s.peers) setup fresh hs s k gone

pub run_quiet : (setup : Setup) (since earlier : List Timed) (drop next : Timed) (address : Endpoint) → drop.event ≡ drops address → AllByRecursion (IsUnnamed address) since
    → IsQuiet address (is_shared (at next.now (run setup (since ++ drop ∷ earlier))).clock address (run setup (since ++ drop ∷ earlier)).peers) next.event (happening setup (run setup (since ++ drop ∷ earlier)) next).output
run_quiet setup since earlier drop next address is unnamed =
    let events = since ++ drop ∷ earlier in
    let k = run_kept setup events in
    let s = at next.now (run setup events) in
    happens_quiet address setup next.fresh (history setup events) s next.event (record { main = k.main; each = k.each }) (run_gone setup since earlier drop address is unnamed)
