-- What one request for several peers names, and what its responses change.
use Rattle.std.proofs.Common.{◌≡◌, ℕ, ◌+◌, ◌-◌, ◌<◌, ◌≤◌, inl, inr, Bool, true, false, not, ◌&&◌, ◌||◌, List, [], ◌∷◌, length, Option, None, Some, refl, sym, ap, subst, ◌∙◌, arith, find, zero, suc, ltb-true, eqb-true, eq-eqb}
use Rattle.std.specs.List.{list_any}
use Rattle.std.specs.Option.{option_map, option_map_or}
use Rattle.std.specs.Prelude.{◌==◌, max, nat_lt, is_some, if◌then◌else◌}
use Rattle.std.proofs.lemmas.Bool.{cond_both, cond-true, cond-false, and_from, or_from, or_right, cases_Bool, true≢false, false_from_ne_true}
use Rattle.stun_endpoints.proofs.AddressesLemmas.{endpoint_is_itself}
use Rattle.turn_machine.specs.Lists.{SomeOf}
use Rattle.turn_client_machine.specs.Clients.{Endpoint, is_endpoint, seconds, Setup, Kind, Permit, Request, Pending, Phase, Allocated, Rejected, Task, Peer, State, is_allocated, is_active, is_peer}
use Rattle.turn_client_machine.specs.Events.{Answer, Done, Refused, responds, polls, Event, Output, asks, send_to, send_on, shows, nothing}
use Rattle.turn_client_machine.specs.Tasks.{awaits, is_due, is_expired, may_send, request_now, turn_output}
use Rattle.turn_client_machine.specs.Responses.{asks_instead, awaits_of, changed_each, granted, granted_by, given_up, turned_down, answered_any, answered_peer, ends, with_peers}
use Rattle.turn_client_machine.specs.Steps.{Step, keeps, at, turns, turns_peer, polled, happens, step, kind_in, kind_of, own_task, is_free, is_next, is_under_way, takes_along, most_others, others_of, others_at, turned_first}
use Rattle.turn_client_machine.specs.Renewing.{is_renewed}
use Rattle.turn_client_machine.specs.Runs.{Timed, run, happening, history}
use Rattle.turn_client_machine.specs.Warrants.{AsksFor, IsPartOf}
use Rattle.turn_client_machine.specs.Identified.{AreDistinct, IsUnderWay, IsAwaitedBy}
use Rattle.turn_client_machine.specs.Sharing.{NamesFew, IsWaiting, is_alone}
use Rattle.turn_client_machine.proofs.ListsLemmas.{some_any, any_after}
use Rattle.turn_client_machine.proofs.ServerEnds.{some_out}
use Rattle.turn_client_machine.proofs.JoiningLemmas.{fit_parts, takes_parts, length_others}
use Rattle.turn_client_machine.proofs.RightLemmas.{run_right, asked_polls}
use Rattle.turn_client_machine.proofs.IdentifiedLemmas.{under_way_sent, asked_once}

-- ---- How many peers a request names

turn_names : (setup : Setup) (clock fresh : ℕ) (kind : Kind) (challenge : Option ℕ) (others : List Endpoint) (t : Task) → length others < max 1 setup.most_named → NamesFew setup (turn_output setup clock fresh kind challenge others t)
turn_names setup clock fresh kind challenge others t few = cond_both (may_send setup t) (asks (request_now clock fresh kind challenge t) others) nothing (NamesFew setup) (λ _. few) (λ _. tt)

others_few : (setup : Setup) (clock fresh : ℕ) (challenge : Option ℕ) (along : Bool) (ps : List Peer) → (along ≡ true → nat_lt 1 setup.most_named ≡ true) → length (others_of setup clock fresh challenge (most_others setup along) ps) < max 1 setup.most_named
others_few setup clock fresh challenge true ps named =
    let le = length_others setup clock fresh challenge (setup.most_named - 1) ps in
    let more = ltb-true 1 setup.most_named (named refl) in
    omega (arith, le, more)
others_few setup clock fresh challenge false ps named = omega arith

peer_names : (setup : Setup) (fresh : ℕ) (free : Bool) (s : State) (o : Option Peer) → NamesFew setup (option_map_or (turns_peer setup fresh free s) o (keeps s)).output
peer_names setup fresh free s None = tt
peer_names setup fresh free s (Some p) =
    let along = takes_along setup s.clock s.peers p in
    let others = others_at setup fresh free along s in
    cond_both (is_expired s.clock p.task) nothing (turn_output setup s.clock fresh (kind_of p) s.challenge others (own_task p)) (NamesFew setup) (λ _. tt)
    (λ _. turn_names setup s.clock fresh (kind_of p) s.challenge others (own_task p)
    (others_few setup s.clock fresh s.challenge along (turned_first setup fresh free along s) (λ taken. (takes_parts setup s.clock s.peers p taken).named)))

polled_names : (setup : Setup) (fresh : ℕ) (s : State) → NamesFew setup (polled setup fresh s).output
polled_names setup fresh s =
    cond_both (is_active s.phase && is_due s.clock s.task) _ _ (λ (x : Step). NamesFew setup x.output)
    (λ _. cond_both (is_expired s.clock s.task) _ _ (λ (x : Step). NamesFew setup x.output) (λ _. tt)
    (λ _. turn_names setup s.clock fresh (kind_in s.phase) s.challenge [] s.task (omega arith)))
    (λ _. cond_both (is_allocated s.phase) _ _ (λ (x : Step). NamesFew setup x.output)
    (λ _. peer_names setup fresh (is_free s.peers) s (find (is_next (is_free s.peers) s.clock) s.peers)) (λ _. tt))

names_of : (setup : Setup) (earlier : List Timed) (timed : Timed) (o : Output) → (happening setup (run setup earlier) timed).output ≡ o → NamesFew setup o
names_of setup earlier timed (asks r others) is =
    let s = at timed.now (run setup earlier) in
    let h = happening setup (run setup earlier) timed in
    let poll = asked_polls setup (history setup earlier) h.moment h.event h.output r (run_right setup earlier timed) (subst (AsksFor r) (sym is) (inl refl)) in
    subst (NamesFew setup) (ap (λ (e : Event). (happens setup timed.fresh s e).output) (sym poll) ∙ is) (polled_names setup timed.fresh s)
names_of setup earlier timed (send_to peer bytes) is = tt
names_of setup earlier timed (send_on number bytes) is = tt
names_of setup earlier timed (shows peer bytes) is = tt
names_of setup earlier timed nothing is = tt

pub run_names : (setup : Setup) (earlier : List Timed) (timed : Timed) → NamesFew setup (happening setup (run setup earlier) timed).output
run_names setup earlier timed = names_of setup earlier timed (happening setup (run setup earlier) timed).output refl

-- ---- One time for all

part_since : (first : Request) (others : List Endpoint) (r : Request) → IsPartOf first others r → r.since ≡ first.since
part_since first others r (inl same) = ap (λ (x : Request). x.since) same
part_since first others r (inr along) = some_out (λ other. r ≡ record first { kind = Permit other }) (r.since ≡ first.since) (λ other same. ap (λ (x : Request). x.since) same) others along.named

pub run_same : (setup : Setup) (events : List Timed) (r other : Request) → AreDistinct events → IsUnderWay (run setup events) r → IsUnderWay (run setup events) other → r.id ≡ other.id → r.since ≡ other.since
run_same setup events r other distinct one two id =
    let both = asked_once setup events r other distinct (under_way_sent setup events r one) (under_way_sent setup events other two) id in
    part_since both.first both.others r both.one ∙ sym (part_since both.first both.others other both.two)

-- ---- The responses

record IsPendingFor (r : Request) (o : Option Pending) : Type 0 where
  q : Pending
  is : o ≡ Some q
  same : q.request ≡ r

pending_for : (r : Request) (o : Option Pending) → option_map (λ (q : Pending). q.request) o ≡ Some r → IsPendingFor r o
pending_for r None is = absurd cc
pending_for r (Some q) is = record { q = q; is = refl; same = cc }

waits_for : (address : Endpoint) (r : Request) (p : Peer) → IsWaiting address r p → awaits_of r.id p ≡ true
waits_for address r p w =
    let o = pending_for r p.task.pending w.awaits in
    ap (λ (x : Option Pending). option_map_or (λ (q : Pending). q.request.id == r.id) x false) o.is ∙ eq-eqb o.q.request.id r.id (ap (λ (x : Request). x.id) o.same)

permit_renewed : (address : Endpoint) (r : Request) (p : Peer) (peer : Endpoint) → is_peer address p ≡ true → p.over ≡ false → is_renewed r.since false address (granted_by r (Permit peer) p) ≡ true
permit_renewed address r p peer here on =
    let due : max (r.since + seconds 300 - seconds 60) (r.since + seconds 150) ≡ r.since + seconds 240 = omega arith in
    and_from (is_peer address p) _ here (and_from (not p.over) _ (ap not on) (and_from (r.since + seconds 300 == r.since + seconds 300) _ (eq-eqb (r.since + seconds 300) (r.since + seconds 300) refl)
    (and_from (max (r.since + seconds 300 - seconds 60) (r.since + seconds 150) == r.since + seconds 240) _ (eq-eqb (max (r.since + seconds 300 - seconds 60) (r.since + seconds 150)) (r.since + seconds 240) due) refl)))

waiting_renewed : (address : Endpoint) (r : Request) (p : Peer) → IsWaiting address r p → is_renewed r.since false address (granted p) ≡ true
waiting_renewed address r p w =
    let o = pending_for r p.task.pending w.awaits in
    let it : granted p ≡ granted_by r (Permit p.address) p =
    ap (λ (x : Option Pending). option_map_or (λ (q : Pending). granted_by q.request q.request.kind p) x p) o.is
    ∙ (ap (λ (x : Request). granted_by x x.kind p) o.same ∙ ap (λ (k : Kind). granted_by r k p) w.kind) in
    subst (λ (q : Peer). is_renewed r.since false address q ≡ true) (sym it) (permit_renewed address r p p.address w.here w.on)

-- a response to a request for peers
peer_response : (setup : Setup) (state : State) (now fresh id : ℕ) (answer : Answer) → state.phase ≡ Allocated → awaits id state.task ≡ false → list_any (awaits_of id) state.peers ≡ true
    → (step setup state now fresh (responds setup.server id true answer)).state ≡ answered_peer setup id true answer (at now state)
peer_response setup state now fresh id answer phase other some =
    let st = at now state in
    let active : is_active st.phase ≡ true = ap is_active phase in
    let there : is_allocated st.phase ≡ true = ap is_allocated phase in
    cond-true (is_endpoint setup.server setup.server && is_active st.phase) (answered_any setup id true answer st) st (and_from (is_endpoint setup.server setup.server) (is_active st.phase) (endpoint_is_itself setup.server) active)
    ∙ (cond-false (awaits id st.task) _ _ other
    ∙ cond-true (is_allocated st.phase && list_any (awaits_of id) st.peers) (answered_peer setup id true answer st) st (and_from (is_allocated st.phase) (list_any (awaits_of id) st.peers) there some))

pub all_granted : (setup : Setup) (state : State) (now fresh : ℕ) (r : Request) (address : Endpoint) → state.phase ≡ Allocated → awaits r.id state.task ≡ false → SomeOf (IsWaiting address r) state.peers
    → list_any (is_renewed r.since false address) (step setup state now fresh (responds setup.server r.id true Done)).state.peers ≡ true
all_granted setup state now fresh r address phase other some =
    let renews = is_renewed r.since false address in
    let good : Peer → Bool = λ p. awaits_of r.id p && renews (granted p) in
    let both = any_after (awaits_of r.id) renews granted state.peers
    (some_any (IsWaiting address r) good (λ p w. and_from (awaits_of r.id p) (renews (granted p)) (waits_for address r p w) (waiting_renewed address r p w)) state.peers some) in
    subst (λ (s : State). list_any renews s.peers ≡ true) (sym (peer_response setup state now fresh r.id Done phase other both.0)) both.1

now_alone : (clock code : ℕ) (p : Peer) → p.over ≡ false → p.shared ≡ true → asks_instead code p ≡ true → is_alone p.address (turned_down clock code p) ≡ true
now_alone clock code p on shared instead =
    cond_both (asks_instead code p) _ (given_up code p) (λ (q : Peer). is_alone p.address q ≡ true)
    (λ _. and_from (is_endpoint p.address p.address) _ (endpoint_is_itself p.address) (and_from (not p.over) _ (ap not on) (and_from p.shared true shared refl)))
    (λ isnt. absurd (true≢false (sym instead ∙ isnt)))

pub all_alone : (setup : Setup) (state : State) (now fresh code : ℕ) (r : Request) (p : Peer) → state.phase ≡ Allocated → awaits r.id state.task ≡ false → (code ≡ 437 → ⊥) → (code ≡ 401 → ⊥) → (code ≡ 438 → ⊥) → p.shared ≡ true
    → IsWaiting p.address r p → SomeOf (λ q. q ≡ p) state.peers
    → list_any (is_alone p.address) (step setup state now fresh (responds setup.server r.id true (Refused code))).state.peers ≡ true
all_alone setup state now fresh code r p phase other kept allowed_401 allowed_438 shared w some =
    let instead : asks_instead code p ≡ true = and_from (p.wants || p.shared) (not ((code == 401) || (code == 438))) (or_right p.wants p.shared shared)
    (ap not (or_from (code == 401) (code == 438) (false_from_ne_true (code == 401) (λ is. allowed_401 (eqb-true code 401 is))) (false_from_ne_true (code == 438) (λ is. allowed_438 (eqb-true code 438 is))))) in
    let st = at now state in
    let alone = is_alone p.address in
    let down = turned_down st.clock code in
    let good : Peer → Bool = λ q. awaits_of r.id q && alone (down q) in
    let mine : good p ≡ true = and_from (awaits_of r.id p) (alone (down p)) (waits_for p.address r p w) (now_alone st.clock code p w.on shared instead) in
    let both = any_after (awaits_of r.id) alone down state.peers (some_any (λ q. q ≡ p) good (λ q same. subst (λ (x : Peer). good x ≡ true) (sym same) mine) state.peers some) in
    let isnt : (code == 437) ≡ false = false_from_ne_true (code == 437) (λ is. kept (eqb-true code 437 is)) in
    subst (λ (s : State). list_any alone s.peers ≡ true)
    (sym (peer_response setup state now fresh r.id (Refused code) phase other both.0 ∙ cond-false (code == 437) (ends (Rejected 437) st) (with_peers r.id down st) isnt)) both.1

pub none_along : (setup : Setup) (state : State) (fresh : ℕ) (p : Peer) → p.shared ≡ true → others_at setup fresh true (takes_along setup state.clock state.peers p) state ≡ []
none_along setup state fresh p shared =
    let isnt : takes_along setup state.clock state.peers p ≡ false = false_from_ne_true (takes_along setup state.clock state.peers p)
    (λ taken. true≢false (sym shared ∙ (fit_parts state.clock p (takes_parts setup state.clock state.peers p taken).fit).shared)) in
    ap (λ (along : Bool). others_at setup fresh true along state) isnt
