-- Why an allocation ends, and a peer is given up, in calls and datagrams.
use Rattle.std.proofs.Common.{◌≡◌, ◌∙◌, ℕ, Bool, true, false, inl, inr, ◌⊎◌, ◌&&◌, List, [], ◌∷◌, ◌++◌, refl, sym, ap, subst}
use Rattle.std.specs.List.{AllByRecursion, list_any}
use Rattle.std.proofs.lemmas.Bool.{and_parts, or_cases, true≢false}
use Rattle.turn_client_machine.specs.declared.requests.Answer.{Answer}
use Rattle.turn_client_machine.specs.declared.requests.Answer.TheVariants.{Opened, Extended, Done, Refused, Challenged, Redirected, Violated}
use Rattle.stun_endpoints.specs.declared.endpoints.Endpoint.{Endpoint}
use Rattle.turn_client_machine.specs.declared.peers.Peer.{Peer}
use Rattle.turn_client_machine.specs.Clients.{Setup, State, is_allocated, is_peer}
use Rattle.turn_client_machine.specs.Events.{Event, allocates, permits, binds, drops, sends, closes, responds, gives, gives_on, strays, polls}
use Rattle.turn_client_machine.specs.Lasting.{IsOn, IsOpen, IsReason, gives_up, is_bad, is_refusal}
use Rattle.turn_client_machine.specs.Responses.{awaits_of}
use Rattle.turn_client_machine.specs.Runs.{Timed, run}
use Rattle.turn_client_machine.specs.Steps.{at, step}
use Rattle.turn_client_messages.specs.Origins.{Answers}
use Rattle.turn_client_state.specs.States.{Held, setup_of}
use Rattle.turn_client.specs.Clients.{Client}
use Rattle.turn_client.specs.Receiving.{asked_by, event_at}
use Rattle.turn_client.specs.Runs.{Call, calls, takes, Moment, after_all, event_in, fresh_in, stepped, timed_all, IsBegun}
use Rattle.turn_client.specs.Histories.{AreCalls, is_of_network, IsCall, state_at}
use Rattle.turn_client.specs.Lasting.{IsEnd, IsServed, Spares, SparesBy}
use Rattle.turn_client.specs.Strangers.{IsResponse}
use Rattle.turn_client.proofs.HistoriesLemmas.{network_at}
use Rattle.turn_client.proofs.JudgedLemmas.{is_asking}
use Rattle.turn_client.proofs.RespondingLemmas.{JudgedAlone, JudgedSo, Responding, RespondingBy, responding}
use Rattle.turn_client.proofs.RunsLemmas.{held_run}

-- ---- A response that counts

counting : (client : Client) (from : Endpoint) (d : List ℕ) (id : ℕ) (authentic : Bool) (answer : Answer) → Responding client from d id authentic answer
    → (authentic ≡ true) ⊎ ((is_asking answer ≡ true) ⊎ (client.held.settings.is_reliable ≡ true)) → IsResponse client from d
counting client from d id authentic answer r why = record {
  is_server = r.is_server;
  request = r.request;
  awaits = r.awaits;
  answers = subst (λ (n : ℕ). Answers (asked_by client r.request) n d) (sym r.id_is) r.answers;
  counts = elim why [
    | inl sure ↦ elim (r.signed sure) [
      | inl challenge ↦ inr (inl challenge)
      | inr signed ↦ inl signed
    ]
    | inr other ↦ elim other [
      | inl asks ↦ inr (inl (r.asks asks))
      | inr reliable ↦ inr (inr reliable)
    ]
  ];
}

both_true : (a b : Bool) → (a && b) ≡ true → a ≡ true
both_true a b is = (and_parts a b is).0

bad_counts : (setup : Setup) (state : State) (id : ℕ) (authentic : Bool) (answer : Answer) → is_bad setup state id authentic answer ≡ true → (authentic ≡ true) ⊎ ((is_asking answer ≡ true) ⊎ (setup.is_reliable ≡ true))
bad_counts setup state id authentic (Opened relayed mapped lifetime) is = inl (both_true authentic _ is)
bad_counts setup state id authentic (Extended lifetime) is = inl (both_true authentic _ is)
bad_counts setup state id authentic Done is = absurd cc
bad_counts setup state id authentic (Refused code) is = inl (both_true authentic _ is)
bad_counts setup state id authentic (Challenged code challenge) is = inr (inl refl)
bad_counts setup state id authentic (Redirected server) is = inl is
bad_counts setup state id authentic Violated is = inr (inr is)

loss_counts : (setup : Setup) (state : State) (authentic : Bool) (answer : Answer) (p : Peer) → gives_up setup state authentic answer p ≡ true → (authentic ≡ true) ⊎ ((is_asking answer ≡ true) ⊎ (setup.is_reliable ≡ true))
loss_counts setup state authentic (Opened relayed mapped lifetime) p is = absurd cc
loss_counts setup state authentic (Extended lifetime) p is = absurd cc
loss_counts setup state authentic Done p is = absurd cc
loss_counts setup state authentic (Refused code) p is = inl (both_true authentic _ is)
loss_counts setup state authentic (Challenged code challenge) p is = inr (inl refl)
loss_counts setup state authentic (Redirected server) p is = absurd cc
loss_counts setup state authentic Violated p is = inr (inr is)

-- ---- Why an allocation ends

datagram_ends : (client : Client) (state : State) (from : Endpoint) (d : List ℕ) (e : Event) → is_of_network e ≡ true → RespondingBy client from d e → IsReason (setup_of client.held.settings) state e → IsResponse client from d
datagram_ends client state from d allocates network r why = absurd cc
datagram_ends client state from d (permits peer) network r why = absurd cc
datagram_ends client state from d (binds peer) network r why = absurd cc
datagram_ends client state from d (drops peer) network r why = absurd cc
datagram_ends client state from d (sends peer bytes) network r why = absurd cc
datagram_ends client state from d closes network r why = absurd cc
datagram_ends client state from d (responds f id authentic answer) network r why = counting client from d id authentic answer r (bad_counts (setup_of client.held.settings) state id authentic answer why.1)
datagram_ends client state from d (gives f peer bytes) network r why = absurd why
datagram_ends client state from d (gives_on f number bytes) network r why = absurd why
datagram_ends client state from d (strays f) network r why = absurd why
datagram_ends client state from d polls network r why = absurd cc

call_ends : (client : Client) (now : ℕ) (e : Event) → is_of_network e ≡ false → IsReason (setup_of client.held.settings) (state_at client now) e → IsEnd client now (calls e)
call_ends client now allocates isnt why = absurd why
call_ends client now (permits peer) isnt why = absurd why
call_ends client now (binds peer) isnt why = absurd why
call_ends client now (drops peer) isnt why = absurd why
call_ends client now (sends peer bytes) isnt why = absurd why
call_ends client now closes isnt why = tt
call_ends client now (responds f id authentic answer) isnt why = absurd cc
call_ends client now (gives f peer bytes) isnt why = absurd cc
call_ends client now (gives_on f number bytes) isnt why = absurd cc
call_ends client now (strays f) isnt why = absurd cc
call_ends client now polls isnt why = why

reason_end : JudgedSo → JudgedAlone → (client : Client) (now : ℕ) (call : Call) → IsCall client call → IsReason (setup_of client.held.settings) (state_at client now) (event_in client call) → IsEnd client now call
reason_end so alone client now (calls event) is why = call_ends client now event is why
reason_end so alone client now (takes from d brought) is why =
    datagram_ends client (state_at client now) from d (event_at client from d) (network_at client from d) (responding so alone client from d is.0) why

abbrev pub EndsForReason : Type 0
EndsForReason = (setup : Setup) (earlier : List Timed) (now fresh : ℕ) (event : Event) → is_allocated (run setup earlier).phase ≡ true → is_allocated (step setup (run setup earlier) now fresh event).state.phase ≡ false
    → IsReason setup (at now (run setup earlier)) event

stepped_state : (client : Client) (now fresh : ℕ) (call : Call) → (stepped client now fresh call).held.state ≡ (step (setup_of client.held.settings) client.held.state now (fresh_in fresh call) (event_in client call)).state
stepped_state client now fresh (calls event) = refl
stepped_state client now fresh (takes from d brought) = refl

-- an allocation ends for one of the reasons
pub ends : JudgedSo → JudgedAlone → EndsForReason → (client : Client) (earlier : List Moment) (now fresh : ℕ) (call : Call) → IsBegun client → let before = after_all client earlier in
    IsCall before call → is_allocated before.held.state.phase ≡ true → is_allocated (stepped before now fresh call).held.state.phase ≡ false → IsEnd before now call
ends so alone law client earlier now fresh call begun is there gone =
    let before = after_all client earlier in
    let event = event_in before call in
    let f = fresh_in fresh call in
    let held_is = held_run client earlier begun in
    let setup = setup_of client.held.settings in
    let state = run setup (timed_all client earlier) in
    reason_end so alone before now call is
    (subst (λ (h : Held). IsReason (setup_of h.settings) (at now h.state) event) (sym held_is)
    (law setup (timed_all client earlier) now f event
    (subst (λ (h : Held). is_allocated h.state.phase ≡ true) held_is there)
    (subst (λ (h : Held). is_allocated (step (setup_of h.settings) h.state now f event).state.phase ≡ false) held_is
    (sym (ap (λ (s : State). is_allocated s.phase) (stepped_state before now fresh call)) ∙ gone))))

stays_by : (b : Bool) → (b ≡ false → ⊥) → b ≡ true
stays_by true never = refl
stays_by false never = absurd (never refl)

-- until then it stays
pub stays : JudgedSo → JudgedAlone → EndsForReason → (client : Client) (since earlier : List Moment) → IsBegun client → AreCalls client (since ++ earlier) → is_allocated (after_all client earlier).held.state.phase ≡ true → IsServed client since earlier
    → is_allocated (after_all client (since ++ earlier)).held.state.phase ≡ true
stays so alone law client [] earlier begun are there served = there
stays so alone law client (m ∷ since) earlier begun are there served =
    let before = stays so alone law client since earlier begun are.1 there served.1 in
    stays_by (is_allocated (stepped (after_all client (since ++ earlier)) m.now m.fresh m.call).held.state.phase)
    (λ gone. served.0 (ends so alone law client (since ++ earlier) m.now m.fresh m.call begun are.0 before gone))

-- ---- Why a peer is given up

some_gives_up : (setup : Setup) (address : Endpoint) (state : State) (id : ℕ) (authentic : Bool) (answer : Answer) (ps : List Peer)
    → list_any (λ p. is_peer address p && (awaits_of id p && gives_up setup state authentic answer p)) ps ≡ true → (authentic ≡ true) ⊎ ((is_asking answer ≡ true) ⊎ (setup.is_reliable ≡ true))
some_gives_up setup address state id authentic answer [] is = absurd cc
some_gives_up setup address state id authentic answer (p ∷ ps) is =
    elim (or_cases (is_peer address p && (awaits_of id p && gives_up setup state authentic answer p)) (list_any (λ p. is_peer address p && (awaits_of id p && gives_up setup state authentic answer p)) ps) is) [
      | inl here ↦ loss_counts setup state authentic answer p (and_parts (awaits_of id p) (gives_up setup state authentic answer p) (and_parts (is_peer address p) (awaits_of id p && gives_up setup state authentic answer p) here).1).1
      | inr more ↦ some_gives_up setup address state id authentic answer ps more
    ]

never_true : (b : Bool) → (b ≡ true → ⊥) → b ≡ false
never_true true never = absurd (never refl)
never_true false never = refl

datagram_spares : (client : Client) (address : Endpoint) (state : State) (from : Endpoint) (d : List ℕ) (e : Event) → is_of_network e ≡ true → RespondingBy client from d e → (IsResponse client from d → ⊥) → is_refusal (setup_of client.held.settings) address state e ≡ false
datagram_spares client address state from d allocates network r spared = refl
datagram_spares client address state from d (permits peer) network r spared = refl
datagram_spares client address state from d (binds peer) network r spared = refl
datagram_spares client address state from d (drops peer) network r spared = absurd cc
datagram_spares client address state from d (sends peer bytes) network r spared = refl
datagram_spares client address state from d closes network r spared = refl
datagram_spares client address state from d (responds f id authentic answer) network r spared =
    never_true (is_refusal (setup_of client.held.settings) address state (responds f id authentic answer))
    (λ is. spared (counting client from d id authentic answer r (some_gives_up (setup_of client.held.settings) address state id authentic answer state.peers is)))
datagram_spares client address state from d (gives f peer bytes) network r spared = refl
datagram_spares client address state from d (gives_on f number bytes) network r spared = refl
datagram_spares client address state from d (strays f) network r spared = refl
datagram_spares client address state from d polls network r spared = refl

call_spares : (client : Client) (now : ℕ) (setup : Setup) (address : Endpoint) (state : State) (e : Event) → is_of_network e ≡ false → SparesBy client address now e → is_refusal setup address state e ≡ false
call_spares client now setup address state allocates isnt spared = refl
call_spares client now setup address state (permits peer) isnt spared = refl
call_spares client now setup address state (binds peer) isnt spared = refl
call_spares client now setup address state (drops peer) isnt spared = spared
call_spares client now setup address state (sends peer bytes) isnt spared = refl
call_spares client now setup address state closes isnt spared = refl
call_spares client now setup address state (responds f id authentic answer) isnt spared = absurd cc
call_spares client now setup address state (gives f peer bytes) isnt spared = refl
call_spares client now setup address state (gives_on f number bytes) isnt spared = refl
call_spares client now setup address state (strays f) isnt spared = refl
call_spares client now setup address state polls isnt spared = refl

abbrev pub PeersStay : Type 0
PeersStay = (setup : Setup) (state : State) (now fresh : ℕ) (event : Event) (address : Endpoint) → is_refusal setup address (at now state) event ≡ false → (event ≡ polls → AllByRecursion (IsOpen address (at now state).clock) state.peers)
    → AllByRecursion (IsOn address) state.peers → AllByRecursion (IsOn address) (step setup state now fresh event).state.peers

open_at : (client : Client) (address : Endpoint) (now : ℕ) (event : Event) → Spares client address now (calls event) → event ≡ polls → AllByRecursion (IsOpen address (state_at client now).clock) client.held.state.peers
open_at client address now event spared is = subst (λ (e : Event). Spares client address now (calls e)) is spared

pub peers_stay_at : JudgedSo → JudgedAlone → PeersStay → (client : Client) (now fresh : ℕ) (call : Call) (address : Endpoint) → IsCall client call → Spares client address now call → AllByRecursion (IsOn address) client.held.state.peers
    → AllByRecursion (IsOn address) (stepped client now fresh call).held.state.peers
peers_stay_at so alone law client now fresh (calls event) address is spared on =
    law (setup_of client.held.settings) client.held.state now fresh event address (call_spares client now (setup_of client.held.settings) address (state_at client now) event is spared) (open_at client address now event spared) on
peers_stay_at so alone law client now fresh (takes from d brought) address is spared on =
    law (setup_of client.held.settings) client.held.state now 0 (event_at client from d) address
    (datagram_spares client address (state_at client now) from d (event_at client from d) (network_at client from d) (responding so alone client from d is.0) spared)
    (λ poll. absurd (true≢false (sym (network_at client from d) ∙ ap is_of_network poll))) on
