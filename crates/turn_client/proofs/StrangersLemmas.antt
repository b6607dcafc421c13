-- What a datagram of who doesn't hold the user's key changes.
use Rattle.std.proofs.Common.{◌≡◌, ◌∙◌, ℕ, ◌≤◌, Bool, true, false, inl, inr, ◌&&◌, not, List, [], ◌∷◌, ◌++◌, map, Option, None, Some, refl, sym, ap, subst, arith}
use Rattle.std.specs.Prelude.{max, option_and_then}
use Rattle.std.specs.List.{list_any}
use Rattle.std.specs.Option.{option_map, option_map_or}
use Rattle.std.proofs.lemmas.Bool.{cond_both, cond-false, or_right, true≢false}
use Rattle.stun_grammar.specs.Numbers.{IsBytes}
use Rattle.stun_authentication.specs.Codes.{is_challenge}
use Rattle.turn_client_machine.specs.declared.requests.Answer.{Answer}
use Rattle.turn_client_machine.specs.declared.requests.Answer.TheVariants.{Opened, Extended, Done, Refused, Challenged, Redirected, Violated}
use Rattle.stun_endpoints.specs.declared.endpoints.Endpoint.{Endpoint}
use Rattle.turn_client_machine.specs.declared.peers.Peer.{Peer}
use Rattle.turn_client_machine.specs.declared.tasks.Pending.{Pending}
use Rattle.turn_client_machine.specs.declared.requests.Request.{Request}
use Rattle.stun_endpoints.specs.Endpoints.{is_endpoint}
use Rattle.turn_client_machine.specs.Clients.{Setup, State, is_active, is_allocated}
use Rattle.turn_client_machine.specs.Events.{Event, responds, gives, gives_on, strays, nothing}
use Rattle.turn_client_machine.specs.Responses.{answered, awaits_of, changed_each, given_up, noted, responded, violated_by}
use Rattle.turn_client_machine.specs.Steps.{at, happens, step}
use Rattle.turn_client_machine.specs.Strangers.{counts_unsigned, is_stranger}
use Rattle.turn_client_machine.specs.Tasks.{awaits}
use Rattle.turn_client_messages.specs.Judging.{Judged, response, challenge, peer_data, channel_data, stray, event_of, judge, response_id}
use Rattle.turn_client_messages.specs.Origins.{IsSigned, IsSo, id_in}
use Rattle.turn_client_state.specs.States.{output_at, request_with, setup_of}
use Rattle.turn_client.specs.Clients.{Client, Kept, login_for, passes}
use Rattle.turn_client.specs.Receiving.{Brings, BringsFrom, Receives, asked_by, awaited, dealing, event_at, free_number, judged, kept_after, received_with}
use Rattle.turn_client.specs.Runs.{Call, calls, takes, Moment, after_all, stepped}
use Rattle.turn_client.specs.Strangers.{aged, IsUnsigned, unmarked, unmarked_peer, unmarked_state}
use Rattle.turn_client.proofs.JudgedLemmas.{IsPlain, is_asking, judged_plain}
use Rattle.turn_client.proofs.ReceivingLemmas.{other_strays}
use Rattle.turn_client.proofs.RespondingLemmas.{JudgedAlone, JudgedSo}

abbrev pub Unchanged : Type 0
Unchanged = (setup : Setup) (state : State) (now fresh : ℕ) (event : Event) → is_stranger setup event ≡ true → (step setup state now fresh event).state ≡ at now state

-- ---- What brings no credentials

pub received : (client : Client) (now : ℕ) (from : Endpoint) (d : List ℕ) (brought : List Kept) (next : Client) → brought ≡ [] → next ≡ received_with brought now from d client → next ≡ passes now 0 (event_at client from d) client
received client now from d brought next none is = is ∙ ap (λ (b : List Kept). received_with b now from d client) none

stranger_passes : Unchanged → (client : Client) (now : ℕ) (event : Event) → is_stranger (setup_of client.held.settings) event ≡ true → passes now 0 event client ≡ aged now client
stranger_passes unchanged client now event is =
    let held = client.held in
    ap (λ (s : State). record client { held = record held { state = s } }) (unchanged (setup_of held.settings) held.state now 0 event is)

-- ---- From elsewhere

elsewhere_brings : (b : Bool) (client : Client) (d : List ℕ) (brought : List Kept) → b ≡ false → BringsFrom b client d brought → brought ≡ []
elsewhere_brings true client d brought other is = absurd cc
elsewhere_brings false client d brought other is = is

pub elsewhere_ages : Unchanged → (client : Client) (now : ℕ) (from : Endpoint) (d : List ℕ) (next : Client) → is_endpoint from client.held.settings.server ≡ false → Receives client now from d next → next ≡ aged now client
elsewhere_ages unchanged client now from d next other r =
    received client now from d r.brought next (elsewhere_brings (is_endpoint from client.held.settings.server) client d r.brought other r.brings) r.after
    ∙ (ap (λ (e : Event). passes now 0 e client) (other_strays client from d other)
    ∙ stranger_passes unchanged client now (strays from) refl)

pub elsewhere_shows : (client : Client) (now : ℕ) (from : Endpoint) (d : List ℕ) → is_endpoint from client.held.settings.server ≡ false → output_at now 0 (event_at client from d) client.held ≡ nothing
elsewhere_shows client now from d other = ap (λ (e : Event). output_at now 0 e client.held) (other_strays client from d other)

-- ---- Without a request

alone_brings : (number : ℕ) (client : Client) (j : Judged) (brought : List Kept) → id_in j ≡ None → Brings number client.user j brought → brought ≡ []
alone_brings number client (response id authentic answer) brought none b = b
alone_brings number client (challenge id authentic code retry) brought none b = absurd cc
alone_brings number client (peer_data peer bytes) brought none b = b
alone_brings number client (channel_data channel bytes) brought none b = b
alone_brings number client stray brought none b = b

alone_stranger : (setup : Setup) (from : Endpoint) (number : ℕ) (j : Judged) → id_in j ≡ None → is_stranger setup (event_of from number j) ≡ true
alone_stranger setup from number (response id authentic answer) none = absurd cc
alone_stranger setup from number (challenge id authentic code retry) none = absurd cc
alone_stranger setup from number (peer_data peer bytes) none = refl
alone_stranger setup from number (channel_data channel bytes) none = refl
alone_stranger setup from number stray none = refl

from_brings : (b : Bool) (client : Client) (d : List ℕ) (brought : List Kept) → (Brings (free_number client.kept) client.user (judged client d) brought → brought ≡ []) → BringsFrom b client d brought → brought ≡ []
from_brings true client d brought f is = f is
from_brings false client d brought f is = is

pub unanswered_ages : Unchanged → JudgedAlone → (client : Client) (now : ℕ) (from : Endpoint) (d : List ℕ) (next : Client) → awaited client d ≡ None → Receives client now from d next → next ≡ aged now client
unanswered_ages unchanged alone client now from d next none r =
    let setup = setup_of client.held.settings in
    let is : id_in (judged client d) ≡ None = ap (λ o. id_in (judge (dealing client) o d)) none ∙ alone (dealing client) d in
    received client now from d r.brought next (from_brings (is_endpoint from client.held.settings.server) client d r.brought (alone_brings (free_number client.kept) client (judged client d) r.brought is) r.brings) r.after
    ∙ stranger_passes unchanged client now (event_at client from d)
    (cond_both (is_endpoint from client.held.settings.server) _ _ (λ (e : Event). is_stranger setup e ≡ true)
    (λ _. alone_stranger setup from (free_number client.kept) (judged client d) is) (λ _. refl))

-- ---- Marks

marked_each : (setup : Setup) (id : ℕ) (ps : List Peer) → setup.is_reliable ≡ false → map {B = Peer} unmarked_peer (changed_each (awaits_of id) (violated_by setup) ps) ≡ map {B = Peer} unmarked_peer ps
marked_each setup id [] loose = refl
marked_each setup id (p ∷ ps) loose =
    cond_both (awaits_of id p) (violated_by setup p) p (λ (q : Peer). map {B = Peer} unmarked_peer (q ∷ changed_each (awaits_of id) (violated_by setup) ps) ≡ map {B = Peer} unmarked_peer (p ∷ ps))
    (λ _ i. ap unmarked_peer (cond-false setup.is_reliable (given_up 0 (noted p)) (noted p) loose) i ∷ marked_each setup id ps loose i)
    (λ _. ap (λ qs. unmarked_peer p ∷ qs) (marked_each setup id ps loose))

marked_task : (setup : Setup) (state : State) (o : Option Pending) → setup.is_reliable ≡ false → unmarked_state (option_map_or (λ (p : Pending). answered setup false Violated state p.request) o state) ≡ unmarked_state state
marked_task setup state None loose = refl
marked_task setup state (Some p) loose = ap unmarked_state (cond-false setup.is_reliable _ (record state { violated = true }) loose)

marked : (setup : Setup) (from : Endpoint) (id : ℕ) (state : State) → setup.is_reliable ≡ false → unmarked_state (responded setup from id false Violated state) ≡ unmarked_state state
marked setup from id state loose =
    cond_both (is_endpoint from setup.server && is_active state.phase) _ _ (λ (s : State). unmarked_state s ≡ unmarked_state state)
    (λ _. cond_both (awaits id state.task) _ _ (λ (s : State). unmarked_state s ≡ unmarked_state state)
    (λ _. marked_task setup state state.task.pending loose)
    (λ _. cond_both (is_allocated state.phase && list_any (awaits_of id) state.peers) _ _ (λ (s : State). unmarked_state s ≡ unmarked_state state)
    (λ _. ap (λ (qs : List Peer). record state { violated = false; peers = qs }) (marked_each setup id state.peers loose)) (λ _. refl)))
    (λ _. refl)

-- ---- Without the key

abbrev IsMarked : Client → (now : ℕ) → Event → Type 0
IsMarked client now event = unmarked (passes now 0 event client) ≡ unmarked (aged now client)

stranger_marks : Unchanged → (client : Client) (now : ℕ) (event : Event) → is_stranger (setup_of client.held.settings) event ≡ true → IsMarked client now event
stranger_marks unchanged client now event is = ap unmarked (stranger_passes unchanged client now event is)

unsigned_stranger : (setup : Setup) (from : Endpoint) (id : ℕ) (answer : Answer) → counts_unsigned answer ≡ false → is_stranger setup (responds from id false answer) ≡ true
unsigned_stranger setup from id answer is = or_right (not (is_endpoint from setup.server)) (not (counts_unsigned answer)) (ap not is)

module _ (unchanged : Unchanged) (client : Client) (now : ℕ) (from : Endpoint) (d : List ℕ) (loose : client.held.settings.is_reliable ≡ false) (plain : is_challenge d ≡ false) where
  answer_marks : (id : ℕ) (answer : Answer) → is_asking answer ≡ false → IsMarked client now (responds from id false answer)
  answer_marks id (Opened relayed mapped lifetime) isnt = stranger_marks unchanged client now (responds from id false (Opened relayed mapped lifetime)) (unsigned_stranger (setup_of client.held.settings) from id (Opened relayed mapped lifetime) refl)
  answer_marks id (Extended lifetime) isnt = stranger_marks unchanged client now (responds from id false (Extended lifetime)) (unsigned_stranger (setup_of client.held.settings) from id (Extended lifetime) refl)
  answer_marks id Done isnt = stranger_marks unchanged client now (responds from id false Done) (unsigned_stranger (setup_of client.held.settings) from id Done refl)
  answer_marks id (Refused code) isnt = stranger_marks unchanged client now (responds from id false (Refused code)) (unsigned_stranger (setup_of client.held.settings) from id (Refused code) refl)
  answer_marks id (Challenged code number) isnt = absurd cc
  answer_marks id (Redirected server) isnt = stranger_marks unchanged client now (responds from id false (Redirected server)) (unsigned_stranger (setup_of client.held.settings) from id (Redirected server) refl)
  answer_marks id Violated isnt =
      let held = client.held in
      ap (λ (s : State). record client { held = record held { state = s } }) (marked (setup_of held.settings) from id (at now held.state) loose)

  response_marks : (r : Request) (id : ℕ) (authentic : Bool) (answer : Answer) → (IsSigned (login_for client r) d → ⊥) → IsSo (asked_by client r) d (response id authentic answer) → is_asking answer ≡ false
      → IsMarked client now (responds from id authentic answer)
  response_marks r id true answer unsigned so isnt = elim (so.1 refl) [
    | inl refuses ↦ absurd (true≢false (sym refuses.0 ∙ plain))
    | inr signed ↦ absurd (unsigned signed)
  ]
  response_marks r id false answer unsigned so isnt = answer_marks id answer isnt

  judged_marks : (r : Request) (number : ℕ) (j : Judged) → (IsSigned (login_for client r) d → ⊥) → IsSo (asked_by client r) d j → IsPlain r.kind d j → IsMarked client now (event_of from number j)
  judged_marks r number (response id authentic answer) unsigned so fits = response_marks r id authentic answer unsigned so fits.1
  judged_marks r number (challenge id authentic code retry) unsigned so fits = absurd (true≢false (sym so.1 ∙ plain))
  judged_marks r number (peer_data peer bytes) unsigned so fits = stranger_marks unchanged client now (gives from peer bytes) refl
  judged_marks r number (channel_data n bytes) unsigned so fits = stranger_marks unchanged client now (gives_on from n bytes) refl
  judged_marks r number stray unsigned so fits = stranger_marks unchanged client now (strays from) refl

  judged_brings : (r : Request) (number : ℕ) (j : Judged) (brought : List Kept) → IsSo (asked_by client r) d j → Brings number client.user j brought → brought ≡ []
  judged_brings r number (response id authentic answer) brought so b = b
  judged_brings r number (challenge id authentic code retry) brought so b = absurd (true≢false (sym so.1 ∙ plain))
  judged_brings r number (peer_data peer bytes) brought so b = b
  judged_brings r number (channel_data channel bytes) brought so b = b
  judged_brings r number stray brought so b = b

  unsigned_marks : JudgedSo → JudgedAlone → IsBytes d → IsUnsigned client d → (next : Client) → (q : Option Request) → option_and_then (λ id. request_with id client.held.state) (response_id d) ≡ q → Receives client now from d next → unmarked next ≡ unmarked (aged now client)
  unsigned_marks so alone bytes unsigned next None is r = ap unmarked (unanswered_ages unchanged alone client now from d next (ap (option_map (asked_by client)) is) r)
  unsigned_marks so alone bytes unsigned next (Some q) is r =
      let waits : awaited client d ≡ Some (asked_by client q) = ap (option_map (asked_by client)) is in
      let judged_is : judged client d ≡ judge (dealing client) (Some (asked_by client q)) d = ap (λ o. judge (dealing client) o d) waits in
      let it = subst (IsSo (asked_by client q) d) (sym judged_is) (so (dealing client) (asked_by client q) d bytes) in
      let fits = subst (IsPlain q.kind d) (sym judged_is) (judged_plain (dealing client) (asked_by client q) d) in
      ap unmarked (received client now from d r.brought next
      (from_brings (is_endpoint from client.held.settings.server) client d r.brought (judged_brings q (free_number client.kept) (judged client d) r.brought it) r.brings) r.after)
      ∙ cond_both (is_endpoint from client.held.settings.server) _ _ (IsMarked client now)
      (λ _. judged_marks q (free_number client.kept) (judged client d) (unsigned (asked_by client q) waits) it fits)
      (λ _. stranger_marks unchanged client now (strays from) refl)

pub unsigned_changes_little : Unchanged → JudgedSo → JudgedAlone → (client : Client) (now : ℕ) (from : Endpoint) (d : List ℕ) (next : Client) → IsBytes d → client.held.settings.is_reliable ≡ false → is_challenge d ≡ false → IsUnsigned client d
    → Receives client now from d next → unmarked next ≡ unmarked (aged now client)
unsigned_changes_little unchanged so alone client now from d next bytes loose plain unsigned r =
    unsigned_marks unchanged client now from d loose plain so alone bytes unsigned next (option_and_then (λ id. request_with id client.held.state) (response_id d)) refl r

-- ---- All later

max_later : (c e n : ℕ) → e ≤ n → max (max c e) n ≡ max c n
max_later c e n le = omega (arith, le)

at_later : (state : State) (now later : ℕ) → now ≤ later → at later (at now state) ≡ at later state
at_later state now later le = ap (λ (c : ℕ). record state { clock = c }) (max_later state.clock now later le)

aged_steps : (client : Client) (now later fresh : ℕ) (call : Call) → now ≤ later → stepped (aged now client) later fresh call ≡ stepped client later fresh call
aged_steps client now later fresh (calls event) le =
    let held = client.held in
    ap (λ (s : State). record client { held = record held { state = (happens (setup_of held.settings) fresh s event).state } }) (at_later held.state now later le)
aged_steps client now later fresh (takes from d brought) le =
    let held = client.held in
    ap (λ (s : State). let next = record held { state = (happens (setup_of held.settings) 0 s (event_at client from d)).state } in record client { held = next; kept = kept_after next client.kept brought }) (at_later held.state now later le)

pub forgotten : (client : Client) (later : List Moment) (next stranger : Moment) (earlier : List Moment) → let before = after_all client earlier in
    stepped before stranger.now stranger.fresh stranger.call ≡ aged stranger.now before → stranger.now ≤ next.now → after_all client (later ++ next ∷ stranger ∷ earlier) ≡ after_all client (later ++ next ∷ earlier)
forgotten client [] next stranger earlier is le =
    ap (λ (c : Client). stepped c next.now next.fresh next.call) is ∙ aged_steps (after_all client earlier) stranger.now next.now next.fresh next.call le
forgotten client (m ∷ later) next stranger earlier is le =
    ap (λ (c : Client). stepped c m.now m.fresh m.call) (forgotten client later next stranger earlier is le)
