-- A fit success response is taken, and data with a permission is shown.
use Rattle.std.proofs.Common.{◌≡◌, ◌∙◌, ◌<◌, ◌^◌, ℕ, Bool, true, List, [], Some, ap, subst}
use Rattle.std.proofs.Math.Nat.{mod-eq_of_lt}
use Rattle.std.specs.List.{list_any}
use Rattle.std.specs.Option.{option_map}
use Rattle.std.specs.Prelude.{◌&&◌, option_and_then}
use Rattle.std.proofs.lemmas.Bool.{and_from, cond-true}
use Rattle.stun_endpoints.specs.declared.endpoints.Endpoint.{Endpoint}
use Rattle.stun_endpoints.specs.Endpoints.{is_endpoint}
use Rattle.stun_grammar.specs.Numbers.{IsBytes}
use Rattle.turn_client_machine.specs.declared.requests.Request.{Request}
use Rattle.turn_client_machine.specs.Clients.{is_allocated, is_permitted}
use Rattle.turn_client_machine.specs.Events.{Event, nothing, responds, shows}
use Rattle.turn_client_machine.specs.Steps.{at}
use Rattle.turn_client_messages.specs.Judging.{Judged, response, peer_data, judge, response_id, success}
use Rattle.turn_client_messages.specs.Origins.{IsFit, IsSo}
use Rattle.turn_client_messages.specs.Requests.{id_of}
use Rattle.turn_client_messages.specs.Views.{Asked, Dealing}
use Rattle.turn_client_state.specs.States.{output_at, request_with}
use Rattle.turn_client.specs.Clients.{Client, Kept, passes}
use Rattle.turn_client.specs.Receiving.{Brings, BringsFrom, Receives, asked_by, awaited, dealing, event_at, free_number, judged}
use Rattle.turn_client.proofs.ReceivingLemmas.{event_is}
use Rattle.turn_client.proofs.RespondingLemmas.{JudgedSo}
use Rattle.turn_client.proofs.StrangersLemmas.{received}

abbrev pub Heard : Type 0
Heard = (dealing : Dealing) (r : Asked) (d : List ℕ) → IsFit r d → judge dealing (Some r) d ≡ response (id_of r.request) true (success r.request.kind d)

nothing_brought : (number : ℕ) (client : Client) (j : Judged) (brought : List Kept) (r : Request) (id : ℕ) (d : List ℕ) → j ≡ response id true (success r.kind d) → Brings number client.user j brought → brought ≡ []
nothing_brought number client j brought r id d is b = subst (λ (x : Judged). Brings number client.user x brought) is b

server_brings : (b : Bool) (client : Client) (d : List ℕ) (brought : List Kept) → b ≡ true → BringsFrom b client d brought → Brings (free_number client.kept) client.user (judged client d) brought
server_brings b client d brought is from = subst (λ (x : Bool). BringsFrom x client d brought) is from

pub success_taken : JudgedSo → Heard → (client : Client) (now : ℕ) (from : Endpoint) (d : List ℕ) (r : Request) (next : Client) → is_endpoint from client.held.settings.server ≡ true → IsBytes d
    → request_with r.id client.held.state ≡ Some r → r.id < 2 ^ 96 → IsFit (asked_by client r) d → Receives client now from d next → next ≡ passes now 0 (responds from r.id true (success r.kind d)) client
success_taken so heard client now from d r next server bytes waits small fit received_by =
    let asked = asked_by client r in
    let same : id_of r ≡ r.id = mod-eq_of_lt small in
    let alone : judge (dealing client) (Some asked) d ≡ response (id_of r) true (success r.kind d) = heard (dealing client) asked d fit in
    let it = subst (IsSo asked d) alone (so (dealing client) asked d bytes) in
    let shown : response_id d ≡ Some r.id = it.0.responds ∙ ap (λ (n : ℕ). Some n) same in
    let awaited_is : awaited client d ≡ Some asked = ap (λ o. option_map (asked_by client) (option_and_then (λ id. request_with id client.held.state) o)) shown ∙ ap (option_map (asked_by client)) waits in
    let judged_is : judged client d ≡ response r.id true (success r.kind d) =
    ap (λ o. judge (dealing client) o d) awaited_is ∙ (alone ∙ ap (λ (n : ℕ). response n true (success r.kind d)) same) in
    let event : event_at client from d ≡ responds from r.id true (success r.kind d) = event_is client from d (response r.id true (success r.kind d)) server judged_is in
    received client now from d received_by.brought next
    (nothing_brought (free_number client.kept) client (judged client d) received_by.brought r r.id d judged_is
    (server_brings (is_endpoint from client.held.settings.server) client d received_by.brought server received_by.brings)) received_by.after
    ∙ ap (λ (e : Event). passes now 0 e client) event

pub data_shown : (client : Client) (now : ℕ) (from peer : Endpoint) (d bytes : List ℕ) → is_endpoint from client.held.settings.server ≡ true → judged client d ≡ peer_data peer bytes → is_allocated client.held.state.phase ≡ true
    → list_any (is_permitted (at now client.held.state).clock peer.ip) client.held.state.peers ≡ true → output_at now 0 (event_at client from d) client.held ≡ shows peer bytes
data_shown client now from peer d bytes server is there permitted =
    let state = at now client.held.state in
    ap (λ (e : Event). output_at now 0 e client.held) (event_is client from d (peer_data peer bytes) server is)
    ∙ cond-true (is_endpoint from client.held.settings.server && (is_allocated state.phase && list_any (is_permitted state.clock peer.ip) state.peers)) (shows peer bytes) nothing
    (and_from (is_endpoint from client.held.settings.server) (is_allocated state.phase && list_any (is_permitted state.clock peer.ip) state.peers) server
    (and_from (is_allocated state.phase) (list_any (is_permitted state.clock peer.ip) state.peers) there permitted))
