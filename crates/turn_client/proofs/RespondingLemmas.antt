-- What a datagram is if it is an event of the machine: a response to the request under way that has its transaction ID,
-- or data.
use Rattle.std.proofs.Common.{◌≡◌, ◌∙◌, ℕ, Bool, true, false, inl, inr, ◌⊎◌, ◌&&◌, List, [], ◌∷◌, Option, None, Some, refl, sym, ap, find, eqb-true}
use Rattle.std.specs.Prelude.{option_and_then, ◌==◌, is_some}
use Rattle.std.specs.Option.{option_map, option_map_or}
use Rattle.std.proofs.lemmas.Bool.{cond_both, and_parts, true≢false}
use Rattle.stun_grammar.specs.Headers.{type_field, id_field, header_fault}
use Rattle.stun_grammar.specs.Numbers.{IsBytes}
use Rattle.stun_base.specs.declared.message_class.MessageClass.{MessageClass}
use Rattle.stun_base.specs.declared.message_class.MessageClass.TheVariants.{Success}
use Rattle.stun_base.specs.MessageTypes.{class_of, is_response}
use Rattle.stun_authentication.specs.Codes.{is_challenge}
use Rattle.turn_machine.specs.Lists.{SomeOf}
use Rattle.turn_client_machine.specs.declared.requests.Answer.{Answer}
use Rattle.stun_endpoints.specs.declared.endpoints.Endpoint.{Endpoint}
use Rattle.turn_client_machine.specs.declared.requests.Kind.{Kind}
use Rattle.stun_endpoints.specs.Endpoints.{is_endpoint}
use Rattle.turn_client_machine.specs.declared.peers.Peer.{Peer}
use Rattle.turn_client_machine.specs.declared.tasks.Pending.{Pending}
use Rattle.turn_client_machine.specs.declared.requests.Request.{Request}
use Rattle.turn_client_machine.specs.declared.requests.Kind.TheVariants.{Allocate}
use Rattle.turn_client_machine.specs.Clients.{is_active, is_allocated, State}
use Rattle.turn_client_machine.specs.Events.{Event, responds, gives, gives_on, strays}
use Rattle.turn_client_machine.specs.Identified.{IsAwaitedBy, IsUnderWay}
use Rattle.turn_client_machine.specs.Joined.{is_success}
use Rattle.turn_client_machine.specs.Responses.{awaits_of}
use Rattle.turn_client_machine.specs.Tasks.{awaits}
use Rattle.turn_client_messages.specs.Judging.{Judged, response, challenge, peer_data, channel_data, stray, event_of, id_by_class, judge, response_id, success}
use Rattle.turn_client_messages.specs.Origins.{Answers, IsSigned, IsSo, id_in}
use Rattle.turn_client_messages.specs.Views.{Asked, Dealing}
use Rattle.turn_client_state.specs.States.{request_for, request_in, request_with}
use Rattle.turn_client.specs.Clients.{Client, login_for}
use Rattle.turn_client.specs.Receiving.{asked_by, awaited, dealing, event_at, free_number, judged}
use Rattle.turn_client.specs.Warrants.{IsChannelData, IsDataOf}
use Rattle.turn_client.proofs.JudgedLemmas.{IsPlain, alone_plain, is_asking, judged_plain}

-- ---- The laws of judging

abbrev pub JudgedSo : Type 0
JudgedSo = (dealing : Dealing) (r : Asked) (d : List ℕ) → IsBytes d → IsSo r d (judge dealing (Some r) d)

abbrev pub JudgedAlone : Type 0
JudgedAlone = (dealing : Dealing) (d : List ℕ) → id_in (judge dealing None d) ≡ None

-- ---- The request under way

task_known : (id : ℕ) (r : Request) (o : Option Pending) → option_map_or (λ (p : Pending). p.request.id == id) o false ≡ true → request_in o ≡ Some r → (option_map (λ p. p.request) o ≡ Some r) × (r.id ≡ id)
task_known id r None waits is = absurd cc
task_known id r (Some p) waits is = let same : p.request ≡ r = cc in (is, sym (ap (λ (x : Request). x.id) same) ∙ eqb-true p.request.id id waits)

peers_known : (id : ℕ) (r : Request) (ps : List Peer) → request_for (find (awaits_of id) ps) ≡ Some r → SomeOf (λ p. IsAwaitedBy p.task r) ps × (r.id ≡ id)
peers_known id r [] is = absurd cc
peers_known id r (p ∷ ps) is =
    cond_both (awaits_of id p) (Some p) (find (awaits_of id) ps) (λ o. request_for o ≡ Some r → SomeOf (λ p. IsAwaitedBy p.task r) (p ∷ ps) × (r.id ≡ id))
    (λ waits e. let k = task_known id r p.task.pending waits e in (inl k.0, k.1))
    (λ _ e. let k = peers_known id r ps e in (inr k.0, k.1)) is

pub known : (id : ℕ) (state : State) (r : Request) → request_with id state ≡ Some r → IsUnderWay state r × (r.id ≡ id)
known id state r =
    cond_both (is_active state.phase && awaits id state.task) _ _ (λ (o : Option Request). o ≡ Some r → IsUnderWay state r × (r.id ≡ id))
    (λ both e. let k = task_known id r state.task.pending (and_parts (is_active state.phase) (awaits id state.task) both).1 e in (inl k.0, k.1))
    (λ _. cond_both (is_allocated state.phase) _ _ (λ (o : Option Request). o ≡ Some r → IsUnderWay state r × (r.id ≡ id))
    (λ _ e. let k = peers_known id r state.peers e in (inr k.0, k.1)) (λ _ e. absurd cc))

-- the transaction ID of what has the header of a response
class_id : (id : ℕ) (d : List ℕ) (class : MessageClass) → id_by_class class d ≡ Some id → id_field d ≡ id
class_id id d class = cond_both (is_response class) _ _ (λ (o : Option ℕ). o ≡ Some id → id_field d ≡ id) (λ _ e. cc) (λ _ e. absurd cc)

pub shown_id : (id : ℕ) (d : List ℕ) → response_id d ≡ Some id → id_field d ≡ id
shown_id id d = cond_both (is_some (header_fault d)) _ _ (λ (o : Option ℕ). o ≡ Some id → id_field d ≡ id) (λ _ e. absurd cc) (λ _ e. class_id id d (class_of (type_field d)) e)

-- ---- A response

pub record Responding (client : Client) (from : Endpoint) (d : List ℕ) (id : ℕ) (authentic : Bool) (answer : Answer) : Type 0 where
  pub is_server : is_endpoint from client.held.settings.server ≡ true
  pub request : Request
  pub awaits : awaited client d ≡ Some (asked_by client request)
  pub answers : Answers (asked_by client request) id d
  pub under_way : IsUnderWay client.held.state request
  pub id_is : request.id ≡ id
  pub signed : authentic ≡ true → (is_challenge d ≡ true) ⊎ IsSigned (login_for client request) d
  pub trusted : authentic ≡ true → is_success answer ≡ true → IsSigned (login_for client request) d
  pub granted : is_success answer ≡ true → (class_of (type_field d) ≡ Success) × (answer ≡ success request.kind d)
  pub asks : is_asking answer ≡ true → is_challenge d ≡ true

abbrev pub RespondingBy : Client → Endpoint → List ℕ → Event → Type 0
RespondingBy client from d (responds f id authentic answer) = Responding client from d id authentic answer
RespondingBy client from d (gives f peer bytes) = (is_endpoint from client.held.settings.server ≡ true) × IsDataOf peer bytes d
RespondingBy client from d (gives_on f number bytes) = (is_endpoint from client.held.settings.server ≡ true) × IsChannelData number bytes d
RespondingBy client from d _ = Unit {0}

module _ (client : Client) (from : Endpoint) (d : List ℕ) (server : is_endpoint from client.held.settings.server ≡ true) where
  by_alone : (number : ℕ) (j : Judged) → id_in j ≡ None → ((kind : Kind) → IsPlain kind d j) → RespondingBy client from d (event_of from number j)
  by_alone number (response id authentic answer) none plain = absurd cc
  by_alone number (challenge id authentic code retry) none plain = absurd cc
  by_alone number (peer_data peer bytes) none plain = (server, plain Allocate)
  by_alone number (channel_data n bytes) none plain = (server, plain Allocate)
  by_alone number stray none plain = tt

  by_request : (number : ℕ) (r : Request) (j : Judged) → option_and_then (λ id. request_with id client.held.state) (response_id d) ≡ Some r → IsSo (asked_by client r) d j → IsPlain r.kind d j
      → RespondingBy client from d (event_of from number j)
  by_request number r (response id authentic answer) is so plain =
      let k = known id client.held.state r (sym (ap (option_and_then (λ id. request_with id client.held.state)) so.0.responds) ∙ is) in
      record {
        is_server = server;
        request = r;
        awaits = ap (option_map (asked_by client)) is;
        answers = so.0;
        under_way = k.0;
        id_is = k.1;
        signed = λ t. elim (so.1 t) [
          | inl refuses ↦ inl refuses.0
          | inr signed ↦ inr signed
        ];
        trusted = λ t good. elim (so.1 t) [
          | inl refuses ↦ absurd (true≢false (sym good ∙ ap is_success refuses.1.1))
          | inr signed ↦ signed
        ];
        granted = plain.0;
        asks = λ t. absurd (true≢false (sym t ∙ plain.1));
      }
  by_request number r (challenge id authentic code retry) is so plain =
      let k = known id client.held.state r (sym (ap (option_and_then (λ id. request_with id client.held.state)) so.0.responds) ∙ is) in
      record {
        is_server = server;
        request = r;
        awaits = ap (option_map (asked_by client)) is;
        answers = so.0;
        under_way = k.0;
        id_is = k.1;
        signed = λ t. inl so.1;
        trusted = λ t good. absurd cc;
        granted = λ good. absurd cc;
        asks = λ t. so.1;
      }
  by_request number r (peer_data peer bytes) is so plain = (server, plain)
  by_request number r (channel_data n bytes) is so plain = (server, plain)
  by_request number r stray is so plain = tt

  by_awaited : JudgedSo → JudgedAlone → IsBytes d → (q : Option Request) → option_and_then (λ id. request_with id client.held.state) (response_id d) ≡ q
      → RespondingBy client from d (event_of from (free_number client.kept) (judge (dealing client) (option_map (asked_by client) q) d))
  by_awaited so alone bytes None is = by_alone (free_number client.kept) (judge (dealing client) None d) (alone (dealing client) d) (λ kind. alone_plain kind (dealing client) d)
  by_awaited so alone bytes (Some r) is =
      by_request (free_number client.kept) r (judge (dealing client) (Some (asked_by client r)) d) is (so (dealing client) (asked_by client r) d bytes) (judged_plain (dealing client) (asked_by client r) d)

-- what a datagram is, by the event
pub responding : JudgedSo → JudgedAlone → (client : Client) (from : Endpoint) (d : List ℕ) → IsBytes d → RespondingBy client from d (event_at client from d)
responding so alone client from d bytes =
    cond_both (is_endpoint from client.held.settings.server) (event_of from (free_number client.kept) (judged client d)) (strays from) (RespondingBy client from d)
    (λ server. by_awaited client from d server so alone bytes (option_and_then (λ id. request_with id client.held.state) (response_id d)) refl) (λ _. tt)
