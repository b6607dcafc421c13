-- What a datagram is to a client, by what it is judged to be.
use Rattle.std.proofs.Common.{◌≡◌, ◌∙◌, ℕ, Bool, true, false, List, [], ◌∷◌, refl, sym, ap, subst}
use Rattle.std.specs.Prelude.{if◌then◌else◌}
use Rattle.stun_authentication.specs.Challenges.{Retry}
use Rattle.turn_client_state.specs.States.{after}
use Rattle.turn_client_machine.specs.Clients.{Endpoint, is_endpoint}
use Rattle.turn_client_machine.specs.Events.{Event, strays}
use Rattle.turn_client_messages.specs.Judging.{Judged, challenge, event_of}
use Rattle.turn_client.specs.Clients.{Client, Kept, passes}
use Rattle.turn_client.specs.Receiving.{BringsFrom, Brings, event_at, free_number, judged, kept_after, Receives, TakesChallenge}

pub event_is : (client : Client) (from : Endpoint) (d : List ℕ) (j : Judged) → is_endpoint from client.held.settings.server ≡ true → judged client d ≡ j
    → event_at client from d ≡ event_of from (free_number client.kept) j
event_is client from d j server is =
    ap (λ (b : Bool). if b then event_of from (free_number client.kept) (judged client d) else strays from) server
    ∙ ap (event_of from (free_number client.kept)) is

pub other_strays : (client : Client) (from : Endpoint) (d : List ℕ) → is_endpoint from client.held.settings.server ≡ false → event_at client from d ≡ strays from
other_strays client from d other = ap (λ (b : Bool). if b then event_of from (free_number client.kept) (judged client d) else strays from) other

-- nothing is brought
receives : (client : Client) (now : ℕ) (from : Endpoint) (d : List ℕ) (event : Event) (next : Client) → event_at client from d ≡ event
    → BringsFrom (is_endpoint from client.held.settings.server) client d [] → next ≡ passes now 0 event client → Receives client now from d next
receives client now from d event next is brings after = record {
  brought = [];
  brings = brings;
  after = after ∙ ap (λ e. passes now 0 e client) (sym is);
}

pub receives_other : (client : Client) (now : ℕ) (from : Endpoint) (d : List ℕ) (next : Client) → is_endpoint from client.held.settings.server ≡ false
    → next ≡ passes now 0 (strays from) client → Receives client now from d next
receives_other client now from d next other after =
    receives client now from d (strays from) next (other_strays client from d other)
    (subst (λ (b : Bool). BringsFrom b client d []) (sym other) refl) after

pub receives_one : (client : Client) (now : ℕ) (from : Endpoint) (d : List ℕ) (j : Judged) (next : Client) → is_endpoint from client.held.settings.server ≡ true
    → judged client d ≡ j → Brings (free_number client.kept) client.user j [] → next ≡ passes now 0 (event_of from (free_number client.kept) j) client
    → Receives client now from d next
receives_one client now from d j next server is brings after =
    receives client now from d (event_of from (free_number client.kept) j) next (event_is client from d j server is)
    (subst (λ (b : Bool). BringsFrom b client d []) (sym server)
    (subst (λ (x : Judged). Brings (free_number client.kept) client.user x []) (sym is) brings)) after

pub receives_challenge : (client : Client) (now : ℕ) (from : Endpoint) (d : List ℕ) (id : ℕ) (authentic : Bool) (code : ℕ) (retry : Retry) (next : Client)
    → is_endpoint from client.held.settings.server ≡ true → judged client d ≡ challenge id authentic code retry
    → TakesChallenge client now from id authentic code retry next → Receives client now from d next
receives_challenge client now from d id authentic code retry next server is taken =
    let number = free_number client.kept in
    let one : Kept = record { number = number; retry = retry; key = taken.0 } in
    let j = challenge id authentic code retry in
    record {
      brought = one ∷ [];
      brings = subst (λ (b : Bool). BringsFrom b client d (one ∷ [])) (sym server)
          (subst (λ (x : Judged). Brings number client.user x (one ∷ [])) (sym is) (taken.0, taken.1, refl));
      after = taken.2
          ∙ ap (λ (e : Event). let held = after now 0 e client.held in record client { held = held; kept = kept_after held client.kept (one ∷ []) })
          (sym (event_is client from d j server is));
    }
