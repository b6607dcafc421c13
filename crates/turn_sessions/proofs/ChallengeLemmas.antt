-- A client takes the server's challenge.
use Rattle.std.proofs.Common.{◌≡◌, ◌∙◌, ◌<◌, ◌^◌, ℕ, Bool, List, [], ◌∷◌, Option, None, Some, refl, sym, ap, subst}
use Rattle.std.proofs.Math.Nat.{mod-eq_of_lt}
use Rattle.std.specs.Option.{option_map}
use Rattle.std.specs.Prelude.{option_and_then, is_some}
use Rattle.stun_authentication.specs.Asking.{Asked as Challenged}
use Rattle.stun_authentication.specs.Challenges.{Retry, retry_with}
use Rattle.stun_authentication.specs.Cookies.{promises_algorithms}
use Rattle.stun_authentication.specs.Refusing.{refusal_of}
use Rattle.stun_authentication.specs.declared.answer.Refusal.TheVariants.{Unauthenticated}
use Rattle.stun_endpoints.specs.declared.endpoints.Endpoint.{Endpoint}
use Rattle.stun_endpoints.proofs.AddressesLemmas.{endpoint_is_itself}
use Rattle.stun_exchanges.proofs.EndedLemmas.{IsFirst, IsMissing}
use Rattle.stun_exchanges.specs.Offers.{IsLawful, Retries, Takes}
use Rattle.stun_exchanges.specs.Premises.{IsPrinted}
use Rattle.stun_grammar.specs.Numbers.{IsBytes}
use Rattle.stun_values.specs.declared.algorithm.PasswordAlgorithmValue.{PasswordAlgorithmValue}
use Rattle.turn_client.specs.Clients.{Client, Kept, login_for}
use Rattle.turn_client.specs.Receiving.{asked_by, awaited, Brings, BringsFrom, dealing, event_at, free_number, had_algorithms, judged, kept_after, Receives, received_with, TakesChallenge}
use Rattle.turn_client.specs.Sending.{request_text}
use Rattle.turn_client_machine.specs.declared.requests.Answer.TheVariants.{Challenged as IsChallenged}
use Rattle.turn_client_machine.specs.declared.requests.Request.{Request}
use Rattle.turn_client_machine.specs.Events.{Event, responds}
use Rattle.turn_client_messages.specs.Judging.{challenge, event_of as event_heard, judge as hears, Judged, response_id}
use Rattle.turn_client_messages.specs.Origins.{IsSo}
use Rattle.turn_client_messages.specs.Pending.{is_authentic, realm_tried}
use Rattle.turn_client_messages.specs.Requests.{id_of}
use Rattle.turn_client_messages.specs.Views.{Asked, Dealing}
use Rattle.turn_client_state.specs.States.{after, request_with}
use Rattle.turn_requests.specs.Requests.{Credentials}
use Rattle.turn_server.specs.Acting.{act, acted, refuses}
use Rattle.turn_sessions.specs.Hearing.{Host}
use Rattle.turn_sessions.specs.Sides.{Fits, IsInFields, IsNamed}
use Rattle.turn_sessions.proofs.CrossingLemmas.{heard_at}
use Rattle.turn_sessions.proofs.ErrorsLemmas.{AreRead, challenge_heard}
use Rattle.turn_sessions.proofs.RequestsLemmas.{open_of, open_refused}

pub is_refused : IsFirst → IsMissing → (client : Client) (r : Request) (others : List Endpoint) (host : Host) → login_for client r ≡ None → IsPrinted host.site.policy.fingerprint client.content.fingerprint → IsInFields client.content → IsNamed others r.kind
    → let q = request_text client r others in Fits q → act host.site host.setup host.rules host.tuple host.numbers host.held host.now q ≡ refuses Unauthenticated
is_refused first missing client r others host no_login printed fields names room =
    ap (acted host.setup host.rules host.tuple host.numbers host.held host.now)
    (open_refused first missing host.setup.last_channel host.setup.supports_dont_fragment host.site client.content others (asked_by client r) no_login printed fields names room)

abbrev pub AreSo : Type 0
AreSo = (dealing : Dealing) (r : Asked) (d : List ℕ) → IsBytes d → IsSo r d (hears dealing (Some r) d)

-- what a challenge is judged to be
judged_so : AreSo → (client : Client) (r : Request) (d : List ℕ) (authentic : Bool) (code : ℕ) (retry : Retry) → IsBytes d → r.id < 2 ^ 96 → request_with r.id client.held.state ≡ Some r → hears (dealing client) (Some (asked_by client r)) d ≡ challenge (id_of r) authentic code retry
    → judged client d ≡ challenge r.id authentic code retry
judged_so so client r d authentic code retry bytes small waits alone =
    let same : id_of r ≡ r.id = mod-eq_of_lt small in
    let it = subst (IsSo (asked_by client r) d) alone (so (dealing client) (asked_by client r) d bytes) in
    let shown : response_id d ≡ Some r.id = it.0.responds ∙ ap (λ (n : ℕ). Some n) same in
    let awaited_is : awaited client d ≡ Some (asked_by client r) =
    ap (λ (o : Option ℕ). option_map (asked_by client) (option_and_then (λ n. request_with n client.held.state) o)) shown
    ∙ ap (option_map (asked_by client)) waits in
    ap (λ (o : Option Asked). hears (dealing client) o d) awaited_is
    ∙ alone
    ∙ ap (λ (n : ℕ). challenge n authentic code retry) same

-- what the client keeps
takes_it : (client : Client) (now id : ℕ) (d : List ℕ) (authentic : Bool) (code : ℕ) (retry : Retry) (next : Client) → judged client d ≡ challenge id authentic code retry → let server = client.held.settings.server in Receives client now server d next
    → TakesChallenge client now server id authentic code retry next
takes_it client now id d authentic code retry next is received =
    let server = client.held.settings.server in
    let number = free_number client.kept in
    let brings : Brings number client.user (challenge id authentic code retry) received.brought =
    subst (λ (x : Judged). Brings number client.user x received.brought) is
    (subst (λ (b : Bool). BringsFrom b client d received.brought) (endpoint_is_itself server) received.brings) in
    let one : Kept = record { number = number; retry = retry; key = brings.0 } in
    let event : event_at client server d ≡ responds server id authentic (IsChallenged code number) =
    heard_at client server d refl ∙ ap (event_heard server number) is in (
      brings.0,
      brings.1,
      received.after
          ∙ ap (λ (b : List Kept). received_with b now server d client) brings.2
          ∙ ap (λ (e : Event). let held = after now 0 e client.held in record client { held = held; kept = kept_after held client.kept (one ∷ []) }) event,
    )

pub is_taken : AreRead → AreSo → (client : Client) (r : Request) (others : List Endpoint) (challenged : Challenged) (algorithm : PasswordAlgorithmValue) (now : ℕ) (next : Client) → r.id < 2 ^ 96 → login_for client r ≡ None → IsInFields client.content → IsNamed others r.kind
    → let q = request_text client r others in Fits q → request_with r.id client.held.state ≡ Some r → IsLawful challenged → promises_algorithms challenged.nonce ≡ is_some challenged.list → Takes client.algorithms challenged algorithm → Retries None (had_algorithms client.kept) Unauthenticated challenged
    → let d = refusal_of q Unauthenticated (Some challenged) in Fits d → IsBytes d → let server = client.held.settings.server in Receives client now server d next → TakesChallenge client now server r.id (is_authentic (asked_by client r) d) 401 (retry_with challenged algorithm) next
is_taken reads so client r others challenged algorithm now next small no_login fields names room waits lawful agrees takes retries fits bytes received =
    let a = asked_by client r in
    let q = request_text client r others in
    let d = refusal_of q Unauthenticated (Some challenged) in
    let alone = challenge_heard reads (dealing client) a q Unauthenticated challenged algorithm (open_of client.content others a no_login fields names room) refl lawful agrees takes
    (subst (λ (o : Option Credentials). Retries (realm_tried o) (had_algorithms client.kept) Unauthenticated challenged) (sym no_login) retries) fits in
    takes_it client now r.id d (is_authentic a d) 401 (retry_with challenged algorithm) next
    (judged_so so client r d (is_authentic a d) 401 (retry_with challenged algorithm) bytes small waits alone) received
