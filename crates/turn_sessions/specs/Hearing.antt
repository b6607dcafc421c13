-- A request that a server grants, and what the client hears of it, in bytes (RFC 8656, sections 7.3, 8.3, 10.3 and
-- 12.3).
use Rattle.std.specs.Prelude.{◌≡◌, ℕ, ◌^◌, ◌<◌, ◌≤◌, true, List, length, Option, None, Some, IfSome}
use Rattle.stun_authentication.specs.Challenges.{signing_algorithm}
use Rattle.stun_authentication.specs.Lookups.{UserKey}
use Rattle.stun_authentication.specs.Requests.{User, asked_identity}
use Rattle.stun_endpoints.specs.declared.endpoints.Endpoint.{Endpoint}
use Rattle.stun_endpoints.specs.declared.endpoints.FiveTuple.{FiveTuple}
use Rattle.stun_exchanges.specs.Premises.{WorksAs}
use Rattle.turn_allocations.specs.declared.families.Families.{Families}
use Rattle.turn_client.specs.Clients.{Client, login_for}
use Rattle.turn_client.specs.Receiving.{asked_by, event_at}
use Rattle.turn_client_machine.specs.declared.requests.Answer.{Answer as Heard}
use Rattle.turn_client_machine.specs.declared.requests.Request.{Request}
use Rattle.turn_client_machine.specs.Events.{responds}
use Rattle.turn_client_machine.specs.Warrants.{IsPartOf}
use Rattle.turn_client_messages.specs.Requests.{text_of}
use Rattle.turn_client_messages.specs.Views.{Asked, Content}
use Rattle.turn_client_state.specs.States.{request_with}
use Rattle.turn_machine.specs.Events.{Answer}
use Rattle.turn_machine.specs.Relays.{Rules, Setup, State}
use Rattle.turn_machine.specs.Reserving.{OuterState}
use Rattle.turn_machine.specs.Times.{at}
use Rattle.turn_requests.specs.Requests.{Credentials}
use Rattle.turn_server.specs.Accounts.{account_of}
use Rattle.turn_server.specs.Acting.{Used, act, responds as responds_with}
use Rattle.turn_server.specs.Answers.{answer_text}
use Rattle.turn_server.specs.Judging.{Site}
use Rattle.turn_sessions.specs.Sides.{Admits, Fits, IsInFields, IsKnown, IsLogin, IsNamed, IsTransport}

-- ---- Both sides

-- a client's request, the further peers that it names, and the credentials of its user that sign it
pub record Sent : Type 0 where
  pub content : Content
  pub others : List Endpoint
  pub asked : Asked
  pub login : Credentials
  pub user : User

-- a client's request with these, as a poll writes it
abbrev pub sent_by : Client → Request → (others : List Endpoint) → Credentials → Sent
sent_by client r others login = record {
  content = client.content;
  others = others;
  asked = asked_by client r;
  login = login;
  user = client.user;
}

-- the server that it comes to, at a moment: on a 5-tuple, with the numbers that the sockets that are used get, and the
-- name of its software
pub record Host : Type 0 where
  pub setup : Setup
  pub rules : Rules
  pub site : Site
  pub tuple : FiveTuple
  pub numbers : Families ℕ
  pub held : OuterState
  pub now : ℕ
  pub software : Option (List ℕ)

abbrev pub text_sent : Sent → List ℕ
text_sent sent = text_of sent.content sent.others sent.asked

-- the server's number of the user
abbrev pub account_at : Host → Sent → ℕ
account_at host sent =
    account_of host.site.realm (asked_identity sent.login.retry.asked sent.user.name)

abbrev pub state_there : Host → State
state_there host = at host.now host.held.state

-- the request answers the server's challenge, with the key that the server has for the user, and all that both write
-- fits its fields
pub record IsMet (sent : Sent) (host : Host) (key : UserKey) : Type 0 where
  pub id : sent.asked.request.id < 2 ^ 96
  pub has_login : sent.asked.login ≡ Some sent.login
  pub login : IsLogin sent.login sent.user
  pub admitted : Admits host.site sent.login sent.user key sent.content.fingerprint
  pub works : WorksAs key.bytes (signing_algorithm sent.login.retry) sent.login.key
  pub in_fields : IsInFields sent.content
  pub known : IsKnown host.setup.supports_dont_fragment sent.content
  pub named : IsNamed sent.others sent.asked.request.kind
  pub fits : Fits (text_sent sent)
  pub client : IsTransport host.tuple.client
  pub software : IfSome host.software (λ name. length name ≤ 763)
  pub lifetimes : host.setup.greatest_lifetime < 2 ^ 32

-- ---- The response

-- a client has the request under way, for the peer that it keeps first of those that it names, with these credentials
pub record IsAwaited (sent : Sent) (client : Client) : Type 0 where
  pub request : Request
  pub part : IsPartOf sent.asked.request sent.others request
  pub waits : request_with sent.asked.request.id client.held.state ≡ Some request
  pub login : login_for client request ≡ Some sent.login

-- the bytes of a server's response
abbrev pub response_text : Sent → Host → UserKey → Answer → List ℕ
response_text sent host key answer =
    answer_text host.software host.tuple.client (text_sent sent) answer None key.bytes
    (signing_algorithm sent.login.retry)

-- the server responds to the bytes of the request, and from the bytes of its response a client that awaits it hears
-- this
pub record IsAnswered (sent : Sent) (host : Host) (key : UserKey) (heard : Heard) : Type 0 where
  pub answer : Answer
  pub used : Used
  pub acts : act host.site host.setup host.rules host.tuple host.numbers host.held host.now (text_sent sent)
      ≡ responds_with answer None used key (signing_algorithm sent.login.retry)
  pub hears : (client : Client) → IsAwaited sent client → let server = client.held.settings.server in
      event_at client server (response_text sent host key answer)
      ≡ responds server sent.asked.request.id true heard
