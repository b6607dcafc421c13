-- A client whose requests a server grants, round after round, in bytes.
use Rattle.std.specs.Prelude.{◌≡◌, ◌+◌, ◌≤◌, ℕ, true, List, [], ◌∷◌, length, None}
use Rattle.stun_authentication.specs.Challenges.{signing_algorithm}
use Rattle.stun_authentication.specs.Lookups.{UserKey}
use Rattle.stun_endpoints.specs.declared.endpoints.Endpoint.{Endpoint}
use Rattle.turn_client.specs.Clients.{Client}
use Rattle.turn_client.specs.Histories.{state_at}
use Rattle.turn_client.specs.Rounds.{Exchange, Round, all_exchanged, all_rounds, poll_at, polled_by}
use Rattle.turn_client.specs.Runs.{Moment, after_all}
use Rattle.turn_client_machine.specs.declared.requests.Kind.{Kind}
use Rattle.turn_client_machine.specs.declared.requests.Kind.TheVariants.{Allocate, Bind, Delete, Permit, Refresh}
use Rattle.turn_client_machine.specs.declared.requests.Request.{Request}
use Rattle.turn_client_machine.specs.Events.{Output, asks, nothing, send_on, send_to, shows}
use Rattle.turn_client_state.specs.Waking.{is_before, wake}
use Rattle.turn_machine.specs.Events.{Answer}
use Rattle.turn_machine.specs.Granting.{CanBind, CanPermit, IsOwn}
use Rattle.turn_machine.specs.Times.{refreshed_for}
use Rattle.turn_requests.specs.Requests.{Credentials}
use Rattle.turn_server.specs.Acting.{Used, act, responds}
use Rattle.turn_sessions.specs.Hearing.{Host, IsAwaited, IsMet, Sent, account_at, response_text, sent_by, state_there, text_sent}

-- ---- One exchange

-- a request of this kind is fit at the server: the allocation is the user's, and the server can permit the peers or bind
-- the channel
abbrev pub IsFitAt : Host → Sent → Kind → Type 0
IsFitAt host sent Allocate = ⊥
IsFitAt host sent Refresh = IsOwn host.tuple (account_at host sent) (state_there host)
IsFitAt host sent Delete = ⊥
IsFitAt host sent (Permit peer) = (length (peer ∷ sent.others) ≤ 64)
    × CanPermit host.setup host.rules host.tuple (account_at host sent) (peer ∷ sent.others) (state_there host)
IsFitAt host sent (Bind number peer) =
    CanBind host.setup host.rules host.tuple (account_at host sent) number peer (state_there host)

-- d is what the server writes for the bytes of the request
pub record IsResponse (sent : Sent) (host : Host) (key : UserKey) (d : List ℕ) : Type 0 where
  pub answer : Answer
  pub used : Used
  pub acts : act host.site host.setup host.rules host.tuple host.numbers host.held host.now (text_sent sent)
      ≡ responds answer None used key (signing_algorithm sent.login.retry)
  pub text : d ≡ response_text sent host key answer

-- a client awaits the response to a request that is fit at some server, which grants this lifetime, and d is the response
pub record IsServed (client : Client) (lifetime : ℕ) (d : List ℕ) (r : Request) (others : List Endpoint) : Type 0
  where
    pub login : Credentials
    pub host : Host
    pub key : UserKey
    pub met : IsMet (sent_by client r others login) host key
    pub fit : IsFitAt host (sent_by client r others login) r.kind
    pub awaited : IsAwaited (sent_by client r others login) client
    pub grants : lifetime ≡ refreshed_for client.content.lifetime host.setup.greatest_lifetime
    pub response : IsResponse (sent_by client r others login) host key d

-- if a request is written
abbrev pub IsServedBy : Client → (lifetime : ℕ) → List ℕ → Output → Type 0
IsServedBy client lifetime d (asks r others) = IsServed client lifetime d r others
IsServedBy client lifetime d (send_to peer bytes) = Unit {0}
IsServedBy client lifetime d (send_on number bytes) = Unit {0}
IsServedBy client lifetime d (shows peer bytes) = Unit {0}
IsServedBy client lifetime d nothing = Unit {0}

-- ---- Rounds

abbrev pub AreServed : Client → (lifetime now : ℕ) → List Exchange → (earlier : List Moment) → Type 0
AreServed client lifetime now [] earlier = Unit {0}
AreServed client lifetime now (x ∷ xs) earlier =
    let before = all_exchanged client now xs earlier in
    IsServedBy (after_all client (poll_at now x.fresh ∷ before)) lifetime x.datagram
    (polled_by client now x before)
    × AreServed client lifetime now xs earlier

-- a round comes at most `late` after what came before, the server grants each request of it, and then
-- `TurnClient::next_wake` returns a later moment
pub record IsServedRound (client : Client) (lifetime late : ℕ) (round : Round) (earlier : List Moment) : Type 0
  where
    pub soon : round.now ≤ (after_all client earlier).held.state.clock + late
    pub served : AreServed client lifetime round.now round.exchanges earlier
    pub done : let after = after_all client (all_exchanged client round.now round.exchanges earlier) in
        is_before (state_at after round.now).clock (wake after.held.state) ≡ true

abbrev pub AreServedRounds : Client → (lifetime late : ℕ) → List Round → (earlier : List Moment) → Type 0
AreServedRounds client lifetime late [] earlier = Unit {0}
AreServedRounds client lifetime late (round ∷ rounds) earlier =
    IsServedRound client lifetime late round (all_rounds client rounds earlier)
    × AreServedRounds client lifetime late rounds earlier
