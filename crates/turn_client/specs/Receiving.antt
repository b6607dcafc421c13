-- What a client does with a datagram, and what it sends.
use Rattle.std.specs.Prelude.{◌≡◌, ℕ, Bool, true, false, not, ◌&&◌, List, [], ◌∷◌, ◌++◌, length, filter, find, unwrap_or, Option, None, Some, is_some, option_and_then, if◌then◌else◌}
use Rattle.std.specs.List.{list_any, range_with_len}
use Rattle.std.specs.Option.{option_map, option_map_or}
use Rattle.stun_authentication.specs.Challenges.{Retry}
use Rattle.stun_authentication.specs.Requests.{User, user_key}
use Rattle.stun_keys.specs.declared.keys.integrity_key.IntegrityKey.{IntegrityKey}
use Rattle.stun_keys.specs.Keys.{IsKey}
use Rattle.turn_client_machine.specs.declared.requests.Request.{Request}
use Rattle.turn_client_machine.specs.declared.phases.Phase.{Phase}
use Rattle.turn_client_machine.specs.Clients.{Endpoint, Ip, State, is_allocated, is_endpoint, is_permitted}
use Rattle.turn_client_machine.specs.declared.requests.Answer.TheVariants.{Challenged}
use Rattle.turn_client_machine.specs.Events.{Event, responds, strays, Output, shows, nothing}
use Rattle.turn_client_messages.specs.declared.peer_errors.PeerError.{PeerError}
use Rattle.turn_client_messages.specs.Judging.{Judged, challenge, event_of, judge, response, response_id, stray}
use Rattle.turn_client_messages.specs.PeerErrors.{peer_error, reservation_token}
use Rattle.turn_client_messages.specs.Views.{Asked, Dealing}
use Rattle.turn_client_state.specs.Challenges.{has_challenge}
use Rattle.turn_client_state.specs.States.{Held, after, request_with}
use Rattle.turn_client_machine.specs.Steps.{at}
use Rattle.turn_client.specs.declared.receiving.PeerData.{PeerData}
use Rattle.turn_client.specs.declared.receiving.Received.{Received}
use Rattle.turn_client.specs.declared.receiving.Received.TheVariants.{Data, Failed, Reservation}
use Rattle.turn_client.specs.Clients.{Client, Kept, has_number, login_for}

-- whether the challenge had a list of password algorithms
abbrev pub has_list : Kept → Bool
has_list kept = is_some kept.retry.asked.list

-- whether one had: each later one has then
abbrev pub had_algorithms : List Kept → Bool
had_algorithms kept = list_any has_list kept

-- what it knows of its server
abbrev pub dealing : Client → Dealing
dealing client = record {
  server = client.held.settings.server;
  transport = client.transport;
  algorithms = client.algorithms;
  had_algorithms = had_algorithms client.kept;
}

-- a request with the credentials that sign it
abbrev pub asked_by : Client → Request → Asked
asked_by client request = record { request = request; login = login_for client request }

-- the request that a datagram would answer
abbrev pub awaited : Client → List ℕ → Option Asked
awaited client d =
    option_map (asked_by client)
    (option_and_then (λ id. request_with id client.held.state) (response_id d))

-- what a datagram is
abbrev pub judged : Client → List ℕ → Judged
judged client d = judge (dealing client) (awaited client d) d

-- the number of a new challenge: the least that no other has
abbrev pub is_free : List Kept → (number : ℕ) → Bool
is_free kept number = not (list_any (has_number number) kept)

abbrev pub free_number : List Kept → ℕ
free_number kept = unwrap_or (find (is_free kept) (range_with_len 0 (length kept))) (length kept)

-- ---- The event

-- what doesn't come from the server's address isn't looked at
abbrev pub event_at : Client → (from : Endpoint) → List ℕ → Event
event_at client from d =
    if is_endpoint from client.held.settings.server
    then event_of from (free_number client.kept) (judged client d) else strays from

-- the credentials that a challenge brings, with a key that is made of it and of the user's password
abbrev pub Brings : (number : ℕ) → User → Judged → List Kept → Type 0
Brings number user (challenge id authentic code retry) kept =
    (key : IntegrityKey) × IsKey None (user_key retry user) key
    × (kept ≡ record { number = number; retry = retry; key = key } ∷ [])
Brings number user _ kept = kept ≡ []

-- whether it is a challenge, for which alone memory is taken
abbrev pub is_challenge : Judged → Bool
is_challenge (challenge id authentic code retry) = true
is_challenge _ = false

-- what doesn't come from the server brings none
abbrev pub BringsFrom : (is_server : Bool) → Client → List ℕ → List Kept → Type 0
BringsFrom true client d kept = Brings (free_number client.kept) client.user (judged client d) kept
BringsFrom false client d kept = kept ≡ []

-- those that are kept then: with new ones, those that are still used
abbrev pub kept_after : Held → (kept brought : List Kept) → List Kept
kept_after held kept [] = kept
kept_after held kept (one ∷ more) = filter (λ k. has_challenge k.number held.state) (kept ++ (one ∷ more))

-- after a challenge that is known by these credentials
abbrev pub taken_with : Kept → (now : ℕ) → (from : Endpoint) → (id : ℕ) → (authentic : Bool) → (code : ℕ) → Client
    → Client
taken_with one now from id authentic code client =
    let held = after now 0 (responds from id authentic (Challenged code one.number)) client.held in
    record client { held = held; kept = kept_after held client.kept (one ∷ []) }

abbrev pub TakesChallenge : Client → (now : ℕ) → (from : Endpoint) → (id : ℕ) → (authentic : Bool) → (code : ℕ)
    → Retry → Client → Type 0
TakesChallenge client now from id authentic code retry next =
    (key : IntegrityKey) × IsKey None (user_key retry client.user) key
    × (next ≡ taken_with (record { number = free_number client.kept; retry = retry; key = key }) now from id
    authentic code client)

abbrev pub received_with : (brought : List Kept) → (now : ℕ) → (from : Endpoint) → List ℕ → Client → Client
received_with brought now from d client =
    let held = after now 0 (event_at client from d) client.held in
    record client { held = held; kept = kept_after held client.kept brought }

-- the client after a datagram
pub record Receives (client : Client) (now : ℕ) (from : Endpoint) (d : List ℕ) (next : Client) : Type 0 where
  pub brought : List Kept
  pub brings : BringsFrom (is_endpoint from client.held.settings.server) client d brought
  pub after : next ≡ received_with brought now from d client

-- the data that is shown, if any is
abbrev pub data_with : Option PeerData → Output
data_with None = nothing
data_with (Some given) = shows given.peer given.data.now

abbrev pub shown_with : Option Received → Output
shown_with None = nothing
shown_with (Some (Data given)) = data_with (Some given)
shown_with (Some (Failed error)) = nothing
shown_with (Some (Reservation token)) = nothing

-- ---- What a datagram reports to the user besides data

-- that a packet to a peer was dropped; the token of the reservation that the server has made; or nothing
pub data News : Type 0 where
  failed : PeerError → News
  reserved : (token : ℕ) → News
  no_news : News

abbrev pub news_with : Option Received → News
news_with None = no_news
news_with (Some (Data given)) = no_news
news_with (Some (Failed error)) = failed error
news_with (Some (Reservation token)) = reserved token

-- Whether data of an IP address would be shown: there is an allocation, and the server permits it. An
-- error of one that it doesn't permit is dropped (RFC 8656, section 11.6)
abbrev pub hears : State → Ip → Bool
hears state ip = is_allocated state.phase && list_any (is_permitted state.clock ip) state.peers

abbrev pub heard_error : State → Option PeerError → Option PeerError
heard_error state error =
    option_and_then (λ e. if hears state e.peer.ip then Some e else None) error

-- the token in the response that has brought the allocation (section 7.3)
abbrev pub token_then : (before after : Phase) → List ℕ → Option ℕ
token_then before after d =
    if not (is_allocated before) && is_allocated after then reservation_token d else None

abbrev pub news_of : (now : ℕ) → (before after : State) → List ℕ → Judged → News
news_of now before after d (response id authentic answer) =
    option_map_or (λ token. reserved token) (token_then before.phase after.phase d) no_news
news_of now before after d stray =
    option_map_or (λ error. failed error) (heard_error (at now before) (peer_error d)) no_news
news_of now before after d _ = no_news

-- of a datagram that took a client to its next state; what doesn't come from the server reports nothing
abbrev pub news_at : Client → (now : ℕ) → (from : Endpoint) → List ℕ → (after : State) → News
news_at client now from d after =
    if is_endpoint from client.held.settings.server
    then news_of now client.held.state after d (judged client d) else no_news
