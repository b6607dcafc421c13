-- What a peer is after the user has dropped it, and whose a channel number is.
use Rattle.std.specs.Prelude.{◌≡◌, ℕ, ◌+◌, ◌<◌, Bool, true, false, ◌&&◌, not, ◌==◌, List, None}
use Rattle.std.specs.List.{AllByRecursion, list_any}
use Rattle.turn_client_machine.specs.Clients.{Endpoint, is_endpoint, seconds, Kind, Allocate, Refresh, Delete, Permit, Bind, Request, Peer, is_peer, is_dropped, is_permitted}
use Rattle.turn_client_machine.specs.Events.{Event, permits, binds, sends, gives, Output, asks, send_to, send_on, shows, nothing}
use Rattle.turn_client_machine.specs.Runs.{Timed, Happening}

-- nothing is asked for it, and the client has no permission and no channel of it
pub record IsGone (p : Peer) : Type 0 where
  pub dropped : is_dropped p ≡ true
  pub over : p.over ≡ true
  pub permission : p.expires_at ≡ 0
  pub channel : p.channel_expires_at ≡ 0
  pub free : p.task.pending ≡ None

abbrev pub IsGoneAt : Endpoint → Peer → Type 0
IsGoneAt address p = is_peer address p ≡ true → IsGone p

-- no event asks for the peer
abbrev pub IsUnnamed : Endpoint → Timed → Type 0
IsUnnamed address timed = (timed.event ≡ permits address → ⊥) × (timed.event ≡ binds address → ⊥)

-- a request is for this very peer
abbrev pub is_for : Endpoint → Kind → Bool
is_for address Allocate = false
is_for address Refresh = false
is_for address Delete = false
is_for address (Permit peer) = is_endpoint address peer
is_for address (Bind number peer) = is_endpoint address peer

-- the server permits the IP address by another peer's request
abbrev pub is_shared : (now : ℕ) → Endpoint → List Peer → Bool
is_shared now address peers =
    list_any (λ p. is_permitted now address.ip p && not (is_peer address p)) peers

-- No request is for the peer, and no data goes to it or is shown from it, but in Send and Data
-- indications, which another peer of its IP address lets through (9: ports are not considered)
abbrev pub IsQuiet : Endpoint → (shared : Bool) → Event → Output → Type 0
IsQuiet address shared event (asks r others) =
    (is_for address r.kind ≡ false)
    × AllByRecursion (λ other. is_endpoint address other ≡ false) others
IsQuiet address shared event (send_to peer bytes) = is_endpoint address peer ≡ true → shared ≡ true
IsQuiet address shared event (send_on number bytes) = event ≡ sends address bytes → ⊥
IsQuiet address shared event (shows peer bytes) = is_endpoint address peer ≡ true
    → (shared ≡ true) × ((from : Endpoint) × (event ≡ gives from peer bytes))
IsQuiet address shared event nothing = Unit {0}

-- within the last 900 seconds a request was sent for this channel to this very peer
pub record Asked (number : ℕ) (peer : Endpoint) (now : ℕ) (h : Happening) : Type 0 where
  pub request : Request
  pub others : List Endpoint
  pub sent : h.output ≡ asks request others
  pub kind : request.kind ≡ Bind number peer
  pub recent : now < h.moment + seconds 900

-- this very peer has this number, and isn't dropped
abbrev pub has_number : (number : ℕ) → Endpoint → Peer → Bool
has_number number address p = (p.number == number) && (is_peer address p && not (is_dropped p))
