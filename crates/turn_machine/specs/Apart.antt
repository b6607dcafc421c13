-- The events of one client, and what it observes of a run.
use Rattle.std.specs.Prelude.{ℕ, Bool, true, false, ◌&&◌, ◌==◌, if◌then◌else◌, List, [], ◌∷◌, Option, None, Some}
use Rattle.std.specs.List.{list_any}
use Rattle.stun_endpoints.specs.declared.endpoints.FiveTuple.{FiveTuple}
use Rattle.stun_endpoints.specs.Endpoints.{is_tuple}
use Rattle.turn_machine.specs.Relays.{Rules}
use Rattle.turn_machine.specs.Events.{allocate, Event, asks, sends, sends_on, arrives, bounces, ends, ends_user, ticks, allocated, Output, answers, to_peer, to_client, to_client_on, to_client_icmp, nothing}
use Rattle.turn_machine.specs.Runs.{Happening}

-- ---- A client's own events: datagrams from the client; datagrams and ICMP packets at a socket
-- that it was given; and the end of such a socket, or of all that a user has whose requests came
-- from this client

abbrev pub gives_to : FiveTuple → (number : ℕ) → Output → Bool
gives_to tuple number (answers other (allocated given lifetime missing)) =
    is_tuple tuple other && list_any (λ g. g.number == number) given
gives_to tuple number _ = false

abbrev pub has_got : FiveTuple → (number : ℕ) → (earlier : List Happening) → Bool
has_got tuple number earlier = list_any (λ h. gives_to tuple number h.output) earlier

abbrev pub is_asked_as : FiveTuple → (user : ℕ) → Event → Bool
is_asked_as tuple user (asks other owner request) = is_tuple tuple other && (owner == user)
is_asked_as tuple user _ = false

abbrev pub has_asked : FiveTuple → (user : ℕ) → (earlier : List Happening) → Bool
has_asked tuple user earlier = list_any (λ h. is_asked_as tuple user h.event) earlier

abbrev pub is_own : FiveTuple → (earlier : List Happening) → Event → Bool
is_own tuple earlier (asks other user request) = is_tuple tuple other
is_own tuple earlier (sends other peer dont_fragment bytes) = is_tuple tuple other
is_own tuple earlier (sends_on other channel bytes) = is_tuple tuple other
is_own tuple earlier (arrives number peer bytes) = has_got tuple number earlier
is_own tuple earlier (bounces number peer icmp) = has_got tuple number earlier
is_own tuple earlier (ends number) = has_got tuple number earlier
is_own tuple earlier (ends_user user) = has_asked tuple user earlier
is_own tuple earlier ticks = false

-- An Allocate request. Its answer depends on the quota, the room and the next number, and so on
-- other clients: it is part of what the client's own events are
abbrev pub is_allocate : Event → Bool
is_allocate (asks tuple user (allocate id lifetime wants)) = true
is_allocate _ = false

pub record Own : Type 0 where
  pub moment : ℕ
  pub rules : Rules
  pub event : Event
  pub reply : Option Output

abbrev pub own_of : Happening → Own
own_of h = record {
  moment = h.moment;
  rules = h.rules;
  event = h.event;
  reply = if is_allocate h.event then Some h.output else None;
}

abbrev pub own : FiveTuple → List Happening → List Own
own tuple [] = []
own tuple (h ∷ earlier) =
    if is_own tuple earlier h.event then own_of h ∷ own tuple earlier else own tuple earlier

-- ---- What the client observes at each of its events: the responses to it, its data to peers, and
-- peers' data to it

abbrev pub seen : FiveTuple → Output → Output
seen tuple (answers other answer) = answers other answer
seen tuple (to_peer number peer dont_fragment bytes) = to_peer number peer dont_fragment bytes
seen tuple (to_client other peer bytes) =
    if is_tuple tuple other then to_client other peer bytes else nothing
seen tuple (to_client_on other channel bytes) =
    if is_tuple tuple other then to_client_on other channel bytes else nothing
seen tuple (to_client_icmp other peer icmp) =
    if is_tuple tuple other then to_client_icmp other peer icmp else nothing
seen tuple nothing = nothing

pub record Sight : Type 0 where
  pub moment : ℕ
  pub output : Output

abbrev pub sight : FiveTuple → Happening → Sight
sight tuple h = record { moment = h.moment; output = seen tuple h.output }

abbrev pub sights : FiveTuple → List Happening → List Sight
sights tuple [] = []
sights tuple (h ∷ earlier) =
    if is_own tuple earlier h.event then sight tuple h ∷ sights tuple earlier
    else sights tuple earlier

-- whether the output is sent to the client
abbrev pub comes_to : FiveTuple → Output → Bool
comes_to tuple (answers other answer) = is_tuple tuple other
comes_to tuple (to_client other peer bytes) = is_tuple tuple other
comes_to tuple (to_client_on other channel bytes) = is_tuple tuple other
comes_to tuple (to_client_icmp other peer icmp) = is_tuple tuple other
comes_to tuple (to_peer number peer dont_fragment bytes) = false
comes_to tuple nothing = false
