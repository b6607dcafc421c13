-- EVEN-PORT with its R bit, and RESERVATION-TOKEN (RFC 8656, sections 7.2, 18.7 and 18.10), as a
-- layer above the machine. An Allocate request with either is an Allocate request of the machine:
-- with a socket if the pair of ports or the reserved socket is there, without one otherwise.
-- (EVEN-PORT without the bit only limits which socket the caller offers.) A server without this
-- layer treats both attributes as unknown.
use Rattle.std.specs.Prelude.{ℕ, ◌+◌, Bool, true, false, not, ◌&&◌, ◌==◌, if◌then◌else◌, List, [], ◌∷◌, map, filter, find, count_by, length, max, nat_lt, Option, None, Some, is_some}
use Rattle.std.specs.List.{list_any}
use Rattle.std.specs.Option.{option_map, option_map_or}
use Rattle.stun_endpoints.specs.declared.endpoints.Endpoint.{Endpoint}
use Rattle.stun_endpoints.specs.declared.endpoints.FiveTuple.{FiveTuple}
use Rattle.stun_endpoints.specs.Endpoints.{is_tuple}
use Rattle.turn_machine.specs.Relays.{seconds, Setup, Rules, State, is_of}
use Rattle.turn_machine.specs.Events.{Offer, Want, allocate, Event, asks, allocated, Output, answers}
use Rattle.turn_machine.specs.Times.{at}
use Rattle.turn_machine.specs.Rows.{has_any}
use Rattle.turn_machine.specs.Steps.{Step, step}
use Rattle.turn_machine.specs.Runs.{Timed, initial_state}

-- A reserved socket: its token, the user and the request that reserved it, its family and address, and
-- until when
pub record Reservation : Type 0 where
  pub token : ℕ
  pub user : ℕ
  pub tuple : FiveTuple
  pub id : ℕ
  pub family : ℕ
  pub address : Endpoint
  pub expires_at : ℕ

pub record OuterState : Type 0 where
  pub state : State
  pub held : List Reservation

-- An event of the machine; an Allocate request that reserves the next higher port, with the address
-- of the caller's socket for that port and the random token for it; or an Allocate request with a
-- token, with a lower bound of the number that the reserved socket gets, or None if there is no number
pub data Outer : Type 0 where
  plain : Event → Outer
  reserves : FiveTuple → (user id : ℕ) → (lifetime : Option ℕ) → Want
      → (next : Option Endpoint) → (token : ℕ) → Outer
  claims : FiveTuple → (user id : ℕ) → (lifetime : Option ℕ) → (token : ℕ)
      → (number : Option ℕ) → Outer

abbrev pub is_held : ℕ → Reservation → Bool
is_held now r = nat_lt now r.expires_at

abbrev pub held_at : ℕ → OuterState → List Reservation
held_at now h = filter (is_held (max h.state.clock now)) h.held

abbrev pub is_users_held : (user : ℕ) → Reservation → Bool
is_users_held user r = r.user == user

-- A token serves only the user that reserved it. Section 7.2 accepts it from any 5-tuple, and says
-- nothing of users
abbrev pub is_claim : (user token : ℕ) → Reservation → Bool
is_claim user token r = (r.token == token) && is_users_held user r

abbrev pub is_token : (token : ℕ) → Reservation → Bool
is_token token r = r.token == token

-- The user has fewer reservations than the quota, and all users together have fewer than the most.
-- Without these limits users could hold any number of sockets by allocating in a loop
abbrev pub has_place : Setup → (user : ℕ) → List Reservation → Bool
has_place setup user held =
    nat_lt (count_by (is_users_held user) held) setup.most_of_user
    && nat_lt (length held) setup.most_reservations

-- The pair of ports is there, a place for the reservation, and a token that no other has (18.10)
abbrev pub can_reserve : Setup → (user : ℕ) → (next : Option Endpoint) → (token : ℕ)
    → List Reservation → Bool
can_reserve setup user next token held =
    is_some next && (has_place setup user held && not (list_any (is_token token) held))

abbrev pub pair_want : Setup → (user : ℕ) → Want → (next : Option Endpoint) → (token : ℕ)
    → List Reservation → Want
pair_want setup user want next token held = record {
  family = want.family;
  ready = if can_reserve setup user next token held then want.ready else None;
}

abbrev pub reserved_offer : Reservation → (number : ℕ) → Offer
reserved_offer r number = record { number = number; address = r.address }

abbrev pub reserved_want : (number : Option ℕ) → Reservation → Want
reserved_want number r = record {
  family = r.family;
  ready = option_map (reserved_offer r) number;
}

-- A token that isn't valid is a request with no socket: 508 (7.2)
abbrev pub no_want : Setup → FiveTuple → State → Want
no_want setup tuple state = record {
  family = option_map_or (λ a. a.family) (find (is_of tuple) state.relays)
      (if setup.has_family 1 then 1 else 2);
  ready = None;
}

abbrev pub claimed_want : Setup → FiveTuple → (user token : ℕ) → (number : Option ℕ) → State
    → List Reservation → Want
claimed_want setup tuple user token number state held =
    option_map_or (reserved_want number) (find (is_claim user token) held)
    (no_want setup tuple state)

-- the machine's event
abbrev pub inner : Setup → State → List Reservation → Outer → Event
inner setup state held (plain event) = event
inner setup state held (reserves tuple user id lifetime want next token) =
    asks tuple user (allocate id lifetime (pair_want setup user want next token held ∷ []))
inner setup state held (claims tuple user id lifetime token number) =
    asks tuple user
    (allocate id lifetime (claimed_want setup tuple user token number state held ∷ []))

-- whether the request opens an allocation: there was none, and it succeeds. Only then is a socket
-- reserved, or a reservation used up: a refused Allocate request reserves nothing
abbrev pub is_success : Output → Bool
is_success (answers tuple (allocated given lifetime missing)) = true
is_success _ = false

abbrev pub is_opening : FiveTuple → State → Output → Bool
is_opening tuple state output = not (has_any tuple state) && is_success output

-- for 30 seconds (7.2)
abbrev pub reserved_by : (now : ℕ) → FiveTuple → (user id : ℕ) → Want → Endpoint
    → (token : ℕ) → Reservation
reserved_by now tuple user id want address token = record {
  token = token;
  user = user;
  tuple = tuple;
  id = id;
  family = want.family;
  address = address;
  expires_at = now + seconds 30;
}

abbrev pub reservation : ℕ → Outer → Option Endpoint → List Reservation → List Reservation
reservation now (reserves tuple user id lifetime want next token) (Some address) held =
    reserved_by now tuple user id want address token ∷ held
reservation now _ _ held = held

abbrev pub held_after : Setup → State → Outer → Output → List Reservation → List Reservation
held_after setup state (plain event) output held = held
held_after setup state (reserves tuple user id lifetime want next token) output held =
    if is_opening tuple state output && can_reserve setup user next token held
    then reservation state.clock (reserves tuple user id lifetime want next token) next held
    else held
held_after setup state (claims tuple user id lifetime token number) output held =
    if is_opening tuple state output then filter (λ r. not (is_token token r)) held else held

-- The token in a success response is that of the reservation which this very request made, also if
-- it comes again
abbrev pub is_reserved_by : FiveTuple → (user id : ℕ) → Reservation → Bool
is_reserved_by tuple user id r = (is_tuple tuple r.tuple && is_users_held user r) && (r.id == id)

abbrev pub token_for : Outer → Output → List Reservation → Option ℕ
token_for (plain event) output held = None
token_for (reserves tuple user id lifetime want next token) output held =
    if is_success output
    then option_map_or (λ r. Some r.token) (find (is_reserved_by tuple user id) held) None else None
token_for (claims tuple user id lifetime token number) output held = None

-- A step: that of the machine; the reservations after it; the token in the response; and the tokens
-- that have expired, whose sockets the caller closes
pub record OuterStep : Type 0 where
  pub holding : OuterState
  pub step : Step
  pub token : Option ℕ
  pub over : List ℕ

abbrev pub outer_step : Setup → Rules → OuterState → ℕ → Outer → OuterStep
outer_step setup rules h now outer =
    let held = held_at now h in
    let s = at now h.state in
    let after = step setup rules h.state now (inner setup s held outer) in
    let kept = held_after setup s outer after.output held in
    record {
      holding = record { state = after.state; held = kept };
      step = after;
      token = token_for outer after.output kept;
      over = map (λ r. r.token) (filter (λ r. not (is_held (max h.state.clock now) r)) h.held);
    }

-- ---- Runs

pub record OuterTimed : Type 0 where
  pub now : ℕ
  pub rules : Rules
  pub outer : Outer

abbrev pub outer_run : Setup → List OuterTimed → OuterState
outer_run setup [] = record { state = initial_state; held = [] }
outer_run setup (t ∷ earlier) =
    (outer_step setup t.rules (outer_run setup earlier) t.now t.outer).holding

abbrev pub inner_timed : Setup → OuterState → OuterTimed → Timed
inner_timed setup h t = record {
  now = t.now;
  rules = t.rules;
  event = inner setup (at t.now h.state) (held_at t.now h) t.outer;
}

-- the machine's run
abbrev pub inner_run : Setup → List OuterTimed → List Timed
inner_run setup [] = []
inner_run setup (t ∷ earlier) =
    inner_timed setup (outer_run setup earlier) t ∷ inner_run setup earlier

abbrev pub outer_outputs : Setup → List OuterTimed → List Output
outer_outputs setup [] = []
outer_outputs setup (t ∷ earlier) =
    (outer_step setup t.rules (outer_run setup earlier) t.now t.outer).step.output
    ∷ outer_outputs setup earlier
