-- What a reservation is (RFC 8656, sections 7.2 and 18.10), in the laws' own words.
use Rattle.std.specs.Prelude.{◌≡◌, ℕ, ◌+◌, ◌<◌, ◌==◌, ◌&&◌, List, filter, find, count_by, nat_lt, Option}
use Rattle.stun_endpoints.specs.declared.endpoints.Endpoint.{Endpoint}
use Rattle.stun_endpoints.specs.declared.endpoints.FiveTuple.{FiveTuple}
use Rattle.stun_endpoints.specs.Endpoints.{is_tuple}
use Rattle.turn_machine.specs.Relays.{seconds, Setup}
use Rattle.turn_machine.specs.Events.{Want}
use Rattle.turn_machine.specs.Reserving.{Reservation}

-- those that haven't expired at a moment
abbrev pub live_at : (now : ℕ) → List Reservation → List Reservation
live_at now held = filter (λ r. nat_lt now r.expires_at) held

-- how many a user has, and whether that is below the quota
abbrev pub count_of : (user : ℕ) → List Reservation → ℕ
count_of user held = count_by (λ r. r.user == user) held

abbrev pub IsBelowQuota : Setup → (user : ℕ) → List Reservation → Type 0
IsBelowQuota setup user held = count_of user held < setup.most_of_user

-- how many have a token
abbrev pub times_of : (token : ℕ) → List Reservation → ℕ
times_of token held = count_by (λ r. r.token == token) held

-- the reservation with a token, if it belongs to the user
abbrev pub held_for : (user token : ℕ) → List Reservation → Option Reservation
held_for user token held = find (λ r. (r.token == token) && (r.user == user)) held

-- the reservation that a user's request made, from this client and by its transaction ID
abbrev pub made_by : FiveTuple → (user id : ℕ) → List Reservation → Option Reservation
made_by tuple user id held = find (λ r. (is_tuple tuple r.tuple && (r.user == user)) && (r.id == id)) held

-- this user's request reserved this socket for 30 seconds, with this token
pub record IsReserved (now : ℕ) (tuple : FiveTuple) (user id : ℕ) (want : Want)
    (address : Endpoint) (token : ℕ) (r : Reservation) : Type 0 where
  pub token_is : r.token ≡ token
  pub whose : (r.tuple ≡ tuple) × (r.user ≡ user) × (r.id ≡ id)
  pub socket : (r.family ≡ want.family) × (r.address ≡ address)
  pub until_is : r.expires_at ≡ now + seconds 30
