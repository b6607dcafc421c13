-- What requests that reserve or claim ask for, in the machine's terms.
use Rattle.std.specs.Prelude.{ℕ, ◌+◌, Bool, List, ◌∷◌, Option, None, Some, ◌==◌, if◌then◌else◌, find, option_and_then}
use Rattle.std.specs.Option.{option_map_or}
use Rattle.stun_endpoints.specs.declared.endpoints.Endpoint.{Endpoint}
use Rattle.stun_endpoints.specs.declared.endpoints.FiveTuple.{FiveTuple}
use Rattle.turn_machine.specs.Relays.{seconds, State}
use Rattle.turn_machine.specs.Events.{Offer, Want}
use Rattle.turn_machine.specs.Reserving.{Reservation, Outer, reserves, claims, is_claim}
use Rattle.turn_allocations.specs.declared.families.Families.{Families}
use Rattle.turn_allocations.specs.declared.answer.Answer.{Answer}
use Rattle.turn_allocations.specs.Requests.{has_numbers, numbers_in, offer_of}
use Rattle.turn_reservations.specs.declared.requests.Reserve.{Reserve}
use Rattle.turn_reservations.specs.declared.requests.Claim.{Claim}
use Rattle.turn_reservations.specs.Held.{family_number}

abbrev pub number_of : (family : ℕ) → Families ℕ → ℕ
number_of family numbers = if family == 1 then numbers.ipv4 else numbers.ipv6

-- the caller's socket, if there is one and a number for it
abbrev pub socket_of : Bool → (number : ℕ) → Option Endpoint → Option Offer
socket_of is_open number address = option_and_then (offer_of is_open number) address

abbrev pub want_in : Bool → Families ℕ → (family : ℕ) → Option Endpoint → Want
want_in is_open numbers family address =
    record { family = family; ready = socket_of is_open (number_of family numbers) address }

-- An Allocate request that reserves. The number of its socket is what the answer shows
abbrev pub reserving : State → Answer → FiveTuple → (user : ℕ) → Reserve → Outer
reserving state answer tuple user r =
    reserves tuple user r.id r.lifetime
    (want_in (has_numbers state) (numbers_in answer) (family_number r.family) r.address) r.next r.token

-- with the socket that a request reserved, if it reserved one
abbrev pub with_reserved : (now : ℕ) → FiveTuple → (user : ℕ) → Reserve → Option Endpoint
    → List Reservation → List Reservation
with_reserved now tuple user r None held = held
with_reserved now tuple user r (Some address) held = record {
  token = r.token;
  user = user;
  tuple = tuple;
  id = r.id;
  family = family_number r.family;
  address = address;
  expires_at = now + seconds 30;
} ∷ held

-- An Allocate request with a token. The number of the reserved socket is what the answer shows
abbrev pub number_for : Bool → Families ℕ → Option Reservation → Option ℕ
number_for is_open numbers reserved =
    if is_open then Some (option_map_or (λ r. number_of r.family numbers) reserved 0) else None

abbrev pub claiming : State → List Reservation → Answer → FiveTuple → (user : ℕ) → Claim → Outer
claiming state held answer tuple user c =
    claims tuple user c.id c.lifetime c.token
    (number_for (has_numbers state) (numbers_in answer) (find (is_claim user c.token) held))
