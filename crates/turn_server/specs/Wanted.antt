-- What a request asks for, before a socket has a number.
use Rattle.std.specs.Prelude.{ℕ, Option, None, Some, find}
use Rattle.stun_endpoints.specs.declared.endpoints.FiveTuple.{FiveTuple}
use Rattle.turn_machine.specs.Events.{Request, allocate, asks}
use Rattle.turn_machine.specs.Reserving.{OuterState, Outer, plain, reserves, claims, is_claim, held_at}
use Rattle.turn_machine.specs.Times.{at}
use Rattle.turn_allocations.specs.Requests.{has_numbers, wants_of}
use Rattle.turn_allocations.specs.declared.families.Families.{Families}
use Rattle.turn_allocations.specs.declared.request.Want.{Want}
use Rattle.turn_reservations.specs.declared.requests.Reserve.{Reserve}
use Rattle.turn_reservations.specs.declared.requests.Claim.{Claim}
use Rattle.turn_reservations.specs.Held.{family_number}
use Rattle.turn_reservations.specs.Requests.{want_in, number_for}

-- Allocate, by its transaction ID: a lifetime, and for each family whether an address is asked for, and the
-- socket that is ready; with EVEN-PORT and R, the pair of sockets that is ready; or with a RESERVATION-TOKEN.
-- Or anything else
pub data Wanted : Type 0 where
  opening : (id : ℕ) → (lifetime : Option ℕ) → Families Want → Wanted
  reserving : Reserve → Wanted
  claiming : Claim → Wanted
  other : Request → Wanted

-- the token that a request claims
abbrev pub token_of : Wanted → Option ℕ
token_of (opening id lifetime wants) = None
token_of (reserving r) = None
token_of (claiming c) = Some c.token
token_of (other request) = None

-- a server at a moment, without what has expired
abbrev pub server_at : ℕ → OuterState → OuterState
server_at now h = record { state = at now h.state; held = held_at now h }

-- a user's event, if the sockets that are used get these numbers
abbrev pub outer_of : FiveTuple → (user : ℕ) → OuterState → (numbers : Families ℕ) → Wanted → Outer
outer_of tuple user h numbers (opening id lifetime wants) =
    plain (asks tuple user (allocate id lifetime (wants_of (has_numbers h.state) numbers wants)))
outer_of tuple user h numbers (reserving r) =
    reserves tuple user r.id r.lifetime
    (want_in (has_numbers h.state) numbers (family_number r.family) r.address) r.next r.token
outer_of tuple user h numbers (claiming c) =
    claims tuple user c.id c.lifetime c.token
    (number_for (has_numbers h.state) numbers (find (is_claim user c.token) h.held))
outer_of tuple user h numbers (other request) = plain (asks tuple user request)
