-- Reservations by the datagrams that came (RFC 8656, sections 7.2 and 18.10).
use Rattle.std.specs.Prelude.{◌≡◌, ℕ, ◌+◌, List, Some}
use Rattle.std.specs.List.{AllByRecursion}
use Rattle.stun_grammar.specs.declared.integrity_algorithm.IntegrityAlgorithm.{IntegrityAlgorithm}
use Rattle.stun_authentication.specs.Lookups.{UserKey}
use Rattle.turn_machine.specs.Relays.{seconds, Setup}
use Rattle.turn_machine.specs.Events.{Offer, Want}
use Rattle.turn_machine.specs.Reserving.{Reservation}
use Rattle.turn_allocations.specs.declared.families.Families.{Families}
use Rattle.turn_reservations.specs.declared.requests.Reserve.{Reserve}
use Rattle.turn_reservations.specs.Held.{family_number}
use Rattle.turn_reservations.specs.Requests.{number_of}
use Rattle.turn_server.specs.Datagrams.{of_client, Moment, clock_at, Came}
use Rattle.turn_server.specs.Judging.{Site}
use Rattle.turn_server.specs.Judgments.{IsAsked}
use Rattle.turn_server.specs.Wanted.{reserving}

-- it was a datagram of the client: an authentic request of the reservation's user, which reserved the socket with
-- this token until 30 seconds later
pub record IsReservation (setup : Setup) (r : Reservation) (earlier : List Moment) (m : Moment) : Type 0 where
  pub site : Site
  pub numbers : Families ℕ
  pub datagram : List ℕ
  pub came : m.arrival ≡ of_client site r.tuple numbers datagram
  pub reserve : Reserve
  pub key : UserKey
  pub reply_algorithm : IntegrityAlgorithm
  pub asked : IsAsked setup.supports_dont_fragment site datagram r.user (reserving reserve) key reply_algorithm
  pub id_is : r.id ≡ reserve.id
  pub token_is : r.token ≡ reserve.token
  pub family_is : r.family ≡ family_number reserve.family
  pub address_is : Some r.address ≡ reserve.next
  pub until_is : r.expires_at ≡ clock_at setup earlier m.now + seconds 30

-- such a datagram came for each of them
abbrev pub AreReserved : Setup → List Moment → List Reservation → Type 0
AreReserved setup moments held = AllByRecursion (λ r. Came (IsReservation setup r) moments) held

-- the reserved socket, under a number
abbrev pub offer_of : Reservation → Families ℕ → Offer
offer_of r numbers = record { number = number_of r.family numbers; address = r.address }

abbrev pub want_of : Reservation → Families ℕ → Want
want_of r numbers = record { family = r.family; ready = Some (offer_of r numbers) }
