-- The reserved sockets in memory, in the machine's terms.
use Rattle.std.specs.Prelude.{ℕ, List}
use Rattle.turn_slots.specs.Users.{user_number}
use Rattle.turn_machine.specs.Reserving.{Reservation}
use Rattle.turn_reservations.specs.declared.requests.Family.{Family}
use Rattle.turn_reservations.specs.declared.requests.Family.TheVariants.{Ipv4, Ipv6}
use Rattle.turn_reservations.specs.declared.held.Reserved.{Reserved}

-- address families (RFC 8656, section 18.6)
abbrev pub family_number : Family → ℕ
family_number Ipv4 = 1
family_number Ipv6 = 2

abbrev pub reservation_of : Reserved → Reservation
reservation_of r = record {
  token = r.token;
  user = user_number r.user;
  tuple = r.tuple;
  id = r.id;
  family = family_number r.family;
  address = r.address;
  expires_at = r.expires_at;
}

-- the reservations, in so many places, and the tokens of those that expired in the last call
pub record Holding : Type 0 where
  pub places : ℕ
  pub held : List Reservation
  pub over : List ℕ
