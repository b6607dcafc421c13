-- A `&` to the place of a shared key is a share of what the place has.
use denote.Param.Send.{IsSync, part_keyless}
use Rattle.stun_types_c.specs.contracts.shared_place.SharedPlace.{the_row}
use Rattle.stun_types_c.proofs.shared_place.SharedPlace.TheSendSync.Send.{send}

pub sync : IsSync the_row
sync = record { shared = λ x b o κ q. part_keyless the_row send q x b o }
