-- The limits of one relayed address.
use Rattle.std.specs.Prelude.{◌≤◌, length}
use Rattle.turn_machine.specs.Relays.{Relay, Setup}

pub record IsWithin (setup : Setup) (a : Relay) : Type 0 where
  pub permissions : length a.permissions ≤ setup.most_permissions
  pub channels : length a.channels ≤ setup.most_channels
