-- What `Relays::get` returns.
use Rattle.std.specs.Prelude.{ℕ, ◌/◌, ◌%◌, ◌^◌}
use Rattle.turn_slots.specs.declared.users.UserId.{UserId}
use Rattle.turn_machine.specs.Relays.{Relay}
use Rattle.turn_relays.specs.declared.relayed.Relayed.{Relayed}

-- the user with this number: its bits from 128 on, and its low 128 bits
abbrev pub user_of_number : ℕ → UserId
user_of_number number = record { high = number / 2 ^ 128; low = number % 2 ^ 128 }

-- a relayed address without its permissions and channels
abbrev pub relayed_of : Relay → Relayed
relayed_of r = record {
  key = record { tuple = r.tuple; family = r.family };
  user = user_of_number r.user;
  transaction_id = r.transaction_id;
  number = r.number;
  address = r.address;
  expires_at = r.expires_at;
}
