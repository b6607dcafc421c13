-- What a Refresh request does in a client's places (RFC 8656, section 8.2).
use Rattle.std.specs.Prelude.{ℕ, Option, None, Some, ◌==◌, if◌then◌else◌}
use Rattle.turn_machine.specs.Relays.{Relay}
use Rattle.turn_relays.specs.Relayed.{Table, with_slot}
use Rattle.turn_allocations.specs.declared.client.Place.{Place}

-- the place of a family, if the request is for it
abbrev pub if_wanted : Option Place → (of : ℕ) → (family : Option ℕ) → Option Place
if_wanted place of None = place
if_wanted place of (Some family) = if family == of then place else None

-- a relayed address that ends at another moment
abbrev pub ends_at : ℕ → Relay → Relay
ends_at end r = record r { expires_at = end }

-- the relayed address in a place has ended, if there is one
abbrev pub ended_in : Option Place → Table → Table
ended_in None t = t
ended_in (Some place) t = with_slot place.slot None t
