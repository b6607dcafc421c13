-- What a request grants to the relayed addresses in a client's places.
use Rattle.std.specs.Prelude.{◌≡◌, ℕ, Bool, false, List, length, nat_lt, Option, None, Some}
use Rattle.std.specs.Option.{option_map_or}
use Rattle.stun_endpoints.specs.declared.endpoints.Endpoint.{Endpoint}
use Rattle.turn_machine.specs.Relays.{Relay}
use Rattle.turn_machine.specs.Rows.{permissions_after, with_channel}
use Rattle.turn_relays.specs.Relayed.{Table, changed_slot}
use Rattle.turn_allocations.specs.declared.client.Client.{Client}
use Rattle.turn_allocations.specs.declared.client.Place.{Place}
use Rattle.turn_allocations.specs.Clients.{in_place}

-- a test of the relayed address in a place: false if there is none
abbrev pub any_at : (Relay → Bool) → Table → Option Place → Bool
any_at test t place = option_map_or test (in_place t place) false

-- with permissions for these peers it would have more than the most
abbrev pub lacks_room : (most now : ℕ) → List Endpoint → Relay → Bool
lacks_room most now peers r = nat_lt most (length (permissions_after now peers r))

-- each of a client's relayed addresses has room for permissions for these peers
abbrev pub HaveRoom : (most : ℕ) → List Endpoint → Table → Client → Type 0
HaveRoom most peers t client =
    (any_at (lacks_room most t.clock peers) t client.ipv4 ≡ false)
    × (any_at (lacks_room most t.clock peers) t client.ipv6 ≡ false)

-- with this channel it would have more than the most
abbrev pub lacks_channel : (most now number : ℕ) → Endpoint → Relay → Bool
lacks_channel most now number peer r = nat_lt most (length (with_channel now number peer r.channels))

-- the relayed address in a place is changed, if there is one
abbrev pub changed_in : Option Place → (Relay → Relay) → Table → Table
changed_in None change t = t
changed_in (Some place) change t = changed_slot place.slot change t
