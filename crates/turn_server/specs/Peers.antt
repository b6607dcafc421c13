-- The peers that a CreatePermission request names (RFC 8656, section 10.2).
use Rattle.std.specs.Prelude.{ℕ, Bool, not, ◌&&◌, List, map, filter, length, ◌==◌}
use Rattle.std.specs.List.{list_all}
use Rattle.stun_grammar.specs.Headers.{id_field}
use Rattle.stun_grammar.specs.Chains.{Shown}
use Rattle.stun_grammar.specs.Showing.{shown}
use Rattle.turn_attrs.specs.Turn.{XOR_PEER_ADDRESS}
use Rattle.stun_endpoints.specs.declared.endpoints.Endpoint.{Endpoint}
use Rattle.turn_server.specs.Addresses.{is_address, peer_in}

-- of some attributes, the values of those that name a peer
abbrev pub peer_values : List Shown → List (List ℕ)
peer_values attributes = map (λ a. a.value) (filter (λ a. a.type == XOR_PEER_ADDRESS) attributes)

-- whether d names a peer, and none by a malformed value
abbrev pub names_peers : List ℕ → Bool
names_peers d =
    not (length (peer_values (shown d)) == 0) && list_all is_address (peer_values (shown d))

-- those that it names, in order and as often as it names them
abbrev pub peers_of : List ℕ → List Endpoint
peers_of d = map (peer_in (id_field d)) (peer_values (shown d))

-- the values among items that an iterator over attributes yields, each with whether it is borrowed
abbrev pub peer_items : List (Shown × Bool) → List (List ℕ)
peer_items items = peer_values (map (λ item. item.0) items)
