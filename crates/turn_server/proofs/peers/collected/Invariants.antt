use Rattle.std.proofs.Common.{◌≡◌, ◌++◌, true, map, length}
use Rattle.std.specs.List.{list_all}
use Rattle.stun_types.specs.Iterating.{items_left}
use Rattle.stun_types.specs.Message.{message_bytes}
use Rattle.turn_server.specs.Addresses.{is_address, peer_in}
use Rattle.turn_server.specs.Peers.{peer_items, peers_of}
use Rattle.turn_server.proofs.peers.collected.Given as goal

-- what is left names no peer by a malformed value; the list and what is left are the peers
abbrev pub invariant-walk : goal.invariant-walk
invariant-walk l =
    let left = peer_items (items_left l.attributes) in
    (list_all is_address left ≡ true)
    × (l.peers.items ++ map (peer_in l.id) left ≡ peers_of (message_bytes l.fn.request))

abbrev pub decreases-walk : goal.decreases-walk
decreases-walk l = length (items_left l.attributes)
