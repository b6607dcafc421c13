use Rattle.std.proofs.Common.{◌≡◌, length}
use Rattle.stun_types.specs.Iterating.{items_left}
use Rattle.stun_types.specs.Message.{message_bytes}
use Rattle.turn_server.specs.Peers.{names_peers}
use Rattle.turn_server.proofs.PeersLemmas.{all_named}
use Rattle.turn_server.proofs.peers.names_peers.Given as goal

-- what is found so far and what is left decide it
abbrev pub invariant-walk : goal.invariant-walk
invariant-walk l = all_named l.found (items_left l.attributes) ≡ names_peers (message_bytes l.fn.request)

abbrev pub decreases-walk : goal.decreases-walk
decreases-walk l = length (items_left l.attributes)
