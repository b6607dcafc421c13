use Rattle.stun_grammar.specs.Showing.{shown}
use Rattle.stun_types.specs.Message.{message_bytes}
use Rattle.turn_server.proofs.PeersLemmas.{begins_named}
use Rattle.turn_server.proofs.peers.names_peers.Goals as goal

pub walk-init : goal.walk-init
walk-init c = begins_named (shown (message_bytes c.args.request.now)) _ c.iter_attributes-attributes.ensures.items
