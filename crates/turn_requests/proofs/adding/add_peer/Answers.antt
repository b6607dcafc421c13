use Rattle.std.proofs.Common.{List, [], ◌∷◌, ℕ, subst}
use Rattle.stun_attributes.specs.Kinds.{xored_of}
use Rattle.stun_grammar.specs.Attributes.{canonical}
use Rattle.stun_authentication.specs.Writing.{Lengthens}
use Rattle.stun_endpoints.specs.Conversions.{socket_of}
use Rattle.turn_attrs.specs.Turn.{XOR_PEER_ADDRESS}
use Rattle.turn_attrs.proofs.HeadsLemmas.{xored_spelled}
use Rattle.turn_requests.proofs.adding.add_peer.Goals as goal

pub returns : goal.returns
returns g c =
    let state = g.B.MessageWrite.state in
    subst (λ (value : List ℕ). Lengthens c.push_peer.result (state c.args.write.now) (state c.push_peer.new.write) (canonical XOR_PEER_ADDRESS value ∷ []))
    (xored_spelled c.args.id (socket_of c.args.peer) (xored_of c.new.result) (rw c.from.ensures at c.new.ensures)) c.push_peer.ensures
