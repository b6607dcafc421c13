use Rattle.std.proofs.Common.{[], ◌∷◌, subst}
use Rattle.std.specs.declared.net.socket_addr.SocketAddr.{SocketAddr}
use Rattle.stun_grammar.specs.Attributes.{canonical}
use Rattle.stun_grammar.specs.AttributeTypes.{ALTERNATE_SERVER}
use Rattle.stun_values.specs.Addresses.{address_value}
use Rattle.stun_authentication.specs.Writing.{Lengthens}
use Rattle.turn_server.proofs.adding.add_alternate.Goals as goal

pub returns : goal.returns
returns g c =
    let state = g.B.MessageWrite.state in
    subst (λ (a : SocketAddr). Lengthens c.push_alternate.result (state c.args.write.now) (state c.push_alternate.new.write) (canonical ALTERNATE_SERVER (address_value a) ∷ [])) (rw c.from.ensures at c.new.ensures) c.push_alternate.ensures
