use Rattle.std.proofs.Common.{[], ◌∷◌, ℕ, subst}
use Rattle.stun_grammar.specs.Attributes.{canonical}
use Rattle.stun_grammar.specs.Numbers.{be32}
use Rattle.stun_authentication.specs.Writing.{Lengthens}
use Rattle.turn_attrs.specs.Turn.{REQUESTED_TRANSPORT, protocol_number}
use Rattle.turn_requests.proofs.adding.add_transport.Goals as goal

pub returns : goal.returns
returns g c =
    let state = g.B.MessageWrite.state in
    subst (λ (n : ℕ). Lengthens c.push_transport.result (state c.args.write.now) (state c.push_transport.new.write) (canonical REQUESTED_TRANSPORT (be32 (protocol_number n)) ∷ [])) c.new.ensures c.push_transport.ensures
