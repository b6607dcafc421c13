use Rattle.std.proofs.Common.{List, [], ◌∷◌, ℕ, subst}
use Rattle.stun_attributes.specs.Kinds.{xored_of}
use Rattle.stun_grammar.specs.Attributes.{canonical}
use Rattle.stun_grammar.specs.AttributeTypes.{XOR_MAPPED_ADDRESS}
use Rattle.stun_authentication.specs.Writing.{Lengthens}
use Rattle.stun_endpoints.specs.Conversions.{socket_of}
use Rattle.ice_checks.proofs.AddressesLemmas.{xored_spelled}
use Rattle.ice_checks.proofs.adding.add_mapped.Goals as goal

pub returns : goal.returns
returns g c =
    let state = g.B.MessageWrite.state in
    subst (λ (value : List ℕ). Lengthens c.push_mapped.result (state c.args.write.now) (state c.push_mapped.new.write) (canonical XOR_MAPPED_ADDRESS value ∷ []))
    (xored_spelled c.args.id (socket_of c.args.source) (xored_of c.new.result) (rw c.from.ensures at c.new.ensures)) c.push_mapped.ensures
