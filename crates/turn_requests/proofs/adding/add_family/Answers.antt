use Rattle.std.proofs.Common.{[], ◌∷◌, subst}
use Rattle.stun_base.specs.declared.transport.AddressFamily.{AddressFamily}
use Rattle.stun_authentication.specs.Writing.{Lengthens}
use Rattle.stun_authentication.proofs.AddedLemmas.{nothing_more}
use Rattle.turn_requests.specs.Requests.{family_attribute}
use Rattle.turn_requests.proofs.adding.add_family.Goals as goal

pub returns-in-Some : goal.returns-in-Some
returns-in-Some g c =
    let state = g.B.MessageWrite.state in
    rw c.in-Some.is (subst (λ (family : AddressFamily). Lengthens c.push_family.result (state c.args.write.now) (state c.push_family.new.write) (family_attribute family ∷ [])) c.new.ensures c.push_family.ensures)

pub returns-in-None : goal.returns-in-None
returns-in-None g c = rw c.in-None.is (nothing_more (g.B.MessageWrite.state c.args.write.now) tt)
