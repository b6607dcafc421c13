use Rattle.std.proofs.Common.{[], ◌∷◌, ℕ, subst}
use Rattle.stun_authentication.specs.Writing.{Lengthens}
use Rattle.stun_authentication.proofs.AddedLemmas.{nothing_more}
use Rattle.turn_requests.specs.Requests.{lifetime_attribute}
use Rattle.turn_requests.proofs.adding.add_lifetime.Goals as goal

pub returns-in-Some : goal.returns-in-Some
returns-in-Some g c =
    let state = g.B.MessageWrite.state in
    rw c.in-Some.is (subst (λ (n : ℕ). Lengthens c.push_lifetime.result (state c.args.write.now) (state c.push_lifetime.new.write) (lifetime_attribute n ∷ [])) c.new.ensures c.push_lifetime.ensures)

pub returns-in-None : goal.returns-in-None
returns-in-None g c = rw c.in-None.is (nothing_more (g.B.MessageWrite.state c.args.write.now) tt)
