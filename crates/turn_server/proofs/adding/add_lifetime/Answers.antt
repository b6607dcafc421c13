use Rattle.std.proofs.Common.{[], ◌∷◌, ℕ, subst}
use Rattle.stun_authentication.specs.Writing.{Lengthens}
use Rattle.turn_server.specs.Answers.{lifetime_attribute}
use Rattle.turn_server.proofs.adding.add_lifetime.Goals as goal

pub returns : goal.returns
returns g c =
    let state = g.B.MessageWrite.state in
    subst (λ (n : ℕ). Lengthens c.push_lifetime.result (state c.args.write.now) (state c.push_lifetime.new.write) (lifetime_attribute n ∷ [])) c.new.ensures c.push_lifetime.ensures
