use Rattle.std.proofs.Common.{[], ◌∷◌, ℕ, subst}
use Rattle.stun_authentication.specs.Writing.{Lengthens}
use Rattle.stun_authentication.proofs.AddedLemmas.{nothing_more}
use Rattle.turn_server.specs.Answers.{token_attribute}
use Rattle.turn_server.proofs.adding.add_token.Goals as goal

pub returns-in-Some : goal.returns-in-Some
returns-in-Some g c =
    let state = g.B.MessageWrite.state in
    rw c.in-Some.is (subst (λ (n : ℕ). Lengthens c.push_token.result (state c.args.write.now) (state c.push_token.new.write) (token_attribute n ∷ [])) c.new.ensures c.push_token.ensures)

pub returns-in-None : goal.returns-in-None
returns-in-None g c = rw c.in-None.is (nothing_more (g.B.MessageWrite.state c.args.write.now) tt)
