use Rattle.std.proofs.Common.{[], ◌∷◌, ℕ, subst}
use Rattle.stun_authentication.specs.Writing.{Lengthens}
use Rattle.turn_requests.specs.Requests.{channel_attribute}
use Rattle.turn_requests.proofs.adding.add_channel.Goals as goal

pub returns : goal.returns
returns g c =
    let state = g.B.MessageWrite.state in
    subst (λ (n : ℕ). Lengthens c.push_channel.result (state c.args.write.now) (state c.push_channel.new.write) (channel_attribute n ∷ [])) c.new.ensures c.push_channel.ensures
