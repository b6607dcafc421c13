use Rattle.std.proofs.Common.{[], ◌∷◌, ℕ, subst}
use Rattle.stun_grammar.specs.Attributes.{canonical}
use Rattle.stun_grammar.specs.Numbers.{be32}
use Rattle.ice_attrs.specs.Ice.{PRIORITY}
use Rattle.stun_authentication.specs.Writing.{Lengthens}
use Rattle.ice_checks.proofs.adding.add_priority.Goals as goal

pub returns : goal.returns
returns g c =
    let state = g.B.MessageWrite.state in
    subst (λ (n : ℕ). Lengthens c.push_priority.result (state c.args.write.now) (state c.push_priority.new.write) (canonical PRIORITY (be32 n) ∷ [])) c.new.ensures c.push_priority.ensures
