use Rattle.std.proofs.Common.{[], ◌∷◌, ℕ, subst}
use Rattle.stun_grammar.specs.Attributes.{canonical}
use Rattle.stun_grammar.specs.Numbers.{be64}
use Rattle.stun_authentication.specs.Writing.{Lengthens}
use Rattle.ice_attrs.specs.Ice.{ICE_CONTROLLED, ICE_CONTROLLING}
use Rattle.ice_checks.proofs.adding.add_role.Goals as goal

pub returns-in-Controlling : goal.returns-in-Controlling
returns-in-Controlling g c =
    let state = g.B.MessageWrite.state in
    rw c.in-Controlling.is (subst (λ (n : ℕ). Lengthens c.push_controlling.result (state c.args.write.now) (state c.push_controlling.new.write) (canonical ICE_CONTROLLING (be64 n) ∷ [])) c.new.ensures c.push_controlling.ensures)

pub returns-in-Controlled : goal.returns-in-Controlled
returns-in-Controlled g c =
    let state = g.B.MessageWrite.state in
    rw c.in-Controlled.is (subst (λ (n : ℕ). Lengthens c.push_controlled.result (state c.args.write.now) (state c.push_controlled.new.write) (canonical ICE_CONTROLLED (be64 n) ∷ [])) c.new-in-Controlled.ensures c.push_controlled.ensures)
