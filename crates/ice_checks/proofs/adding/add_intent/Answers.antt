use Rattle.std.proofs.Common.{[], ◌∷◌}
use Rattle.ice_checks.specs.Checks.{nomination_attributes, role_attribute}
use Rattle.stun_authentication.proofs.AddedLemmas.{in_turn, failed}
use Rattle.ice_checks.proofs.adding.add_intent.Goals as goal

pub returns-in_err-add_nomination : goal.returns-in_err-add_nomination
returns-in_err-add_nomination g c =
    failed c.from_residual.result _ _ c.in_err-add_nomination.field-0.0 (nomination_attributes c.args.request.now.nominates) (role_attribute c.args.request.now.role c.args.request.now.tiebreaker ∷ []) c.in_err-add_nomination.ensures c.from_residual.ensures

pub returns : goal.returns
returns g c =
    in_turn c.in_ok-add_nomination.field-0 c.add_role.result _ _ _ (nomination_attributes c.args.request.now.nominates) (role_attribute c.args.request.now.role c.args.request.now.tiebreaker ∷ []) c.in_ok-add_nomination.ensures c.add_role.ensures
