use Rattle.std.proofs.Common.{[], ◌∷◌, ◌++◌}
use Rattle.stun_grammar.specs.Attributes.{canonical}
use Rattle.stun_grammar.specs.Numbers.{be32}
use Rattle.ice_attrs.specs.Ice.{PRIORITY}
use Rattle.ice_checks.specs.Checks.{nomination_attributes, role_attribute}
use Rattle.stun_authentication.proofs.AddedLemmas.{in_turn, failed}
use Rattle.ice_checks.proofs.adding.add_request.Goals as goal

pub returns-in_err-add_priority : goal.returns-in_err-add_priority
returns-in_err-add_priority g c =
    failed c.from_residual.result _ _ c.in_err-add_priority.field-0.0 (canonical PRIORITY (be32 c.args.request.now.priority) ∷ []) (nomination_attributes c.args.request.now.nominates ++ role_attribute c.args.request.now.role c.args.request.now.tiebreaker ∷ []) c.in_err-add_priority.ensures c.from_residual.ensures

pub returns : goal.returns
returns g c =
    in_turn c.in_ok-add_priority.field-0 c.add_intent.result _ _ _ (canonical PRIORITY (be32 c.args.request.now.priority) ∷ []) (nomination_attributes c.args.request.now.nominates ++ role_attribute c.args.request.now.role c.args.request.now.tiebreaker ∷ []) c.in_ok-add_priority.ensures c.add_intent.ensures
