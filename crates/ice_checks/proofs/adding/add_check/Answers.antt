use Rattle.std.proofs.Common.{[], ◌∷◌, ◌++◌}
use Rattle.stun_grammar.specs.Attributes.{canonical}
use Rattle.std.specs.Option.{option_map}
use Rattle.stun_attributes.specs.Texts.{text_bytes}
use Rattle.stun_grammar.specs.AttributeTypes.{USERNAME}
use Rattle.stun_grammar.specs.Numbers.{be32}
use Rattle.ice_attrs.specs.Ice.{PRIORITY}
use Rattle.ice_checks.specs.Checks.{nomination_attributes, role_attribute, software_attributes}
use Rattle.stun_authentication.proofs.AddedLemmas.{in_turn, failed}
use Rattle.ice_checks.proofs.adding.add_check.Goals as goal

pub returns-in_err-add_software : goal.returns-in_err-add_software
returns-in_err-add_software g c =
    failed c.from_residual.result _ _ c.in_err-add_software.field-0.0 (software_attributes (option_map (λ it. text_bytes it.now) c.args.software)) (canonical USERNAME c.args.username.now ∷ (canonical PRIORITY (be32 c.args.request.now.priority) ∷ (nomination_attributes c.args.request.now.nominates ++ role_attribute c.args.request.now.role c.args.request.now.tiebreaker ∷ []))) c.in_err-add_software.ensures c.from_residual.ensures

pub returns : goal.returns
returns g c =
    in_turn c.in_ok-add_software.field-0 c.add_named.result _ _ _ (software_attributes (option_map (λ it. text_bytes it.now) c.args.software)) (canonical USERNAME c.args.username.now ∷ (canonical PRIORITY (be32 c.args.request.now.priority) ∷ (nomination_attributes c.args.request.now.nominates ++ role_attribute c.args.request.now.role c.args.request.now.tiebreaker ∷ []))) c.in_ok-add_software.ensures c.add_named.ensures
