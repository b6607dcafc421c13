use Rattle.std.proofs.Common.{[], ◌∷◌}
use Rattle.std.specs.Option.{option_map}
use Rattle.stun_attributes.specs.Texts.{text_bytes}
use Rattle.stun_authentication.proofs.AddedLemmas.{in_turn, failed}
use Rattle.turn_server.specs.Answers.{alternate_attribute, software_attributes}
use Rattle.turn_server.proofs.adding.add_server.Goals as goal

pub returns-in_err-add_alternate : goal.returns-in_err-add_alternate
returns-in_err-add_alternate g c =
    failed c.from_residual.result _ _ c.in_err-add_alternate.field-0.0 (alternate_attribute c.args.server ∷ []) (software_attributes (option_map (λ it. text_bytes it.now) c.args.software)) c.in_err-add_alternate.ensures c.from_residual.ensures

pub returns : goal.returns
returns g c =
    in_turn c.in_ok-add_alternate.field-0 c.add_software.result _ _ _ (alternate_attribute c.args.server ∷ []) (software_attributes (option_map (λ it. text_bytes it.now) c.args.software)) c.in_ok-add_alternate.ensures c.add_software.ensures
