use Rattle.std.specs.Option.{option_map}
use Rattle.stun_attributes.specs.Texts.{text_bytes}
use Rattle.stun_authentication.proofs.AddedLemmas.{in_turn, failed}
use Rattle.turn_requests.specs.Requests.{software_attributes, content}
use Rattle.turn_requests.proofs.adding.add_request.Goals as goal

pub returns-in_err-add_software : goal.returns-in_err-add_software
returns-in_err-add_software g c =
    failed c.from_residual.result _ _ c.in_err-add_software.field-0.0 (software_attributes (option_map (λ it. text_bytes it.now) c.args.software)) (content c.args.id c.args.request.now) c.in_err-add_software.ensures c.from_residual.ensures

pub returns : goal.returns
returns g c =
    in_turn c.in_ok-add_software.field-0 c.add_content.result _ _ _ (software_attributes (option_map (λ it. text_bytes it.now) c.args.software)) (content c.args.id c.args.request.now) c.in_ok-add_software.ensures c.add_content.ensures
