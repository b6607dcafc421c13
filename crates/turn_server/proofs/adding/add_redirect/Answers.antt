use Rattle.std.proofs.Common.{[], ◌∷◌}
use Rattle.std.specs.Option.{option_map}
use Rattle.stun_attributes.specs.ErrorCodes.{error_code, error_reason}
use Rattle.stun_attributes.specs.Texts.{text_bytes}
use Rattle.stun_types.specs.Replies.{error_attribute}
use Rattle.stun_authentication.proofs.AddedLemmas.{in_turn, failed}
use Rattle.turn_server.specs.Answers.{alternate_attribute, software_attributes}
use Rattle.turn_server.proofs.adding.add_redirect.Goals as goal

pub returns-in_err-add_error : goal.returns-in_err-add_error
returns-in_err-add_error g c =
    failed c.from_residual.result _ _ c.in_err-add_error.field-0.0 (error_attribute (error_code c.args.error.now) (error_reason c.args.error.now) ∷ []) (alternate_attribute c.args.server ∷ software_attributes (option_map (λ it. text_bytes it.now) c.args.software)) c.in_err-add_error.ensures c.from_residual.ensures

pub returns : goal.returns
returns g c =
    in_turn c.in_ok-add_error.field-0 c.add_server.result _ _ _ (error_attribute (error_code c.args.error.now) (error_reason c.args.error.now) ∷ []) (alternate_attribute c.args.server ∷ software_attributes (option_map (λ it. text_bytes it.now) c.args.software)) c.in_ok-add_error.ensures c.add_server.ensures
