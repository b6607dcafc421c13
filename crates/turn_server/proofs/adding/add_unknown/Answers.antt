use Rattle.std.proofs.Common.{[], ◌∷◌}
use Rattle.stun_attributes.specs.ErrorCodes.{error_code, error_reason}
use Rattle.stun_attributes.specs.Unknown.{listed}
use Rattle.stun_types.specs.Replies.{error_attribute}
use Rattle.stun_authentication.proofs.AddedLemmas.{in_turn, failed}
use Rattle.turn_server.specs.Answers.{list_attribute}
use Rattle.turn_server.proofs.adding.add_unknown.Goals as goal

pub returns-in_err-add_error : goal.returns-in_err-add_error
returns-in_err-add_error g c =
    failed c.from_residual.result _ _ c.in_err-add_error.field-0.0 (error_attribute (error_code c.args.error.now) (error_reason c.args.error.now) ∷ []) (list_attribute (listed c.args.list.now) ∷ []) c.in_err-add_error.ensures c.from_residual.ensures

pub returns : goal.returns
returns g c =
    in_turn c.in_ok-add_error.field-0 c.push_list.result _ _ _ (error_attribute (error_code c.args.error.now) (error_reason c.args.error.now) ∷ []) (list_attribute (listed c.args.list.now) ∷ []) c.in_ok-add_error.ensures c.push_list.ensures
