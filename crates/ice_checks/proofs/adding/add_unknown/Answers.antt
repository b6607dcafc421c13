use Rattle.std.proofs.Common.{[], ◌∷◌}
use Rattle.stun_attributes.specs.DefaultReasons.{default_reason}
use Rattle.stun_grammar.specs.Attributes.{canonical}
use Rattle.stun_grammar.specs.AttributeTypes.{ERROR_CODE, UNKNOWN_ATTRIBUTES}
use Rattle.stun_values.specs.ErrorValues.{error_value}
use Rattle.stun_values.specs.TypeLists.{types_encoding}
use Rattle.stun_authentication.proofs.AddedLemmas.{in_turn, failed}
use Rattle.ice_checks.specs.Views.{types_in}
use Rattle.ice_checks.proofs.adding.add_unknown.Goals as goal

pub returns-in_err-add_error_value : goal.returns-in_err-add_error_value
returns-in_err-add_error_value g c =
    failed c.from_residual.result _ _ c.in_err-add_error_value.field-0.0 (canonical ERROR_CODE (error_value 420 (default_reason 420)) ∷ []) (canonical UNKNOWN_ATTRIBUTES (types_encoding (types_in c.args.types.now)) ∷ []) c.in_err-add_error_value.ensures c.from_residual.ensures

pub returns : goal.returns
returns g c =
    in_turn c.in_ok-add_error_value.field-0 c.push_types.result _ _ _ (canonical ERROR_CODE (error_value 420 (default_reason 420)) ∷ []) (canonical UNKNOWN_ATTRIBUTES (types_encoding (types_in c.args.types.now)) ∷ []) c.in_ok-add_error_value.ensures c.push_types.ensures
