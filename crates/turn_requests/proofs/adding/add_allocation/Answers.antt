use Rattle.std.proofs.Common.{◌∷◌, map}
use Rattle.std.specs.Option.{option_to_list}
use Rattle.stun_authentication.proofs.AddedLemmas.{in_turn, failed}
use Rattle.turn_requests.specs.Requests.{lifetime_attribute, transport_attribute, relay_attributes}
use Rattle.turn_requests.proofs.adding.add_allocation.Goals as goal

pub returns-in_err-add_lifetime : goal.returns-in_err-add_lifetime
returns-in_err-add_lifetime g c =
    failed c.from_residual.result _ _ c.in_err-add_lifetime.field-0.0 (map lifetime_attribute (option_to_list c.args.lifetime)) (transport_attribute ∷ relay_attributes c.args.family c.args.port c.args.dont_fragment) c.in_err-add_lifetime.ensures c.from_residual.ensures

pub returns : goal.returns
returns g c =
    in_turn c.in_ok-add_lifetime.field-0 c.add_transported.result _ _ _ (map lifetime_attribute (option_to_list c.args.lifetime)) (transport_attribute ∷ relay_attributes c.args.family c.args.port c.args.dont_fragment) c.in_ok-add_lifetime.ensures c.add_transported.ensures
