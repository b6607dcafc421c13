use Rattle.std.proofs.Common.{◌++◌, map}
use Rattle.std.specs.Option.{option_to_list}
use Rattle.stun_authentication.proofs.AddedLemmas.{in_turn, failed}
use Rattle.turn_requests.specs.Requests.{family_attribute, family_beside, port_attributes, whole_attributes}
use Rattle.turn_requests.proofs.adding.add_relay.Goals as goal

pub returns-in_err-add_family : goal.returns-in_err-add_family
returns-in_err-add_family g c =
    failed c.from_residual.result _ _ c.in_err-add_family.field-0.0 (map family_attribute (option_to_list (family_beside c.args.port c.args.family))) (port_attributes c.args.port ++ whole_attributes c.args.dont_fragment) (rw c.family_beside.ensures at c.in_err-add_family.ensures) c.from_residual.ensures

pub returns : goal.returns
returns g c =
    in_turn c.in_ok-add_family.field-0 c.add_wishes.result _ _ _ (map family_attribute (option_to_list (family_beside c.args.port c.args.family))) (port_attributes c.args.port ++ whole_attributes c.args.dont_fragment) (rw c.family_beside.ensures at c.in_ok-add_family.ensures) c.add_wishes.ensures
