use Rattle.stun_authentication.proofs.AddedLemmas.{in_turn, failed}
use Rattle.turn_requests.specs.Requests.{port_attributes, whole_attributes}
use Rattle.turn_requests.proofs.adding.add_wishes.Goals as goal

pub returns-in_err-add_port : goal.returns-in_err-add_port
returns-in_err-add_port g c =
    failed c.from_residual.result _ _ c.in_err-add_port.field-0.0 (port_attributes c.args.port) (whole_attributes c.args.dont_fragment) c.in_err-add_port.ensures c.from_residual.ensures

pub returns : goal.returns
returns g c =
    in_turn c.in_ok-add_port.field-0 c.add_whole.result _ _ _ (port_attributes c.args.port) (whole_attributes c.args.dont_fragment) c.in_ok-add_port.ensures c.add_whole.ensures
