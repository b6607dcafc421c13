use Rattle.std.proofs.Common.{[], ◌∷◌}
use Rattle.stun_authentication.proofs.AddedLemmas.{in_turn, failed}
use Rattle.turn_requests.specs.Requests.{transport_attribute, relay_attributes}
use Rattle.turn_requests.proofs.adding.add_transported.Goals as goal

pub returns-in_err-add_transport : goal.returns-in_err-add_transport
returns-in_err-add_transport g c =
    failed c.from_residual.result _ _ c.in_err-add_transport.field-0.0 (transport_attribute ∷ []) (relay_attributes c.args.family c.args.port c.args.dont_fragment) c.in_err-add_transport.ensures c.from_residual.ensures

pub returns : goal.returns
returns g c =
    in_turn c.in_ok-add_transport.field-0 c.add_relay.result _ _ _ (transport_attribute ∷ []) (relay_attributes c.args.family c.args.port c.args.dont_fragment) c.in_ok-add_transport.ensures c.add_relay.ensures
