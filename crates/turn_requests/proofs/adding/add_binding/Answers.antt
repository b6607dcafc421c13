use Rattle.std.proofs.Common.{[], ◌∷◌}
use Rattle.stun_authentication.proofs.AddedLemmas.{in_turn, failed}
use Rattle.turn_requests.specs.Requests.{channel_attribute, named_peer}
use Rattle.turn_requests.proofs.adding.add_binding.Goals as goal

pub returns-in_err-add_channel : goal.returns-in_err-add_channel
returns-in_err-add_channel g c =
    failed c.from_residual.result _ _ c.in_err-add_channel.field-0.0 (channel_attribute c.args.channel ∷ []) (named_peer c.args.id c.args.peer ∷ []) c.in_err-add_channel.ensures c.from_residual.ensures

pub returns : goal.returns
returns g c =
    in_turn c.in_ok-add_channel.field-0 c.add_peer.result _ _ _ (channel_attribute c.args.channel ∷ []) (named_peer c.args.id c.args.peer ∷ []) c.in_ok-add_channel.ensures c.add_peer.ensures
