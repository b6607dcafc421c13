use Rattle.std.proofs.Common.{◌<◌, length, arith}
use Rattle.stun_authentication.proofs.AddedLemmas.{nothing_more}
use Rattle.turn_requests.specs.Requests.{named_peer}
use Rattle.turn_requests.proofs.AddedPeersLemmas.{one_more, one_fails, all_added}
use Rattle.turn_requests.proofs.adding.add_peers.Goals as goal

pub loop-i-init : goal.loop-i-init
loop-i-init g c = nothing_more (g.B.MessageWrite.state c.args.write.now) tt

pub loop-i-preserved : goal.loop-i-preserved
loop-i-preserved g c =
    let within : c.loop-i.i < length c.args.peers.now = omega arith in
    one_more (named_peer c.args.id) c.args.peers.now _ _ _ c.loop-i.i _ within c.loop-i.invariant c.in_ok-add_peer.ensures

pub returns-in_err-add_peer : goal.returns-in_err-add_peer
returns-in_err-add_peer g c =
    let within : c.loop-i.i < length c.args.peers.now = omega arith in
    one_fails (named_peer c.args.id) c.args.peers.now _ _ _ c.loop-i.i _ c.in_err-add_peer.field-0.0 c.from_residual.result within c.loop-i.invariant c.in_err-add_peer.ensures c.from_residual.ensures

pub returns : goal.returns
returns g c = all_added (named_peer c.args.id) c.args.peers.now _ _ c.loop-i.i (omega arith) c.loop-i.invariant
