use Rattle.std.proofs.Common.{◌≡◌, ◌+◌, ◌++◌, ◌<◌, length, map, take, drop, set, get_or, sym, subst, arith}
use Rattle.std.proofs.lemmas.List.{get_or_default}
use Rattle.std.proofs.lemmas.List.Edits.{map_over_more}
use Rattle.turn_client_machine.specs.declared.peers.Peer.{Peer}
use Rattle.turn_client_machine.specs.Responses.{changed_if}
use Rattle.turn_client_state.specs.Lookups.{test_of, changed_by}
use Rattle.turn_client_state.proofs.NumbersLemmas.{no_peer}
use Rattle.turn_client_state.proofs.changes.change_each.Goals as goal

pub loop-i-preserved : goal.loop-i-preserved
loop-i-preserved c =
    let F = changed_if (test_of c.args.sought.now) (changed_by c.args.by.now) in
    let x : Peer = get_or c.loop-i.peers c.loop-i.i no_peer in
    let lt : c.loop-i.i < length c.loop-i.peers = omega arith in
    let within : c.loop-i.i < length c.args.peers.now = omega arith in
    subst (λ (y : Peer). set c.loop-i.peers c.loop-i.i y ≡ map {B = Peer} F (take (c.loop-i.i + 1) c.args.peers.now) ++ drop (c.loop-i.i + 1) c.args.peers.now) (sym c.changed_if.ensures)
    (map_over_more F c.args.peers.now c.loop-i.peers c.loop-i.i x within c.loop-i.invariant (get_or_default c.loop-i.peers c.loop-i.i no_peer x lt))
