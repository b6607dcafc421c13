use Rattle.std.proofs.Common.{take, map, Ok}
use Rattle.stun_authentication.specs.Writing.{Lengthens}
use Rattle.turn_requests.specs.Requests.{named_peer}
use Rattle.turn_requests.proofs.adding.add_peers.Given as goal

abbrev pub invariant-loop-i : goal.invariant-loop-i
invariant-loop-i g l =
    Lengthens (Ok tt) (g.B.MessageWrite.state l.fn.write) (g.B.MessageWrite.state l.write) (map (named_peer l.id) (take l.i l.peers))
