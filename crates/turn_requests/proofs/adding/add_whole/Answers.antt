use Rattle.stun_authentication.proofs.AddedLemmas.{nothing_more}
use Rattle.turn_requests.proofs.adding.add_whole.Goals as goal

pub returns : goal.returns
returns g c = rw c.if-dont_fragment.false (nothing_more (g.B.MessageWrite.state c.args.write.now) tt)
