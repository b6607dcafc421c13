use Rattle.stun_authentication.proofs.AddedLemmas.{nothing_more}
use Rattle.turn_server.proofs.adding.add_missing.Goals as goal

pub returns-in-None : goal.returns-in-None
returns-in-None g c = rw c.in-None.is (nothing_more (g.B.MessageWrite.state c.args.write.now) tt)
