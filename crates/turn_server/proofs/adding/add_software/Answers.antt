use Rattle.stun_authentication.proofs.AddedLemmas.{nothing_more}
use Rattle.turn_server.proofs.adding.add_software.Goals as goal

pub returns-in-Some : goal.returns-in-Some
returns-in-Some g c = rw c.in-Some.is (rw (c.TYPE.ensures, c.as_bytes.ensures.value, c.text.ensures.text) at c.add_bytes.ensures)

pub returns-in-None : goal.returns-in-None
returns-in-None g c = rw c.in-None.is (nothing_more (g.B.MessageWrite.state c.args.write.now) tt)
