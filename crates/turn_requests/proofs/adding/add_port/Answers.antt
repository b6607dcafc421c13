use Rattle.stun_authentication.proofs.AddedLemmas.{nothing_more}
use Rattle.turn_requests.proofs.adding.add_port.Goals as goal

pub returns-in-Any : goal.returns-in-Any
returns-in-Any g c = rw c.in-Any.is (nothing_more (g.B.MessageWrite.state c.args.write.now) tt)

pub returns-in-Even : goal.returns-in-Even
returns-in-Even g c = rw c.in-Even.is c.add_even.ensures

pub returns-in-Reserved : goal.returns-in-Reserved
returns-in-Reserved g c = rw c.in-Reserved.is c.add_token.ensures
