use Rattle.stun_authentication.proofs.AddedLemmas.{nothing_more}
use Rattle.turn_server.proofs.adding.add_content.Goals as goal

pub returns-in-Done : goal.returns-in-Done
returns-in-Done g c = rw c.in-Done.is (nothing_more (g.B.MessageWrite.state c.args.write.now) tt)

pub returns-in-Allocated : goal.returns-in-Allocated
returns-in-Allocated g c = rw c.in-Allocated.is (rw c.transaction_id.ensures at c.add_allocation.ensures)
