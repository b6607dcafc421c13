use Rattle.stun_authentication.proofs.AddedLemmas.{nothing_more}
use Rattle.stun_authentication.proofs.refusing.add_carried.Goals as goal

pub returns-in_default : goal.returns-in_default
returns-in_default g c = rw (c.in_default.is-0, c.in_default.is-1) (nothing_more (g.B.MessageWrite.state c.args.write.now) tt)

pub returns-in_default-2 : goal.returns-in_default-2
returns-in_default-2 g c = rw (c.in_default.is-0, c.in_default.is-1) (nothing_more (g.B.MessageWrite.state c.args.write.now) tt)

pub returns-in_default-3 : goal.returns-in_default-3
returns-in_default-3 g c = rw c.in_default.is-0 (nothing_more (g.B.MessageWrite.state c.args.write.now) tt)
