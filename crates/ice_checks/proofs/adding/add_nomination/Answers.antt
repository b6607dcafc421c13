use Rattle.stun_authentication.proofs.AddedLemmas.{nothing_more}
use Rattle.ice_checks.proofs.adding.add_nomination.Goals as goal

pub returns-then-nominates : goal.returns-then-nominates
returns-then-nominates g c = rw c.if-nominates.true c.push_nomination.ensures

pub returns : goal.returns
returns g c = rw c.if-nominates.false (nothing_more (g.B.MessageWrite.state c.args.write.now) tt)
