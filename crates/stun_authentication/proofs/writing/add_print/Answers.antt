use Rattle.stun_authentication.proofs.FinishingLemmas.{finger_step, only_printed, unprinted}
use Rattle.stun_authentication.proofs.writing.add_print.Goals as goal

pub returns-then-wanted : goal.returns-then-wanted
returns-then-wanted g c =
    let state = g.B.MessageWrite.state in
    let old = state c.args.write.now in
    let new = state c.add_fingerprint.new.self in
    let reported = c.add_fingerprint.ensures in
    only_printed c.args.wanted c.add_fingerprint.result old new c.if-wanted.true (finger_step c.add_fingerprint.result old new reported.adds reported.answer)

pub returns : goal.returns
returns g c = unprinted c.args.wanted tt (g.B.MessageWrite.state c.args.write.now) c.if-wanted.false
