use Rattle.ice_checks.proofs.WritingLemmas.{printed}
use Rattle.ice_checks.proofs.finishing.print.Goals as goal

pub returns : goal.returns
returns g c =
    let state = g.B.MessageWrite.state in
    let reported = c.add_fingerprint.ensures in
    printed c.add_fingerprint.result (state c.args.write.now) (state c.add_fingerprint.new.self) reported.adds reported.answer
