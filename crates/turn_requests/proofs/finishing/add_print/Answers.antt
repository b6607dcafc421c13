use Rattle.turn_requests.proofs.WritingLemmas.{print_ends, nothing_ends}
use Rattle.turn_requests.proofs.finishing.add_print.Goals as goal

pub returns-then-wanted : goal.returns-then-wanted
returns-then-wanted g c =
    let state = g.B.MessageWrite.state in
    let reported = c.add_fingerprint.ensures in
    print_ends c.args.wanted c.add_fingerprint.result (state c.args.write.now) (state c.add_fingerprint.new.self) c.if-wanted.true reported.adds reported.answer

pub returns : goal.returns
returns g c = nothing_ends c.args.wanted (g.B.MessageWrite.state c.args.write.now) c.if-wanted.false
