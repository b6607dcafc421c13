use Rattle.std.proofs.Common.{◌∙◌, rules}
use Rattle.user_examples.proofs.TwoWritersLemmas.{both}
use Rattle.user_examples.proofs.two_writers.in_both.Goals as goal

pub returns : goal.returns
returns g c = record {
  same = λ all each.
      let one = c.in_ok-vector.ensures in
      let two = c.in_ok-write_steps_into.ensures.runs in
      let agree = c.writers_agree.ensures.all _ _ _ _ _ _ _ _ _ _ _ one.writes two.writes (one.count ∙ c.requires.count) (two.count ∙ c.requires.others) all each in
      let held = both _ _ _ _ _ _ c.args.buf.now _ c.finish-written.ensures.slice c.finish-bytes.ensures agree.0 two.writes.rest c.new-slice.ensures.rest c.finish-written.ensures.written in
      search (rules, held);
}
