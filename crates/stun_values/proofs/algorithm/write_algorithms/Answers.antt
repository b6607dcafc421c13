use Rattle.std.proofs.Common.{◌+◌, ◌*◌, take, ◌∙◌, arith}
use Rattle.std.proofs.lemmas.List.{take_rest, length-take}
use Rattle.stun_values.specs.declared.algorithm.PasswordAlgorithmValue.TheVariants.{MD5}
use Rattle.stun_values.specs.Algorithms.{algorithm_encoding}
use Rattle.stun_values.proofs.ListsLemmas.{written_from, write_next, length_of_entries}
use Rattle.stun_values.proofs.algorithm.write_algorithms.Goals as goal

pub loop-i-preserved : goal.loop-i-preserved
loop-i-preserved c =
    let i = c.loop-i.i in
    let list = c.args.algorithms.now in
    written_from (4 * i) c.loop-i.dest _ _ (rw (take_rest c.loop-i.dest (4 * i)) at c.write_algorithm.ensures)
    ∙ write_next algorithm_encoding list MD5 i c.loop-i.dest c.args.dest.now (4 * i) (4 * (i + 1)) 4 c.loop-i-test.true (omega arith)
    (omega (arith, length_of_entries (take i list), length-take i list, c.loop-i-test.true)) c.loop-i.invariant
