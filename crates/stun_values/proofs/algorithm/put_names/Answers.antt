use Rattle.stun_text.proofs.Joining.{both, spelled_so}
use Rattle.stun_text.proofs.ListsLemmas.{commas_next}
use Rattle.stun_values.specs.declared.algorithm.PasswordAlgorithmValue.TheVariants.{MD5}
use Rattle.stun_values.specs.Algorithms.{algorithm_name}
use Rattle.stun_values.proofs.algorithm.put_names.Goals as goal

pub loop-i-preserved : goal.loop-i-preserved
loop-i-preserved g c =
    let wrote = g.S.TextSink.wrote in
    let joins = g.met.S.TextSink.joins in
    let before = c.loop-i.invariant in
    let name = c.in_ok-put_name.ensures in
    spelled_so wrote joins (commas_next algorithm_name c.args.algorithms.now c.loop-i.i MD5 c.loop-i-test.true) (both wrote joins before name)
