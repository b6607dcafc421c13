use Rattle.std.proofs.Common.{◌≡◌, ◌*◌, ◌/◌, ◌<◌, ◌++◌, length, get_or, take, sym, ap, ◌∙◌, arith}
use Rattle.std.proofs.lemmas.List.{take_all, take_rest}
use Rattle.stun_text.proofs.Joining.{both, spelled_so}
use Rattle.stun_text.proofs.ListsLemmas.{commas_next}
use Rattle.stun_text.specs.Lists.{comma_before}
use Rattle.stun_values.specs.declared.algorithm.PasswordAlgorithmValue.TheVariants.{MD5}
use Rattle.stun_values.specs.Algorithms.{algorithm_name, algorithm_names}
use Rattle.stun_values.proofs.AlgorithmsLemmas.{each_none}
use Rattle.stun_values.proofs.ListsLemmas.{length_of_entries}
use Rattle.stun_values.proofs.AlgorithmEntriesLemmas.{entry_is}
use Rattle.stun_values.proofs.algorithm.put_names_in.Goals as goal

pub unreachable-requires : goal.unreachable-requires
unreachable-requires g c =
    let none = each_none (length c.args.value.now / 4) c.loop-i.i c.args.value.now c.loop-i-test.true c.requires in
    let some = rw (take_rest c.args.value.now (4 * c.loop-i.i)) at c.in_default.ensures in
    absurd cc

pub loop-i-preserved : goal.loop-i-preserved
loop-i-preserved g c = λ algorithms encoding.
    let wrote = g.S.TextSink.wrote in
    let joins = g.met.S.TextSink.joins in
    let i = c.loop-i.i in
    let value = c.args.value.now in
    let within : i < length algorithms = omega (arith, length_of_entries algorithms, ap length encoding, c.loop-i-test.true) in
    let reported = rw (take_rest value (4 * i)) at c.in-Ok.ensures.1 in
    let same : get_or algorithms i MD5 ≡ c.in-Ok.algorithm = entry_is algorithms i c.in-Ok.algorithm within (rw encoding reported) in
    let before = c.loop-i.invariant algorithms encoding in
    let name = c.in_ok-put_name.ensures in
    spelled_so wrote joins
    (ap (λ x. algorithm_names (take i algorithms) ++ (comma_before i ++ algorithm_name x)) (sym same) ∙ commas_next algorithm_name algorithms i MD5 within)
    (both wrote joins before name)

pub returns : goal.returns
returns g c = λ algorithms encoding.
    let all : take c.loop-i.i algorithms ≡ algorithms = take_all c.loop-i.i algorithms (omega (arith, length_of_entries algorithms, ap length encoding, c.loop-i-test.false)) in
    let before = c.loop-i.invariant algorithms encoding in
    spelled_so g.S.TextSink.wrote g.met.S.TextSink.joins (ap algorithm_names all) before
