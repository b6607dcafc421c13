use Rattle.std.proofs.Common.{◌+◌, ◌*◌, ◌/◌, ◌≡◌, ℕ, length, take, ◌∙◌, ap, arith}
use Rattle.std.proofs.lemmas.List.{take_rest}
use Rattle.std.specs.List.{flat_map}
use Rattle.stun_values.specs.Algorithms.{algorithm_encoding}
use Rattle.stun_values.proofs.AlgorithmsLemmas.{each_none}
use Rattle.stun_values.proofs.ListsLemmas.{read_next}
use Rattle.stun_attributes.proofs.password_algorithms.PasswordAlgorithms.list_of.Goals as goal

pub returns-in_err-algorithm : goal.returns-in_err-algorithm
returns-in_err-algorithm c =
    let none = each_none (length c.args.value.now / 4) c.loop-i.i c.args.value.now c.loop-i-test.true c.requires.each in
    let some = rw (take_rest c.args.value.now (4 * c.loop-i.i)) at c.in_err-algorithm.ensures in
    absurd cc

pub loop-i-preserved : goal.loop-i-preserved
loop-i-preserved c =
    let i = c.loop-i.i in
    let value = c.args.value.now in
    let place : 4 * i + 4 ≡ 4 * (i + 1) = omega arith in
    let reported = rw (take_rest value (4 * i)) at c.in_ok-algorithm.ensures.1 in (
      ap (flat_map algorithm_encoding) c.in-Ok.ensures.items
          ∙ read_next algorithm_encoding c.loop-i.list.items c.in_ok-algorithm.algorithm value (4 * i) 4 c.loop-i.invariant.0 reported ∙ ap (λ (k : ℕ). take k value) place,
      omega (arith, c.in-Ok.ensures.len, c.loop-i.invariant.1),
    )
