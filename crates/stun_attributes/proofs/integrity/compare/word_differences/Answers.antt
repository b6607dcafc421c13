use Rattle.std.proofs.Common.{◌≡◌, ℕ, ◌+◌, ◌*◌, ◌-◌, ◌≤◌, List, drop, length, sym, ◌∙◌, arith}
use Rattle.byteorder.specs.Numbers.{little_from-take}
use Rattle.stun_grammar.proofs.NumbersLemmas.{IsBytes-from}
use Rattle.stun_attributes.proofs.CompareLemmas.{next_word, all_compared}
use Rattle.stun_attributes.proofs.integrity.compare.word_differences.Goals as goal

pub loop-word-preserved : goal.loop-word-preserved
loop-word-preserved c =
    let left : List ℕ = c.args.left.now in
    let right : List ℕ = c.args.right.now in
    let n : ℕ = 4 * c.loop-word.word in
    let next : n + 4 ≡ 4 * (c.loop-word.word + 1) = omega arith in
    let within : 0 + 4 ≤ length left - n = omega arith in
    let within_right : 0 + 4 ≤ length right - n = omega arith in
    rw (sym next) (next_word left right c.loop-word.difference n c.read_u32-mine.result c.read_u32.result
    (IsBytes-from left (λ i. (c.type_inv.left i).fits)) (IsBytes-from right (λ i. (c.type_inv.right i).fits))
    (c.read_u32-mine.ensures ∙ little_from-take 0 4 (length left - n) (drop n left) within)
    (c.read_u32.ensures ∙ little_from-take 0 4 (length right - n) (drop n right) within_right)
    c.loop-word.invariant)

pub returns : goal.returns
returns c = all_compared c.args.left.now c.args.right.now c.loop-word.difference (4 * c.loop-word.word) (omega arith) (omega arith) c.loop-word.invariant
