use Rattle.std.proofs.Common.{◌≡◌, ℕ, ◌+◌, List, ◌++◌, length, take, replicate, ap, ◌∙◌, arith}
use Rattle.stun_types_c.specs.Numbers.{padded}
use Rattle.stun_types_c.proofs.NumbersLemmas.{padded as is_padded, adds}
use Rattle.stun_types_c.proofs.numbers.add_padded.Goals as goal

pub returns : goal.returns
returns c =
    let value = take (length c.args.octets.now + c.zeros_of.result) c.copy_to_start.new.dest in
    let is : value ≡ padded c.args.atype c.args.octets.now =
    ap (λ (d : List ℕ). take (length c.args.octets.now + c.zeros_of.result) d) c.copy_to_start.ensures
    ∙ is_padded c.args.octets.now c.zeros_of.result 12 (omega (arith, c.requires, c.zeros_of.ensures.few))
    ∙ ap (λ (z : ℕ). c.args.octets.now ++ replicate z 0) c.zeros_of.ensures.zeros in
    adds c.args.atype c.args.octets.now value c.add_short.result _ _ is c.add_short.ensures
