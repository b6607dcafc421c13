use Rattle.std.proofs.Common.{◌≡◌, ℕ, ◌+◌, ◌-◌, List, length, take, drop, Some, inl, inr, sym, ap, ◌∙◌, arith}
use Rattle.std.proofs.lemmas.Bool.{cases_lt}
use Rattle.std.proofs.lemmas.List.{take_rest, length-drop}
use Rattle.stun_grammar.specs.Numbers.{number}
use Rattle.stun_grammar.specs.Chains.{stated_length}
use Rattle.stun_grammar.proofs.ChainsLemmas.{at_the_end, no_header, no_value, no_padding, whole_attribute}
use Rattle.stun_attributes.proofs.wire.walk.attribute_at.Goals as goal

pub returns-then-offset-bytes : goal.returns-then-offset-bytes
returns-then-offset-bytes c = let is = at_the_end c.args.offset c.args.bytes.now c.if-offset-bytes.true in (is.first_attribute_is, is.fault_is)

pub returns-then-rest-lt4 : goal.returns-then-rest-lt4
returns-then-rest-lt4 c =
    let rest = ap length (take_rest c.args.bytes.now c.args.offset) in
    let is = no_header c.args.offset c.args.bytes.now (omega arith) (omega (arith, rest, length-drop c.args.offset c.args.bytes.now)) in
    (is.first_attribute_is, is.fault_is)

pub returns-then-rest-padded : goal.returns-then-rest-padded
returns-then-rest-padded c =
    let same = take_rest c.args.bytes.now c.args.offset in
    let rest = ap length same in
    let n = c.number_at-stated.result in
    let n-is = c.number_at-stated.ensures ∙ ap stated_length same in
    elim (cases_lt (length c.args.bytes.now) (c.args.offset + 4 + n)) [
      | inl cut ↦
          let is = no_value c.args.offset c.args.bytes.now n (omega (arith, rest, length-drop c.args.offset c.args.bytes.now)) n-is cut in
          (is.first_attribute_is, is.fault_is ∙ ap Some (sym (c.cut_off.ensures.value cut)))
      | inr whole ↦
          let is = no_padding c.args.offset c.args.bytes.now n whole n-is (omega (arith, rest, length-drop c.args.offset c.args.bytes.now, c.pad_attribute_len-padded.ensures)) in
          (is.first_attribute_is, is.fault_is ∙ ap Some (sym (c.cut_off.ensures.padding whole)))
    ]

pub returns : goal.returns
returns c =
    let same = take_rest c.args.bytes.now c.args.offset in
    let n = c.number_at-stated.result in
    let n-is = c.number_at-stated.ensures ∙ ap stated_length same in
    let is = whole_attribute c.args.offset c.args.bytes.now n (omega (arith, ap length same, length-drop c.args.offset c.args.bytes.now, c.pad_attribute_len-padded.ensures)) n-is in
    let type-is = c.number_at.ensures ∙ ap (λ (r : List ℕ). number (take 2 r)) same ∙ is.type_is in
    let n-cut : 4 + n - 4 ≡ n = omega arith in
    let value-is = ap (λ (k : ℕ). take k (drop 4 (take (length c.args.bytes.now - c.args.offset) (drop c.args.offset c.args.bytes.now)))) n-cut
    ∙ ap (λ (r : List ℕ). take n (drop 4 r)) same ∙ is.value_is in (
      omega (arith, ap length same, length-drop c.args.offset c.args.bytes.now),
      record {
        attribute = is.attribute;
        first_is = is.first_attribute_is;
        raw_is = rw (← type-is, ← value-is) c.borrowed-attribute.ensures;
        behind_is = omega (arith, c.pad_attribute_len-padded.ensures, is.behind_is);
      },
    )
