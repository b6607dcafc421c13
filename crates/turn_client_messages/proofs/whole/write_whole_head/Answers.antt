use Rattle.std.proofs.Common.{◌≡◌, ℕ, ◌+◌, ◌-◌, ◌≤◌, List, ◌++◌, length, take, drop, sym, ap, ◌∙◌, arith}
use Rattle.std.specs.Prelude.{None, min, replicate}
use Rattle.std.proofs.lemmas.List.{length-drop}
use Rattle.turn_attrs.specs.Heads.{data_head_fault, data_head_length, padding_of}
use Rattle.turn_client_messages.proofs.WholeLemmas.{all_of, is_short, none_of, surrounded}
use Rattle.turn_client_messages.proofs.whole.write_whole_head.Goals as goal

pub returns : goal.returns
returns c =
    let head = c.in_ok-head.head in
    let plain : List ℕ = c.write_send_head.new.before in
    let own : head.length ≡ data_head_length c.args.peer = c.in_ok-head.ensures.own in
    let there = c.in_ok-head.ensures.in_place in
    let old = c.args.before.now in
    let n = c.args.data_length in
    let whole : List ℕ = drop (48 - head.length) plain in
    let within : head.length ≤ 48 = there.1.within in
    let plain_long : length plain ≡ 48 = c.write_send_head.auto.before in
    let whole_long : length whole ≡ head.length = length-drop (48 - head.length) plain ∙ omega (arith, plain_long, within) in
    let p : List ℕ = take (48 - (48 - head.length)) whole in
    let is : p ≡ whole = all_of whole (48 - (48 - head.length)) (omega (arith, whole_long, within)) in
    let long : length p ≡ head.length = ap length is ∙ whole_long in
    let most_is : c.saturating_sub-most.result ≡ min c.args.greatest 65555 - 4 = c.saturating_sub-most.ensures ∙ ap (λ (k : ℕ). k - 4) c.min.ensures in
    let none : data_head_fault c.args.peer n (min c.args.greatest 65555 - 4) 48 ≡ None = ap (λ (m : ℕ). data_head_fault c.args.peer n m 48) (sym most_is) ∙ there.0 in
    let small : data_head_length c.args.peer + n + padding_of n ≤ 65551 = is_short c.args.peer n c.args.greatest 48 none in (
      none_of _ (length old) _ _ none (omega (arith, own, c.if-before-own.false)),
      surrounded c.args.id n _ c.args.peer old c.put_marked.new.before p head c.if-before-own.false long (omega (arith, own, long)) (omega (arith, own, long, small, there.1.padding_is)) c.put_marked.ensures
          (λ bytes e. ap (λ (q : List ℕ). (q ++ bytes) ++ replicate head.padding 0) is ∙ there.1.framed bytes e),
    )
