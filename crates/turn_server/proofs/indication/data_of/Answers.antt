use Rattle.std.proofs.Common.{◌+◌, ◌≤◌, rules, length, refl}
use Rattle.stun_grammar.specs.Numbers.{IsBytes}
use Rattle.stun_types.specs.LookingUp.{nth}
use Rattle.stun_types.specs.Message.{message_bytes}
use Rattle.turn_attrs.specs.Turn.{DATA}
use Rattle.turn_server.proofs.SpansLemmas.{found_at, within}
use Rattle.turn_server.proofs.indication.data_of.Goals as goal

pub overflow_add-result : goal.overflow_add-result
overflow_add-result c =
    let d = message_bytes c.args.message.now in
    let whole : IsBytes d = search rules in
    let inside : c.in_ok-offset.offset + 4 ≤ length d = within d (nth d DATA 0) (c.in_ok-offset.offset, c.in_ok-offset.attribute) whole refl c.in_ok-offset.ensures in
    search rules

pub returns : goal.returns
returns c =
    let d = message_bytes c.args.message.now in
    let whole : IsBytes d = search rules in
    found_at d (nth d DATA 0) (c.in_ok-offset.offset, c.in_ok-offset.attribute) (record { at = c.in_ok-offset.offset + 4; length = c.length.result }) whole refl c.in_ok-offset.ensures refl (search rules)
