use Rattle.std.proofs.Common.{◌++◌, List, string_bytes, ap, ◌∙◌}
use Rattle.std.specs.List.{flat_map}
use Rattle.std.proofs.lemmas.Iterator.Consumers.{YieldsList-from_first, YieldsList-end}
use Rattle.stun_grammar.specs.Chains.{Shown}
use Rattle.stun_grammar.specs.Showing.{shown}
use Rattle.stun_types.specs.Message.{message_bytes}
use Rattle.stun_types.specs.Iterating.{items_left, item_view, borrowed}
use Rattle.stun_types.proofs.ItemsLemmas.{shown_items}
use Rattle.stun_show.specs.Report.{attribute_line}
use Rattle.stun_show.proofs.report.write_attributes.Goals as goal

pub returns : goal.returns
returns c =
    let d = message_bytes c.args.message.now in
    let start = ap items_left c.into_iter-offset-iterator.ensures.into_iter_gives ∙ c.iter_attributes-offset-items.ensures.items in
    let all = YieldsList-end (YieldsList-from_first item_view items_left {s = c.into_iter-offset-iterator.result} (borrowed (shown d)) start) c.loop-offset.yielded c.loop-offset.offset-iterator c.loop-offset.yielded_by c.next.result c.next.new.self c.in-None.is c.next.ensures.steps in
    c.loop-offset.invariant
    ∙ ap (λ (xs : List Shown). string_bytes c.args.text.now ++ flat_map attribute_line xs) (shown_items c.loop-offset.yielded (shown d) all.0)
