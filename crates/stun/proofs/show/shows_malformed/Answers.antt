use Rattle.std.proofs.Common.{ℕ, List, ap, ◌∙◌}
use Rattle.std.proofs.lemmas.Iterator.Consumers.{YieldsList-from_first, YieldsList-end}
use Rattle.std.specs.List.{list_any}
use Rattle.stun_grammar.specs.Chains.{Shown}
use Rattle.stun_grammar.specs.Showing.{shown}
use Rattle.stun_types.specs.Message.{message_bytes}
use Rattle.stun_types.specs.Iterating.{items_left, item_view, borrowed}
use Rattle.stun_types.proofs.ItemsLemmas.{shown_items}
use Rattle.stun.specs.Values.{is_malformed}
use Rattle.stun.proofs.ValuesLemmas.{next_found}
use Rattle.stun.proofs.show.shows_malformed.Goals as goal

pub loop-offset-preserved : goal.loop-offset-preserved
loop-offset-preserved c =
    let item : ℕ × _ = (c.in-Some._offset, c.in-Some.attribute) in
    c.either-found.ensures ∙ next_found c.loop-offset.yielded item c.loop-offset.found c.has_fault.result c.loop-offset.invariant c.has_fault.ensures

pub returns : goal.returns
returns c =
    let d = message_bytes c.args.message.now in
    let start = ap items_left c.into_iter-offset-iterator.ensures.into_iter_gives ∙ c.iter_attributes-offset-items.ensures.items in
    let all = YieldsList-end (YieldsList-from_first item_view items_left {s = c.into_iter-offset-iterator.result} (borrowed (shown d)) start) c.loop-offset.yielded c.loop-offset._offset-iterator c.loop-offset.yielded_by c.next.result c.next.new.self c.in-None.is c.next.ensures.steps in
    c.loop-offset.invariant
    ∙ ap (λ (xs : List Shown). list_any is_malformed xs) (shown_items c.loop-offset.yielded (shown d) all.0)
