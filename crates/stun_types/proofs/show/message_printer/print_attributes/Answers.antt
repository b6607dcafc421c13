use Rattle.std.proofs.Common.{ℕ, List, ◌++◌, ap, ◌∙◌, rules}
use Rattle.std.proofs.lemmas.Iterator.Consumers.{YieldsList-from_first, YieldsList-end}
use Rattle.stun_text.proofs.Joining.{both, spelled_so}
use Rattle.stun_text.proofs.ListsLemmas.{commas_more}
use Rattle.stun_text.specs.Lists.{with_commas}
use Rattle.stun_grammar.specs.Showing.{shown}
use Rattle.stun_types.specs.Iterating.{items_left, item_view, borrowed}
use Rattle.stun_types.proofs.PrintedMessagesLemmas.{item_text, comma_behind, items_text}
use Rattle.stun_types.proofs.show.message_printer.print_attributes.Goals as goal

pub loop-offset-preserved : goal.loop-offset-preserved
loop-offset-preserved g c =
    let wrote = g.S.TextSink.wrote in
    let joins = g.met.S.TextSink.joins in
    let text = item_text (g.P.MessagePrinter.text c.args.printer.now) in
    let kept = c.loop-offset.invariant in
    let xs = c.loop-offset.yielded in
    let item : ℕ × _ = (c.in-Some._offset, c.in-Some.attribute) in
    let next = c.loop-offset.lead.now ++ text item in (
      search rules,
      comma_behind xs item,
      spelled_so wrote joins (ap (λ (l : List ℕ). with_commas text xs ++ (l ++ text item)) kept.1 ∙ commas_more text xs item) (both wrote joins {b = next} kept.2 c.in_ok-print_led.ensures),
    )

pub loop-offset-preserved-in_ok-print_led : goal.loop-offset-preserved-in_ok-print_led
loop-offset-preserved-in_ok-print_led g c =
    let wrote = g.S.TextSink.wrote in
    let joins = g.met.S.TextSink.joins in
    let text = item_text (g.P.MessagePrinter.text c.args.printer.now) in
    let kept = c.loop-offset.invariant in
    let xs = c.loop-offset.yielded in
    let item : ℕ × _ = (c.in-Some._offset, c.in-Some.attribute) in
    let next = c.loop-offset.lead.now ++ text item in (
      search rules,
      comma_behind xs item,
      spelled_so wrote joins (ap (λ (l : List ℕ). with_commas text xs ++ (l ++ text item)) kept.1 ∙ commas_more text xs item) (both wrote joins {b = next} kept.2 c.in_ok-print_led.ensures),
    )

pub returns : goal.returns
returns g c =
    let text = g.P.MessagePrinter.text c.args.printer.now in
    let d = c.args.message.now.bytes.now in
    let start = ap items_left c.into_iter-offset-iterator.ensures.into_iter_gives ∙ c.iter_attributes-offset-items.ensures.items in
    let all = YieldsList-end (YieldsList-from_first item_view items_left {s = c.into_iter-offset-iterator.result} (borrowed (shown d)) start) c.loop-offset.yielded c.loop-offset._offset-iterator c.loop-offset.yielded_by c.next.result c.next.new.self c.in-None.is c.next.ensures.steps in
    spelled_so g.S.TextSink.wrote g.met.S.TextSink.joins (items_text text c.loop-offset.yielded (shown d) all.0) c.loop-offset.invariant.2
