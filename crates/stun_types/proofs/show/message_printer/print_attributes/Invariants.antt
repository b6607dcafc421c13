use Rattle.std.proofs.Common.{◌≡◌, length}
use denote.Text.{Utf8}
use denote.Shadow.{shadow}
use Rattle.stun_text.specs.Lists.{with_commas, comma_before}
use Rattle.stun_types.proofs.PrintedMessagesLemmas.{item_text}
use Rattle.stun_types.proofs.show.message_printer.print_attributes.Given as goal

-- the attributes so far are written; `lead` is what precedes the next
abbrev pub invariant-loop-offset : goal.invariant-loop-offset
invariant-loop-offset g l =
    shadow (Utf8 l.lead) × (l.lead ≡ comma_before (length l.yielded))
    × g.S.TextSink.wrote l.fn.sink (with_commas (item_text (g.P.MessagePrinter.text l.printer)) l.yielded) l.sink
