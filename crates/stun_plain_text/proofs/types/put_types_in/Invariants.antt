use Rattle.stun_plain_text.specs.PlainValues.{type_text}
use Rattle.stun_text.specs.Lists.{with_commas}
use Rattle.stun_values.specs.TypeLists.{types_within}
use Rattle.stun_plain_text.proofs.types.put_types_in.Given as goal

-- the types so far are written
abbrev pub invariant-loop-i : goal.invariant-loop-i
invariant-loop-i g l =
    g.S.TextSink.wrote l.fn.sink (with_commas type_text (types_within l.i l.value)) l.sink
