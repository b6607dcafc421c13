use Rattle.std.proofs.Common.{take}
use Rattle.stun_attributes.specs.PrintedAttributes.{bytes_in_decimal}
use Rattle.stun_attributes.proofs.wire.printed.put_bytes.Given as goal

-- the bytes so far are written
abbrev pub invariant-loop-i : goal.invariant-loop-i
invariant-loop-i g l = g.S.TextSink.wrote l.fn.sink (bytes_in_decimal (take l.i l.bytes)) l.sink
