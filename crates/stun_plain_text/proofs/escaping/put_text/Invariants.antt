use Rattle.std.proofs.Common.{take}
use Rattle.stun_plain_text.specs.Escaping.{escaped}
use Rattle.stun_plain_text.proofs.escaping.put_text.Given as goal

-- the bytes so far are written
abbrev pub invariant-loop-byte : goal.invariant-loop-byte
invariant-loop-byte g l = g.S.TextSink.wrote l.fn.sink (escaped (take l.byte-index l.text)) l.sink
