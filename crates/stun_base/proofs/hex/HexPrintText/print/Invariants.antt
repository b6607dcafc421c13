use Rattle.std.proofs.Common.{take}
use Rattle.stun_grammar.specs.Names.{hex}
use Rattle.stun_base.proofs.hex.HexPrintText.print.Given as goal

-- the digits of the bytes so far are written
abbrev pub invariant-loop-byte : goal.invariant-loop-byte
invariant-loop-byte g l = g.S.TextSink.wrote l.fn.sink (hex (take l.byte-index l.self.0.now)) l.sink
