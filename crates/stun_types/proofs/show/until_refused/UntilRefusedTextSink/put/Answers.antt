use Rattle.std.proofs.Common.{rules, refl}
use Rattle.stun_types.specs.FormattersLaws.{took_piece}
use Rattle.stun_types.proofs.show.until_refused.UntilRefusedTextSink.put.Goals as goal

pub returns-then-not-self : goal.returns-then-not-self
returns-then-not-self g c =
    took_piece g.W.Write.write_str_gives c.args.self.now _ c.args.text.now c.put_piece.result
    (search rules) refl c.is_err-self.ensures.value c.put_piece.ensures.writes c.put_piece.ensures.refused
