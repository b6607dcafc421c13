use Rattle.std.proofs.Common.{take, drop, length, ap, ◌+◌, ◌∙◌, arith}
use Rattle.std.proofs.lemmas.List.{length-take}
use Rattle.stun_framing.proofs.GatheringLemmas.{behind_first, first_stay, filled}
use Rattle.stun_framing.proofs.gather.fill.Goals as goal

pub returns-clause-bytes : goal.returns-clause-bytes
returns-clause-bytes c =
    let old = c.args.buffer.now in
    let piece = c.args.piece.now in
    let held = c.args.held in
    let count = c.min-count.result in
    ap (take (held + count)) c.copy_behind.ensures
    ∙ behind_first old (take count piece) (drop (held + length (take count piece)) old) held count (omega arith) (omega (arith, length-take count piece))
    ∙ filled old piece held c.args.wanted count (omega arith) c.requires.held c.min-count.ensures

pub returns-clause-stays : goal.returns-clause-stays
returns-clause-stays c =
    let old = c.args.buffer.now in
    let bytes = take c.min-count.result c.args.piece.now in
    ap (take c.args.held) c.copy_behind.ensures
    ∙ first_stay old bytes (drop (c.args.held + length bytes) old) c.args.held (omega arith)
