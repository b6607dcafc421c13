use Rattle.std.proofs.Common.{arith, sym}
use Rattle.stun_framing.proofs.GatheringLemmas.{first_gathered, first_refused}
use Rattle.stun_framing.proofs.gather.gather_rest.Goals as goal

pub returns-in-None : goal.returns-in-None
returns-in-None c =
    first_gathered c.args.carries c.args.buffer.now c.fill-now.new.buffer c.args.piece.now c.args.gathered.held c.args.gathered.wanted c.fill-now.result
    c.fill-now.auto.buffer c.requires.wanted c.fill-now.ensures.bytes (omega (arith, c.requires.fits, c.fill-now.ensures.count, c.fill-now.auto.buffer)) (sym c.in-None.ensures)

pub returns-in-Some : goal.returns-in-Some
returns-in-Some c =
    first_refused c.args.carries c.args.buffer.now c.fill-now.new.buffer c.args.piece.now c.args.gathered.held c.fill-now.result c.args.gathered.wanted c.in-Some.fault
    c.fill-now.ensures.bytes c.fill-now.ensures.stays (sym c.in-Some.ensures)
