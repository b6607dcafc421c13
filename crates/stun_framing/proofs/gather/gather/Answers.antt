use Rattle.std.proofs.Common.{◌≡◌, ℕ, ◌+◌, ◌-◌, ◌≤◌, List, ◌++◌, take, drop, length, min, arith, ap, ◌∙◌}
use Rattle.std.proofs.lemmas.List.{take_rest}
use Rattle.stun_framing.proofs.FramingLemmas.{least_wanted}
use Rattle.stun_framing.proofs.GatheringLemmas.{gathered_behind, start_count, start_joined}
use Rattle.stun_framing.proofs.gather.gather.Goals as goal

pub returns : goal.returns
returns c =
    let old : List ℕ = c.args.buffer.now in
    let mid : List ℕ = c.gather_start.new.buffer in
    let piece : List ℕ = c.args.piece.now in
    let held : ℕ = c.args.gathered.held in
    let start = c.in-Ok.start in
    let within : held ≤ length old = omega (arith, c.requires.gathered.fits) in
    let n : ℕ = start.held - held in
    let count : start.held ≡ min 4 (held + length piece) = start_count old piece mid held start within c.in-Ok.ensures.start in
    let joined : take start.held mid ++ take (length piece - n) (drop n piece) ≡ take held old ++ piece =
    ap (λ (xs : List ℕ). take start.held mid ++ xs) (take_rest piece n) ∙ start_joined old mid piece held start c.if-gathered-ge-START.false within c.in-Ok.ensures.start in
    gathered_behind c.args.carries old mid c.gather_rest-2.new.buffer piece (take (length piece - n) (drop n piece)) held start c.gather_rest-2.result
    c.gather_start.auto.buffer c.gather_rest-2.auto.buffer (omega (arith, count, c.if-gathered-ge-START.false))
    (omega (arith, count, c.if-gathered-ge-START.false, c.gather_start.auto.buffer, c.requires.gathered.fits, c.requires.gathered.wanted_is, least_wanted (take held old))) joined c.in-Ok.ensures.stays c.gather_rest-2.ensures
