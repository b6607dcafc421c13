use Rattle.std.proofs.Common.{◌≡◌, [], take, arith}
use Rattle.std.proofs.lemmas.List.{take_more, take_all, map-append, append-nil, append_assoc}
use Rattle.std.proofs.lemmas.List.Folds.{concat-append}
use Rattle.stun_keys.proofs.digest.hmac.digest_with.Goals as goal

pub loop-piece-init : goal.loop-piece-init
loop-piece-init g c = rw (append-nil) (c.take.ensures [] c.start-hasher.ensures)

pub loop-piece-preserved : goal.loop-piece-preserved
loop-piece-preserved g c =
    rw (take_more c.args.pieces.now c.loop-piece.piece-index (record { ref_ptr = (0, 0); now = [] }) c.loop-piece-test.true, map-append, concat-append, append-nil, ← append_assoc)
    (c.take-in-loop-piece.ensures _ c.loop-piece.invariant)

pub returns : goal.returns
returns g c =
    let all : take c.loop-piece.piece-index c.args.pieces.now ≡ c.args.pieces.now = take_all c.loop-piece.piece-index c.args.pieces.now (omega arith) in
    c.finish.ensures _ (rw all at c.loop-piece.invariant)
