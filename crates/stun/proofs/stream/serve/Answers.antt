use Rattle.std.proofs.Common.{ℕ, List, [], Result, refl, sym, subst}
use Rattle.std.proofs.lemmas.Result.{err_from_is_err_and}
use Rattle.stun_framing.specs.Streams.{Stream}
use Rattle.stun.specs.declared.end.StunError.{StunError}
use Rattle.stun.specs.declared.end.RunEnd.{RunEnd}
use Rattle.stun.specs.StreamRun.{EndsStream}
use Rattle.stun.specs.StreamSteps.{Serving, Gives}
use Rattle.stun.proofs.StreamLemmas.{begins, reads, ended}
use Rattle.stun.proofs.stream.serve.Goals as goal

pub loop-turn-init : goal.loop-turn-init
loop-turn-init g c =
    let left = g.R.Read.remaining c.args.reader.now in
    let held = g.W.Write.contents c.args.writer.now in
    subst (λ (s : Stream). Serving c.args.source left left held held s []) (sym c.requires.begun) (begins c.args.source left held [] refl)

pub returns-then-count-eq0 : goal.returns-then-count-eq0
returns-then-count-eq0 g c =
    let remaining = g.R.Read.remaining in
    let contents = g.W.Write.contents in
    let piece : List ℕ = c.read_piece.new.piece in
    let gives : Gives (remaining c.loop-turn.reader) (remaining c.read_piece.new.reader) 0 piece =
    subst (λ (n : ℕ). Gives (remaining c.loop-turn.reader) (remaining c.read_piece.new.reader) n piece) c.if-count-eq0.true c.in_ok-count.ensures in
    subst (λ (e : Result RunEnd StunError). EndsStream c.args.source e (remaining c.args.reader.now) (remaining c.read_piece.new.reader) (contents c.args.writer.now) (contents c.loop-turn.writer)) (sym c.end_of.ensures)
    (ended c.args.source (remaining c.args.reader.now) (remaining c.loop-turn.reader) (remaining c.read_piece.new.reader) (contents c.args.writer.now) (contents c.loop-turn.writer) c.loop-turn.stream [] piece c.loop-turn.invariant refl gives)

pub returns-in_err-take_all : goal.returns-in_err-take_all
returns-in_err-take_all g c =
    let remaining = g.R.Read.remaining in
    let contents = g.W.Write.contents in
    let p = err_from_is_err_and c.from_residual-in_err-take_all.result c.from_residual-in_err-take_all.ensures.1 in
    rw (p.1, p.2) (c.in_err-take_all.ensures (remaining c.args.reader.now) (remaining c.read_piece.new.reader) (contents c.args.writer.now)
    (reads c.args.source (remaining c.args.reader.now) (remaining c.loop-turn.reader) (remaining c.read_piece.new.reader) (contents c.args.writer.now) (contents c.loop-turn.writer) c.loop-turn.stream [] c.read_piece.new.piece c.in_ok-count.count
    c.loop-turn.invariant refl c.in_ok-count.ensures))

pub loop-turn-preserved : goal.loop-turn-preserved
loop-turn-preserved g c =
    let remaining = g.R.Read.remaining in
    let contents = g.W.Write.contents in
    c.in_ok-take_all.ensures (remaining c.args.reader.now) (remaining c.read_piece.new.reader) (contents c.args.writer.now)
    (reads c.args.source (remaining c.args.reader.now) (remaining c.loop-turn.reader) (remaining c.read_piece.new.reader) (contents c.args.writer.now) (contents c.loop-turn.writer) c.loop-turn.stream [] c.read_piece.new.piece c.in_ok-count.count
    c.loop-turn.invariant refl c.in_ok-count.ensures)
