use Rattle.std.proofs.Common.{◌+◌, refl}
use Rattle.stun_server.proofs.InSliceLemmas.{written_more}
use Rattle.stun_server.proofs.unknown.write_unknown.Goals as goal

pub loop-atype-preserved : goal.loop-atype-preserved
loop-atype-preserved c =
    let loop = c.loop-atype in
    written_more loop.yielded c.in-Some.atype loop.end (loop.end + 2) loop.dest c.write_type.new.dest c.args.dest.now loop.invariant refl c.write_type.ensures
