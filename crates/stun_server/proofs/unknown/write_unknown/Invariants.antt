use Rattle.stun_server.proofs.InSliceLemmas.{Written}
use Rattle.stun_server.proofs.unknown.write_unknown.Given as goal

-- those so far are written
abbrev pub invariant-loop-atype : goal.invariant-loop-atype
invariant-loop-atype l = Written l.yielded l.end l.dest l.initial.dest
