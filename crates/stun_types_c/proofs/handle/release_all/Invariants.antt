use Rattle.std.proofs.Common.{◌≡◌, None, take}
use Rattle.std.specs.Prelude.{All}
use Rattle.stun_types_c.proofs.handle.release_all.Given as goal

-- the handles so far hold nothing
abbrev pub invariant-loop-handle : goal.invariant-loop-handle
invariant-loop-handle g l = All (λ handle. g.H.Handle.held handle ≡ None) (take l.handle-index l.handles)
