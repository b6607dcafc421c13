use Rattle.std.proofs.Common.{◌≡◌, take}
use Rattle.stun_text.specs.Slices.{laid_over}
use Rattle.stun_transactions.specs.Responses.{own_types}
use Rattle.stun_types_c.proofs.known_types.stun_types_known_types.Given as goal

-- the types so far are laid over
abbrev pub invariant-loop-i : goal.invariant-loop-i
invariant-loop-i l = l.types ≡ laid_over (take l.i own_types) l.initial.types
