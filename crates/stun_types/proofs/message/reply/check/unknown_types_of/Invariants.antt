use Rattle.std.proofs.Common.{◌≡◌}
use Rattle.stun_types.proofs.message.reply.check.unknown_types_of.Given as goal

-- those so far are found
abbrev pub invariant-loop-atype : goal.invariant-loop-atype
invariant-loop-atype l = l.found.items ≡ l.yielded
