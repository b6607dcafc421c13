use Rattle.std.proofs.Common.{◌≡◌, length}
use Rattle.std.specs.Prelude.{not, find}
use Rattle.stun_grammar.specs.ScannedOrder.{has}
use Rattle.stun_types.specs.Message.{message_bytes}
use Rattle.stun_types.specs.UnknownTypes.{types_left}
use Rattle.stun_transactions.specs.Responses.{own_types, first_unknown}
use Rattle.stun_transactions.proofs.judge.first_unknown.Given as goal

-- none so far is such a type
abbrev pub invariant-walk : goal.invariant-walk
invariant-walk l =
    find (λ type. not (has type.0 own_types)) (types_left l.unknown)
    ≡ first_unknown l.understood (message_bytes l.message)

abbrev pub decreases-walk : goal.decreases-walk
decreases-walk l = length (types_left l.unknown)
