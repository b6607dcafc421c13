use Rattle.turn_allocations.proofs.AllocatingLemmas.{missing_asked_is}
use Rattle.turn_allocations.proofs.allocating.missing.Goals as goal

pub returns-in_default : goal.returns-in_default
returns-in_default c setup tuple s is_open family number has is =
    missing_asked_is setup tuple s is_open family number c.args.want _ c.in_default.not-No
    (λ ready. c.missing_asked.ensures setup tuple s family ready has is)
