use Rattle.std.proofs.Common.{rules}
use Rattle.std.specs.Prelude.{nat_lt}
use Rattle.std.proofs.lemmas.Fn.{filter_same}
use Rattle.turn_reservations.proofs.held.leave.Goals as goal

pub returns-clause-items : goal.returns-clause-items
returns-clause-items c = filter_same _ (λ r. nat_lt c.args.now r.expires_at) _ (λ x b f k. search rules) _ _ c.retain.ensures.filtered
