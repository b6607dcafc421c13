use Rattle.std.proofs.Common.{not, rules}
use Rattle.std.specs.Prelude.{◌==◌}
use Rattle.std.proofs.lemmas.Fn.{filter_same}
use Rattle.turn_reservations.proofs.held.leave_others.Goals as goal

pub returns-clause-items : goal.returns-clause-items
returns-clause-items c = filter_same _ (λ r. not (r.token == c.args.token)) _ (λ x b f k. search rules) _ _ c.retain.ensures.filtered
