use Rattle.turn_client.proofs.StrangersLemmas.{elsewhere_ages, elsewhere_shows, forgotten, unanswered_ages, unsigned_changes_little}
use Rattle.turn_client.proofs.laws.strangers.strangers_change_nothing.Goals as goal

pub returns-clause-elsewhere : goal.returns-clause-elsewhere
returns-clause-elsewhere c client now from d next other received =
    (elsewhere_ages c.strangers_change_nothing.ensures.unchanged client now from d next other received, elsewhere_shows client now from d other)

pub returns-clause-unanswered : goal.returns-clause-unanswered
returns-clause-unanswered c = unanswered_ages c.strangers_change_nothing.ensures.unchanged c.requests_are_found_by_id.ensures.none

pub returns-clause-unsigned : goal.returns-clause-unsigned
returns-clause-unsigned c =
    unsigned_changes_little c.strangers_change_nothing.ensures.unchanged c.judged_is_authentic.ensures c.requests_are_found_by_id.ensures.none

pub returns-clause-forgotten : goal.returns-clause-forgotten
returns-clause-forgotten c = forgotten
