use Rattle.ice_checks.proofs.AuthenticLemmas.{event_is_authentic, judged_is_authentic}
use Rattle.ice_checks.proofs.laws.events_are_authentic.Goals as goal

pub returns-clause-judged : goal.returns-clause-judged
returns-clause-judged c =
    judged_is_authentic c.accepted_is_authentic.ensures.users c.accepted_is_authentic.ensures.short_term c.judged_is_authentic.ensures

pub returns-clause-event : goal.returns-clause-event
returns-clause-event c =
    event_is_authentic c.accepted_is_authentic.ensures.users c.accepted_is_authentic.ensures.short_term c.judged_is_authentic.ensures
