use Rattle.turn_client.proofs.HearingLemmas.{data_shown, success_taken}
use Rattle.turn_client.proofs.laws.hearing.fit_datagrams_are_taken.Goals as goal

pub returns-clause-success : goal.returns-clause-success
returns-clause-success c = success_taken c.judged_is_authentic.ensures c.fit_responses_are_heard.ensures

pub returns-clause-data_shown : goal.returns-clause-data_shown
returns-clause-data_shown c = data_shown
