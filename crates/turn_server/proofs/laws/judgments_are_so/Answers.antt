use Rattle.turn_server.specs.Judging.{judge}
use Rattle.turn_server.proofs.JudgingLemmas.{judgment_is_so, asked_is_so}
use Rattle.turn_server.proofs.laws.judgments_are_so.Goals as goal

pub returns-clause-each : goal.returns-clause-each
returns-clause-each c = judgment_is_so

pub returns-clause-asks : goal.returns-clause-asks
returns-clause-asks c = λ last_channel sets_df site setup tuple h numbers d user request e.
    asked_is_so setup sets_df site tuple tuple h numbers d user request (judge last_channel sets_df site d) (judgment_is_so last_channel sets_df site d) e
