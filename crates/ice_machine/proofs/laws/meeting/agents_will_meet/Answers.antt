use Rattle.ice_machine.proofs.MeetLemmas.{will_meet}
use Rattle.ice_machine.proofs.StartingLemmas.{fresh_meet}
use Rattle.ice_machine.proofs.ExampleLemmas.{example_meets}
use Rattle.ice_machine.proofs.laws.meeting.agents_will_meet.Goals as goal

pub returns-clause-start : goal.returns-clause-start
returns-clause-start c = will_meet

pub returns-clause-fresh : goal.returns-clause-fresh
returns-clause-fresh c = fresh_meet

pub returns-clause-example : goal.returns-clause-example
returns-clause-example c = example_meets
