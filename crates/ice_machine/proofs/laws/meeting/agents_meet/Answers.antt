use Rattle.std.proofs.Common.{refl}
use Rattle.ice_machine.proofs.laws.meeting.agents_meet.Goals as goal

pub returns-clause-one : goal.returns-clause-one
returns-clause-one c = refl

pub returns-clause-other : goal.returns-clause-other
returns-clause-other c = refl

pub returns-clause-one_of_controlling : goal.returns-clause-one_of_controlling
returns-clause-one_of_controlling c = refl

pub returns-clause-one_of_controlled : goal.returns-clause-one_of_controlled
returns-clause-one_of_controlled c = refl

pub returns-clause-one_after_loss : goal.returns-clause-one_after_loss
returns-clause-one_after_loss c = refl

pub returns-clause-other_of_controlling : goal.returns-clause-other_of_controlling
returns-clause-other_of_controlling c = refl

pub returns-clause-other_of_controlled : goal.returns-clause-other_of_controlled
returns-clause-other_of_controlled c = refl

pub returns-clause-other_after_loss : goal.returns-clause-other_after_loss
returns-clause-other_after_loss c = refl

pub returns-clause-silence : goal.returns-clause-silence
returns-clause-silence c = refl

pub returns-clause-nominated : goal.returns-clause-nominated
returns-clause-nominated c = refl

pub returns-clause-deaf : goal.returns-clause-deaf
returns-clause-deaf c = refl
