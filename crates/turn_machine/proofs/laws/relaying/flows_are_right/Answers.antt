use Rattle.turn_machine.proofs.FlowsLemmas.{both_ways}
use Rattle.turn_machine.proofs.FlowsLemmas.{determined}
use Rattle.turn_machine.proofs.FlowsLemmas.{lasting_flow}
use Rattle.turn_machine.proofs.FlowsLemmas.{least_end}
use Rattle.turn_machine.proofs.FlowsLemmas.{one_flow}
use Rattle.turn_machine.proofs.FlowsLemmas.{relayed_now}
use Rattle.turn_machine.proofs.laws.relaying.flows_are_right.Goals as goal

pub returns-clause-out : goal.returns-clause-out
returns-clause-out c = λ setup earlier tuple channel flow now rules bytes is soon allowed. (relayed_now setup earlier tuple channel flow is).out now rules bytes soon allowed

pub returns-clause-back : goal.returns-clause-back
returns-clause-back c = λ setup earlier tuple channel flow now rules bytes is soon allowed. (relayed_now setup earlier tuple channel flow is).back now rules bytes soon allowed

pub returns-clause-lasting : goal.returns-clause-lasting
returns-clause-lasting c = lasting_flow

pub returns-clause-exact : goal.returns-clause-exact
returns-clause-exact c = both_ways

pub returns-clause-least : goal.returns-clause-least
returns-clause-least c = least_end

pub returns-clause-one : goal.returns-clause-one
returns-clause-one c = one_flow

pub returns-clause-determined : goal.returns-clause-determined
returns-clause-determined c = determined
