use Rattle.std.proofs.Common.{subst}
use Rattle.std.specs.Prelude.{◌++◌}
use Rattle.turn_client_machine.specs.Events.{Output, sends}
use Rattle.turn_client_state.specs.States.{output_at}
use Rattle.turn_client.specs.Runs.{after_all}
use Rattle.turn_sessions.specs.Crossing.{Sends}
use Rattle.turn_sessions.proofs.CrossingLemmas.{brought_event, carried_on, given_event, sent_event}
use Rattle.turn_sessions.proofs.laws.crossing.data_crosses.Goals as goal

pub returns-clause-sent : goal.returns-clause-sent
returns-clause-sent c = sent_event c.sockets_are_of_endpoints.ensures

pub returns-clause-given : goal.returns-clause-given
returns-clause-given c = given_event c.sockets_are_of_endpoints.ensures

pub returns-clause-carried : goal.returns-clause-carried
returns-clause-carried c = λ client moments setup there since earlier rules site tuple numbers user now arrival peer bytes d begun j same allowed arrives sent.
    let after = after_all client moments in
    let output = output_at now 0 (sends peer bytes) after.held in
    carried_on c.sockets_are_of_endpoints.ensures c.datagrams_are_warranted.ensures.state setup rules there since earlier site client.transport tuple user numbers after.held.state.relayed arrival output d peer bytes same sent
    (c.will_reach.ensures.sent client moments setup since earlier rules tuple user now arrival peer bytes begun j allowed arrives (λ e. subst (λ (o : Output). Sends client.transport o d) e sent))

pub returns-clause-punctual : goal.returns-clause-punctual
returns-clause-punctual c = λ client moments setup there since earlier rules site tuple numbers user now arrival late slack named peer bytes d begun j same allowed arrives punctual sent.
    let after = after_all client moments in
    let output = output_at now 0 (sends peer bytes) after.held in
    carried_on c.sockets_are_of_endpoints.ensures c.datagrams_are_warranted.ensures.state setup rules there since earlier site client.transport tuple user numbers after.held.state.relayed arrival output d peer bytes same sent
    (c.will_reach.ensures.punctual client moments setup since earlier rules tuple user now arrival late slack named peer bytes begun j allowed arrives punctual)

pub returns-clause-shown : goal.returns-clause-shown
returns-clause-shown c = λ client moments more setup there since earlier rules tuple user sent now arrival late slack number protocol named peer bytes d begun j same allowed arrives punctual socket later settled over brought.
    c.will_reach.ensures.back client more moments setup since earlier rules tuple user sent now arrival late slack number named peer client.held.settings.server bytes d begun j allowed arrives punctual socket later settled
    (brought_event c.sockets_are_of_endpoints.ensures c.datagrams_are_warranted.ensures.state client (more ++ moments) setup rules there (since ++ earlier) number arrival protocol peer bytes d same over brought)
