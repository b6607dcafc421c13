use Rattle.std.proofs.Common.{◌≡◌, ◌<◌, Some, false, sym, subst}
use Rattle.turn_machine.specs.Relays.{State}
use Rattle.turn_machine.specs.Events.{sends_on, arrives, to_peer, to_client_on}
use Rattle.turn_machine.specs.Flows.{flow_of, IsFirstEnd}
use Rattle.turn_machine.specs.Reserving.{inner_run}
use Rattle.turn_machine.specs.Steps.{step}
use Rattle.turn_server.specs.Datagrams.{events_in, kept}
use Rattle.turn_server.proofs.DatagramsLemmas.{state_is_run}
use Rattle.turn_server.proofs.FlowsLemmas.{flow_lasts, no_change}
use Rattle.turn_server.proofs.RelayedLemmas.{channel_passes, channel_passed}
use Rattle.turn_server.proofs.laws.flows_last.Goals as goal

pub returns-clause-lasting : goal.returns-clause-lasting
returns-clause-lasting c = flow_lasts c.reservations_are_kept.ensures.state c.flows_are_right.ensures.lasting

pub returns-clause-others : goal.returns-clause-others
returns-clause-others c = no_change

pub returns-clause-out : goal.returns-clause-out
returns-clause-out c = λ setup rules earlier now site tuple numbers d channel flow bytes there soon allowed judged.
    let is = state_is_run c.reservations_are_kept.ensures.state setup earlier in
    let out = c.flows_are_right.ensures.out setup (inner_run setup (events_in setup earlier)) tuple channel flow now rules bytes
    (subst (λ (s : State). flow_of s tuple channel ≡ Some flow) is there) soon allowed in
    channel_passes setup rules (kept setup earlier) now site tuple numbers d bytes flow.number channel flow.peer judged
    (subst (λ (s : State). (step setup rules s now (sends_on tuple channel bytes)).output ≡ to_peer flow.number flow.peer false bytes) (sym is) out)

pub returns-clause-back : goal.returns-clause-back
returns-clause-back c = λ setup rules earlier now tuple channel flow bytes there soon allowed.
    let is = state_is_run c.reservations_are_kept.ensures.state setup earlier in
    let back = c.flows_are_right.ensures.back setup (inner_run setup (events_in setup earlier)) tuple channel flow now rules bytes
    (subst (λ (s : State). flow_of s tuple channel ≡ Some flow) is there) soon allowed in
    subst (λ (s : State). (step setup rules s now (arrives flow.number flow.peer bytes)).output ≡ to_client_on tuple channel bytes) (sym is) back

pub returns-clause-exact : goal.returns-clause-exact
returns-clause-exact c = λ setup rules earlier now site tuple numbers d channel number peer bytes other judged goes comes.
    let is = state_is_run c.reservations_are_kept.ensures.state setup earlier in
    let out = channel_passed setup rules (kept setup earlier) now site tuple numbers d bytes number channel peer judged goes in
    let it = c.flows_are_right.ensures.exact setup (inner_run setup (events_in setup earlier)) tuple channel number peer now rules bytes other
    (subst (λ (s : State). (step setup rules s now (sends_on tuple channel bytes)).output ≡ to_peer number peer false bytes) is out)
    (subst (λ (s : State). (step setup rules s now (arrives number peer other)).output ≡ to_client_on tuple channel other) is comes) in
    (it.0, subst (λ (s : State). flow_of s tuple channel ≡ Some it.0) (sym is) it.1, it.2, it.3, it.4)

pub returns-clause-least : goal.returns-clause-least
returns-clause-least c = λ setup earlier tuple channel flow there.
    let is = state_is_run c.reservations_are_kept.ensures.state setup earlier in
    subst (λ (s : State). (s.clock < flow.expires_at) × IsFirstEnd tuple channel flow s) (sym is)
    (c.flows_are_right.ensures.least setup (inner_run setup (events_in setup earlier)) tuple channel flow
    (subst (λ (s : State). flow_of s tuple channel ≡ Some flow) is there))
