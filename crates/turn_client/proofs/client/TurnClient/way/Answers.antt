use Rattle.std.proofs.Common.{◌∙◌, [], ap}
use Rattle.turn_client_machine.specs.Events.{sends}
use Rattle.turn_client_state.specs.States.{Held}
use Rattle.turn_client.specs.Clients.{passes}
use Rattle.turn_client.specs.contracts.client.TurnClient.{the_view}
use Rattle.turn_client.proofs.client.TurnClient.way.Goals as goal

pub invariant_of-self : goal.invariant_of-self
invariant_of-self c = ap (λ (h : Held). h.settings) (c.send.ensures.state []) ∙ c.self.invariant

pub returns-clause-state : goal.returns-clause-state
returns-clause-state c bytes =
    ap (λ (h : Held). the_view (record c.self.inside { state = h })) (c.send.ensures.state bytes)
    ∙ ap (passes c.args.now 0 (sends c.args.peer bytes)) c.self.view_is
