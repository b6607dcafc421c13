use Rattle.std.proofs.Common.{◌∙◌, ap}
use Rattle.turn_client_machine.specs.Events.{gives}
use Rattle.turn_client_state.specs.States.{Held}
use Rattle.turn_client.specs.Clients.{passes}
use Rattle.turn_client.specs.contracts.client.TurnClient.{the_view}
use Rattle.turn_client.proofs.client.TurnClient.show.Goals as goal

pub invariant_of-self : goal.invariant_of-self
invariant_of-self c = ap (λ (h : Held). h.settings) (c.on_data_indication.ensures.state c.args.data.now) ∙ c.self.invariant

pub returns-clause-state : goal.returns-clause-state
returns-clause-state c =
    ap (λ (h : Held). the_view (record c.self.inside { state = h })) (c.on_data_indication.ensures.state c.args.data.now)
    ∙ ap (passes c.args.now 0 (gives c.args.from c.args.peer c.args.data.now)) c.self.view_is
