use Rattle.std.proofs.Common.{◌∙◌, ap}
use Rattle.turn_client_machine.specs.Events.{strays}
use Rattle.turn_client_state.specs.States.{Held}
use Rattle.turn_client.specs.Clients.{passes}
use Rattle.turn_client.specs.contracts.client.TurnClient.{the_view}
use Rattle.turn_client.proofs.client.TurnClient.pass.Goals as goal

pub invariant_of-self : goal.invariant_of-self
invariant_of-self c = ap (λ (h : Held). h.settings) (c.on_other.ensures c.self.inside.settings.server) ∙ c.self.invariant

pub returns : goal.returns
returns c from =
    ap (λ (h : Held). the_view (record c.self.inside { state = h })) (c.on_other.ensures from)
    ∙ ap (passes c.args.now 0 (strays from)) c.self.view_is
