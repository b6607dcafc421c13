use Rattle.std.proofs.Common.{◌≡◌, Bool, true, false, [], if◌then◌else◌, refl, sym, ◌∙◌, ap, ◌&&◌}
use Rattle.turn_client_machine.specs.Clients.{Endpoint, is_endpoint}
use Rattle.turn_client_machine.specs.Events.{gives, shows, nothing, Output}
use Rattle.turn_client_machine.specs.Steps.{at}
use Rattle.turn_client_state.specs.States.{Held}
use Rattle.turn_client.specs.Clients.{Client, passes}
use Rattle.turn_client.specs.Receiving.{hears}
use Rattle.turn_client.specs.contracts.client.TurnClient.{the_view}
use Rattle.turn_client.proofs.client.TurnClient.hears.Goals as goal

-- what is shown says which test was met
same_test : (a b : Bool) (peer : Endpoint) → (if a then shows peer [] else nothing) ≡ (if b then shows peer [] else nothing) → b ≡ a
same_test true true peer is = refl
same_test false false peer is = refl
same_test true false peer is = absurd cc
same_test false true peer is = absurd cc

pub invariant_of-self : goal.invariant_of-self
invariant_of-self c = ap (λ (h : Held). h.settings) (c.on_data_indication.ensures.state []) ∙ c.self.invariant

pub returns-clause-state : goal.returns-clause-state
returns-clause-state c = λ from.
    ap (λ (h : Held). the_view (record c.self.inside { state = h })) (c.on_data_indication.ensures.state [])
    ∙ ap (passes c.args.now 0 (gives c.args.from c.args.peer [])) c.self.view_is

pub returns-clause-heard : goal.returns-clause-heard
returns-clause-heard c =
    same_test _ c.on_data_indication.result c.args.peer (c.on_data_indication.ensures.shown [])
    ∙ ap (λ (client : Client). is_endpoint c.args.from client.held.settings.server && hears (at c.args.now client.held.state) c.args.peer.ip) c.self.view_is
