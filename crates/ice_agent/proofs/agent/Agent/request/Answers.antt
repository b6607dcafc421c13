use Rattle.std.proofs.Common.{◌≡◌, ℕ, ap, subst, ◌∙◌}
use Rattle.std.specs.Option.{option_map}
use Rattle.std.proofs.lemmas.Result.{IfOk-weaker}
use Rattle.stun_attributes.specs.Texts.{text_bytes}
use Rattle.ice_machine.specs.Events.{polls}
use Rattle.ice_agent_state.specs.Agents.{Held, after}
use Rattle.ice_agent.specs.Agents.{Agent, passes}
use Rattle.ice_agent.proofs.agent.Agent.request.Goals as goal

pub returns-clause-state : goal.returns-clause-state
returns-clause-state c =
    let shown : Held → Agent = λ held. record {
      held = held;
      reports = c.self.inside.changes;
      logins = record { own = c.self.inside.own; peer = c.self.inside.peer };
      software = option_map text_bytes c.self.inside.software;
    } in
    IfOk-weaker c.poll.result (λ _. c.poll.new.self ≡ after c.args.now c.value.result polls c.self.inside.state) (λ _. shown c.poll.new.self ≡ passes c.args.now c.args.id polls c.args.self.now) (λ _. λ same. subst (λ (a : Agent). shown c.poll.new.self ≡ passes c.args.now c.args.id polls a) c.self.view_is
    (ap shown same ∙ ap (λ (id : ℕ). shown (after c.args.now id polls c.self.inside.state)) c.value.ensures.number)) c.poll.ensures.state
