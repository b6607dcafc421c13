use Rattle.std.proofs.Common.{◌∙◌, refl, ap}
use Rattle.ice_machine.specs.Events.{learns}
use Rattle.ice_agent_state.specs.Agents.{Held}
use Rattle.ice_agent.proofs.ReadyLemmas.{ready_stays}
use Rattle.ice_agent.proofs.agent.Agent.add_remote.Goals as goal

pub invariant_of-self : goal.invariant_of-self
invariant_of-self c = ap (λ (h : Held). h.state.ready) (c.add_remote.ensures.state) ∙ (ready_stays c.self.inside.state c.args.now 0 (learns c.args.remote) refl ∙ c.self.invariant)
