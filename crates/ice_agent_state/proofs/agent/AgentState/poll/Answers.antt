use Rattle.std.proofs.Common.{refl, sym, subst}
use Rattle.ice_agent_state.specs.Agents.{IsSettled}
use Rattle.ice_agent_state.proofs.agent.AgentState.poll.Goals as goal

pub ask-requires-clause-settled : goal.ask-requires-clause-settled
ask-requires-clause-settled c = subst IsSettled (sym c.advance.ensures) (c.args.self.now.state.pairs, refl)
