use Rattle.ice_agent.specs.Runs.{timed_all}
use Rattle.ice_exchanges.proofs.laws.lasting.nominations_follow.Goals as goal

pub returns : goal.returns
returns c = λ agent e gap delay since limit w moments now fit late few distinct has course.
    c.nominations_follow.ensures.follows agent.held.setup e gap delay since limit agent.held.state w (timed_all agent moments) now fit late few distinct has course
