use Rattle.ice_agent.proofs.LiteLemmas.{takes_lite}
use Rattle.ice_agent.proofs.lite.LiteAgent.take_judged.Goals as goal

pub returns-in-Some-clause-state : goal.returns-in-Some-clause-state
returns-in-Some-clause-state c =
    takes_lite c.args.self.now c.arrive.new.self c.args.now c.args.base c.args.from c.args.datagram.now c.args.judged.now _ (c.in-Arrives.is) (c.arrive.ensures.state c.args.datagram.now)

pub returns-in-None-clause-state : goal.returns-in-None-clause-state
returns-in-None-clause-state c =
    takes_lite c.args.self.now c.arrive.new.self c.args.now c.args.base c.args.from c.args.datagram.now c.args.judged.now _ (c.in-Arrives.is) (c.arrive.ensures.state c.args.datagram.now)

pub returns-in-Refused-clause-state : goal.returns-in-Refused-clause-state
returns-in-Refused-clause-state c =
    takes_lite c.args.self.now c.refuse.new.self c.args.now c.args.base c.args.from c.args.datagram.now c.args.judged.now _ (c.in-Refused.is) (c.refuse.ensures.state c.args.base c.args.from)

pub returns-in-Strays-clause-state : goal.returns-in-Strays-clause-state
returns-in-Strays-clause-state c =
    takes_lite c.args.self.now c.stray.new.self c.args.now c.args.base c.args.from c.args.datagram.now c.args.judged.now _ (c.in-Strays.is) (c.stray.ensures c.args.base 0 c.args.from)

pub returns-in-Responds-clause-state : goal.returns-in-Responds-clause-state
returns-in-Responds-clause-state c =
    takes_lite c.args.self.now c.stray-in-Responds.new.self c.args.now c.args.base c.args.from c.args.datagram.now c.args.judged.now _ (c.in-Responds.is) (c.stray-in-Responds.ensures c.args.base 0 c.args.from)
