use Rattle.ice_agent.proofs.RestartsLemmas.{both_take}
use Rattle.ice_agent.proofs.restarting.take_either.Goals as goal

pub returns-in-Some-clause-state : goal.returns-in-Some-clause-state
returns-in-Some-clause-state c =
    both_take c.args.newer.now c.args.older.now c.arrive_at.new.newer c.arrive_at.new.older c.args.now c.args.random c.args.base c.args.from c.args.datagram.now c.judged-for_newer.result c.judged-for_older.result c.taker_of.result
    c.judged-for_newer.ensures c.judged-for_older.ensures c.taker_of.ensures c.in-Both.is (c.arrive_at.ensures.newer c.args.datagram.now) (c.arrive_at.ensures.older c.args.datagram.now)

pub returns-in-None-clause-state : goal.returns-in-None-clause-state
returns-in-None-clause-state c =
    both_take c.args.newer.now c.args.older.now c.arrive_at.new.newer c.arrive_at.new.older c.args.now c.args.random c.args.base c.args.from c.args.datagram.now c.judged-for_newer.result c.judged-for_older.result c.taker_of.result
    c.judged-for_newer.ensures c.judged-for_older.ensures c.taker_of.ensures c.in-Both.is (c.arrive_at.ensures.newer c.args.datagram.now) (c.arrive_at.ensures.older c.args.datagram.now)
