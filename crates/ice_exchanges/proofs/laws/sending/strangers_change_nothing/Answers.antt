use Rattle.ice_agent.specs.Receiving.{is_awaited, judged}
use Rattle.ice_exchanges.proofs.CallsLemmas.{unchanged}
use Rattle.ice_exchanges.proofs.laws.sending.strangers_change_nothing.Goals as goal

pub returns : goal.returns
returns c = λ agent now fresh base from d bytes stranger.
    unchanged agent now fresh base from d (judged agent base from d) (c.events_are_authentic.ensures.judged agent.logins (is_awaited agent) base from d bytes) stranger
