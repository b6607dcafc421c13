use Rattle.std.proofs.Common.{ℕ, ◌≤◌, max, sym, subst}
use Rattle.ice_agent.specs.Runs.{timed_all}
use Rattle.ice_exchanges.proofs.CallsLemmas.{requests_same, silent_of}
use Rattle.ice_exchanges.proofs.laws.sending.silence_gets_little.Goals as goal

pub returns : goal.returns
returns c = λ begin agent moments base to begun they silent.
    let authentic = c.events_are_authentic.ensures.event in
    let states = c.datagrams_are_warranted.ensures.state in
    let rights = c.datagrams_are_warranted.ensures.right in
    subst (λ (n : ℕ). n ≤ max 1 agent.held.setup.most_tries) (sym (requests_same states base to begin agent moments begun))
    (c.silence_gets_little.ensures agent.held.setup begin (timed_all agent moments) base to (silent_of authentic states rights base to begin agent moments they silent))
