use Rattle.std.proofs.Common.{◌≡◌, false, sym, subst}
use Rattle.ice_machine.specs.Events.{sends}
use Rattle.ice_lite.specs.Past.{sent_by_past}
use Rattle.ice_lite.specs.Runs.{history}
use Rattle.ice_lite.specs.Steps.{at}
use Rattle.ice_agent.specs.Lite.{LiteAgent, begun, logins, output_at, timed_all}
use Rattle.ice_agent.proofs.LiteLemmas.{lite_run}
use Rattle.ice_agent.proofs.laws.lite_datagrams_are_warranted.Goals as goal

pub returns-clause-state : goal.returns-clause-state
returns-clause-state c own bases moments = lite_run own bases moments

pub returns-clause-authentic : goal.returns-clause-authentic
returns-clause-authentic c agent base from d bytes =
    c.events_are_authentic.ensures.event (logins agent.own) (λ id. false) base from d bytes

pub returns-clause-sent : goal.returns-clause-sent
returns-clause-sent c own bases earlier now component bytes =
    let timed = timed_all (begun own bases) earlier in
    subst (λ (a : LiteAgent). output_at now (sends component bytes) a ≡ sent_by_past bases component (at now a.state).clock bytes (history bases timed))
    (sym (lite_run own bases earlier))
    (c.nominated_pairs_carry_data.ensures.sent bases timed now component bytes)
