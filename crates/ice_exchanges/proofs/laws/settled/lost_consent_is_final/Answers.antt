use Rattle.ice_exchanges.proofs.CallsLemmas.{silent_later}
use Rattle.ice_exchanges.proofs.laws.settled.lost_consent_is_final.Goals as goal

pub returns : goal.returns
returns c = λ begin agent earlier later m base to bytes.
    silent_later c.datagrams_are_warranted.ensures.state
    c.lost_consent_is_final.ensures.kept c.lost_consent_is_final.ensures.silent begin agent earlier later m base to bytes
