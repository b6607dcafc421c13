use Rattle.turn_client.proofs.WarrantsLemmas.{Laws, all_sent, all_sent_on, all_shown}
use Rattle.turn_client.proofs.laws.warrants.data_is_warranted.Goals as goal

pub returns-clause-shown : goal.returns-clause-shown
returns-clause-shown c =
    let laws : Laws = record {
      so = c.judged_is_authentic.ensures;
      alone = c.requests_are_found_by_id.ensures.none;
      right = c.data_is_warranted.ensures;
      sent = c.requests_are_identified.ensures.sent;
      one = c.requests_are_identified.ensures.one;
    } in
    all_shown laws

pub returns-clause-sent : goal.returns-clause-sent
returns-clause-sent c =
    let laws : Laws = record {
      so = c.judged_is_authentic.ensures;
      alone = c.requests_are_found_by_id.ensures.none;
      right = c.data_is_warranted.ensures;
      sent = c.requests_are_identified.ensures.sent;
      one = c.requests_are_identified.ensures.one;
    } in
    all_sent laws

pub returns-clause-sent_on : goal.returns-clause-sent_on
returns-clause-sent_on c =
    let laws : Laws = record {
      so = c.judged_is_authentic.ensures;
      alone = c.requests_are_found_by_id.ensures.none;
      right = c.data_is_warranted.ensures;
      sent = c.requests_are_identified.ensures.sent;
      one = c.requests_are_identified.ensures.one;
    } in
    all_sent_on laws
