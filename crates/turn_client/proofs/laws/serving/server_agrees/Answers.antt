use Rattle.turn_client.proofs.ServingLemmas.{sent_agrees, sent_on_agrees}
use Rattle.turn_client.proofs.laws.serving.server_agrees.Goals as goal

pub returns-clause-sent : goal.returns-clause-sent
returns-clause-sent c = sent_agrees c.data_is_warranted.ensures (record {
  permission = c.server_agrees.ensures.permission;
  channel = c.server_agrees.ensures.channel;
  lifetime = c.server_agrees.ensures.lifetime;
})

pub returns-clause-sent_on : goal.returns-clause-sent_on
returns-clause-sent_on c = sent_on_agrees c.data_is_warranted.ensures (record {
  permission = c.server_agrees.ensures.permission;
  channel = c.server_agrees.ensures.channel;
  lifetime = c.server_agrees.ensures.lifetime;
})
