use Rattle.stun_exchanges.proofs.LearningLemmas.{learns}
use Rattle.stun_exchanges.proofs.laws.client_learns_its_address.Goals as goal

pub returns : goal.returns
returns c = learns c.one_message_type.ensures.class c.one_message_type.ensures.bits c.response_answers.ensures c.shown_is_found.ensures.written
