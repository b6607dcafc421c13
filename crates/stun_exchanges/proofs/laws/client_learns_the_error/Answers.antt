use Rattle.stun_types.specs.Replies.{unknown_types}
use Rattle.stun_exchanges.proofs.LearningLemmas.{learns_error}
use Rattle.stun_exchanges.proofs.laws.client_learns_the_error.Goals as goal
use Rattle.std.proofs.Common.{[], refl}

pub returns : goal.returns
returns c = λ source r bytes request some.
    learns_error c.one_message_type.ensures.class c.one_message_type.ensures.bits c.response_answers.ensures c.shown_is_found.ensures.written source r (unknown_types [] r) bytes request refl some
