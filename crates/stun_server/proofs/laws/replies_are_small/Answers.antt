use Rattle.stun_server.proofs.SizesLemmas.{small, small_to_messages}
use Rattle.stun_server.proofs.laws.replies_are_small.Goals as goal

pub returns : goal.returns
returns c = record { to_datagrams = small; to_messages = small_to_messages }
