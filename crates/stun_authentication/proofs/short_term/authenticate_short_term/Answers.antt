use Rattle.stun_types.specs.Message.{message_bytes}
use Rattle.stun_authentication.proofs.AcceptingRowsLemmas.{no_nonce}
use Rattle.stun_authentication.proofs.short_term.authenticate_short_term.Goals as goal

pub returns-clause-no_nonce : goal.returns-clause-no_nonce
returns-clause-no_nonce g c = no_nonce c.args.policy (g.K.ShortTermKeys.key_of c.args.keys.now) (message_bytes c.args.message.now) c.checked.result c.checked.ensures.decision
