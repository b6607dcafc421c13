use Rattle.std.proofs.Common.{refl}
use Rattle.stun_types.specs.Message.{message_bytes}
use Rattle.stun_authentication.specs.Identities.{who}
use Rattle.stun_authentication.specs.Lookups.{known}
use Rattle.stun_authentication.proofs.ProvesLemmas.{long_user, long_stranger, long_settled}
use Rattle.stun_authentication.proofs.long_term.authenticate_long_term.Goals as goal

pub returns-in-Err-clause-decision : goal.returns-in-Err-clause-decision
returns-in-Err-clause-decision g c =
    long_settled c.args.policy c.args.realm.now (g.N.Nonces.state_of c.args.nonces.now) (g.K.LongTermKeys.key_of c.args.keys.now) (message_bytes c.args.request.now)
    c.in-Err.answer c.in-Err.ensures.0 c.in-Err.ensures.1

pub returns-in-Some-clause-decision : goal.returns-in-Some-clause-decision
returns-in-Some-clause-decision g c =
    long_user c.args.policy c.args.realm.now (g.N.Nonces.state_of c.args.nonces.now) (g.K.LongTermKeys.key_of c.args.keys.now) (message_bytes c.args.request.now)
    (who c.in-Ok.asked.user) (known c.in-Ok.asked.state) c.in-Ok.asked.chosen c.unwrap_or-algorithm.result c.in-Some.key c.by_key.result
    c.in-Ok.ensures.0 c.in-Ok.ensures.1 c.unwrap_or-algorithm.ensures (rw c.in-Some.is at c.in_ok-key.ensures) c.by_key.ensures

pub returns-in-None-clause-decision : goal.returns-in-None-clause-decision
returns-in-None-clause-decision g c =
    rw (long_stranger c.args.policy c.args.realm.now (g.N.Nonces.state_of c.args.nonces.now) (g.K.LongTermKeys.key_of c.args.keys.now) (message_bytes c.args.request.now)
    (who c.in-Ok.asked.user) (known c.in-Ok.asked.state) c.in-Ok.asked.chosen c.unwrap_or-algorithm.result
    c.in-Ok.ensures.0 c.in-Ok.ensures.1 c.unwrap_or-algorithm.ensures (rw c.in-None.is at c.in_ok-key.ensures)) refl
