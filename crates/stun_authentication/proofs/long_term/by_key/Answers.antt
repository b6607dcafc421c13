use Rattle.stun_types.specs.Message.{message_bytes}
use Rattle.stun_authentication.specs.Lookups.{key_held}
use Rattle.stun_authentication.proofs.ProvesLemmas.{long_accepted}
use Rattle.stun_authentication.proofs.long_term.by_key.Goals as goal

pub returns-in-Valid : goal.returns-in-Valid
returns-in-Valid c =
    rw (c.in-Valid.is, c.reply_algorithm.ensures)
    (long_accepted c.args.policy (message_bytes c.args.request.now) c.in-Valid.field-0.now c.args.chosen c.args.user (key_held c.args.key) c.in-Some.key c.in-Some.algorithm c.requires c.in-Some.ensures)
