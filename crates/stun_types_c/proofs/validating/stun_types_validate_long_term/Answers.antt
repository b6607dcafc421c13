use Rattle.std.proofs.Common.{◌≡◌, None, rules}
use Rattle.stun_types_c.specs.Keys.{password_answer}
use Rattle.stun_types_c.proofs.CredentialsLemmas.{long_term_validates}
use Rattle.stun_types_c.proofs.validating.stun_types_validate_long_term.Goals as goal

pub returns-in-Ok-long_term_of : goal.returns-in-Ok-long_term_of
returns-in-Ok-long_term_of c =
    let verdict = rw c.in-Ok.ensures.1 at c.validate_integrity.ensures.verdict in
    let tells = rw c.in-Ok.ensures.1 at c.tell_verdict.ensures in
    let some : password_answer c.args.password.now ≡ None = search rules in
    rw (c.in-Ok.ensures.0, some)
    (long_term_validates c.args.user.now c.args.realm.now c.args.password.now c.args.bytes.now c.in-Ok-long_term_of.long c.from-credentials.result c.validate_integrity.result c.tell_verdict.result c.tell_verdict.new.validated
    c.in-Ok-long_term_of.ensures c.from-credentials.ensures verdict tells)
