use Rattle.std.proofs.Common.{◌∷◌}
use Rattle.stun_grammar.specs.Steps.{sign}
use Rattle.stun_keys.specs.Keys.{key_bytes}
use Rattle.stun_authentication.specs.Challenges.{retry_of, signing_algorithm}
use Rattle.stun_authentication.specs.Requests.{credentials}
use Rattle.stun_authentication.specs.Writing.{signed, finished, print_steps}
use Rattle.stun_authentication.proofs.FinishingLemmas.{then_finishes, not_finished}
use Rattle.stun_authentication.proofs.login.answer_by.Goals as goal

pub returns-in_err-add_credentials : goal.returns-in_err-add_credentials
returns-in_err-add_credentials g c =
    let retry = retry_of c.args.retry.now in
    let key = key_bytes c.args.key.now in
    let a = signing_algorithm retry in
    not_finished c.from_residual.result _ _ c.in_err-add_credentials.field-0.0 (credentials retry c.args.name.now) (λ kind id before. finished c.args.fingerprint kind id (signed kind id before a key)) (sign a key ∷ print_steps c.args.fingerprint)
    c.in_err-add_credentials.ensures c.from_residual.ensures

pub returns : goal.returns
returns g c =
    let retry = retry_of c.args.retry.now in
    let key = key_bytes c.args.key.now in
    let a = signing_algorithm retry in
    then_finishes c.in_ok-add_credentials.field-0 c.sign_and_print.result _ _ _ (credentials retry c.args.name.now) (λ kind id before. finished c.args.fingerprint kind id (signed kind id before a key)) (sign a key ∷ print_steps c.args.fingerprint)
    c.in_ok-add_credentials.ensures (rw c.integrity_algorithm.ensures at c.sign_and_print.ensures)
