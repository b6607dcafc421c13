use Rattle.std.proofs.Common.{[], ◌∷◌, Ok, Err}
use Rattle.stun_grammar.specs.Attributes.{canonical}
use Rattle.stun_grammar.specs.AttributeTypes.{REALM, NONCE}
use Rattle.stun_authentication.specs.Challenges.{retry_of}
use Rattle.stun_authentication.specs.Requests.{asked_identity, identity_attribute, algorithm_attributes}
use Rattle.stun_authentication.proofs.AddedLemmas.{in_turn, failed}
use Rattle.stun_authentication.proofs.login.add_credentials.Goals as goal

pub returns-in_err-add_identity : goal.returns-in_err-add_identity
returns-in_err-add_identity g c =
    let retry = retry_of c.args.retry.now in
    let user = identity_attribute (asked_identity retry.asked c.args.name.now) in
    failed c.from_residual.result _ _ c.in_err-add_identity.field-0.0 (user ∷ []) (canonical REALM retry.asked.realm ∷ canonical NONCE retry.asked.nonce ∷ algorithm_attributes retry.asked.list retry.algorithm) c.in_err-add_identity.ensures c.from_residual.ensures

pub returns-in_err-add_copies : goal.returns-in_err-add_copies
returns-in_err-add_copies g c =
    let retry = retry_of c.args.retry.now in
    let user = identity_attribute (asked_identity retry.asked c.args.name.now) in
    let realm = canonical REALM retry.asked.realm in
    let nonce = canonical NONCE retry.asked.nonce in
    let e = c.in_err-add_copies.field-0.0 in
    let both = in_turn c.in_ok-add_identity.field-0 (Err e) _ _ _ (user ∷ []) (realm ∷ nonce ∷ []) c.in_ok-add_identity.ensures c.in_err-add_copies.ensures in
    failed c.from_residual-in_err-add_copies.result _ _ e (user ∷ realm ∷ nonce ∷ []) (algorithm_attributes retry.asked.list retry.algorithm) both c.from_residual-in_err-add_copies.ensures

pub returns : goal.returns
returns g c =
    let retry = retry_of c.args.retry.now in
    let user = identity_attribute (asked_identity retry.asked c.args.name.now) in
    let realm = canonical REALM retry.asked.realm in
    let nonce = canonical NONCE retry.asked.nonce in
    let both = in_turn c.in_ok-add_identity.field-0 (Ok c.in_ok-add_copies.field-0) _ _ _ (user ∷ []) (realm ∷ nonce ∷ []) c.in_ok-add_identity.ensures c.in_ok-add_copies.ensures in
    in_turn c.in_ok-add_copies.field-0 c.add_algorithms.result _ _ _ (user ∷ realm ∷ nonce ∷ []) (algorithm_attributes retry.asked.list retry.algorithm) both c.add_algorithms.ensures
