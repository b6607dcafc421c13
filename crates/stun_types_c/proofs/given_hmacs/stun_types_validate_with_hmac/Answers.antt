use Rattle.std.proofs.Common.{◌≡◌}
use Rattle.stun_keys.specs.Keys.{key_bytes, key_algorithm}
use Rattle.stun_types_c.proofs.given_hmacs.stun_types_validate_with_hmac.Goals as goal

pub returns-clause-keyed : goal.returns-clause-keyed
returns-clause-keyed c = λ key named made-is named-is gives.
    let same : c.in-Some-Some.made_for ≡ key_algorithm key = cc in
    let given-is : c.in-Some-Some.hmac ≡ named = cc in
    let keyed = rw (c.in-Ok.ensures.1, same, given-is) at c.validate_integrity_with_hmac-verdict.ensures.keyed in
    rw (c.in-Ok.ensures.0, ← keyed (λ _. key_bytes key) gives) (rw c.in-Ok.ensures.1 at c.tell_verdict.ensures)
