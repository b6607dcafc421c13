use Rattle.std.proofs.Common.{◌≡◌, Some, sym}
use Rattle.stun_types_c.specs.KeyHandles.{shared_key}
use Rattle.stun_types_c.proofs.validating.stun_types_validate.Goals as goal

pub returns-in-Some : goal.returns-in-Some
returns-in-Some c =
    let held-is : shared_key c.args.key.now ≡ Some c.in-Some.key.now = sym c.in-Some.ensures in
    let reported = rw c.in-Ok.ensures.1 at c.validate_integrity_with_key.ensures.verdict in
    let tells = rw c.in-Ok.ensures.1 at c.tell_verdict.ensures in
    rw (c.in-Ok.ensures.0, held-is, ← reported) tells
