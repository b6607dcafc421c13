use Rattle.std.proofs.Common.{[], ◌∷◌}
use Rattle.stun_grammar.specs.Attributes.{canonical}
use Rattle.stun_grammar.specs.AttributeTypes.{REALM, NONCE}
use Rattle.stun_authentication.specs.Asking.{asked_in}
use Rattle.stun_authentication.proofs.AddedLemmas.{in_turn, failed}
use Rattle.stun_authentication.proofs.writing.add_copies.Goals as goal

pub returns-in_err-add_bytes : goal.returns-in_err-add_bytes
returns-in_err-add_bytes g c =
    let asked = asked_in c.args.challenge.now in
    failed c.from_residual.result _ _ c.in_err-add_bytes.field-0.0 (canonical REALM asked.realm ∷ []) (canonical NONCE asked.nonce ∷ []) (rw (c.TYPE.ensures, c.as_bytes.ensures.value, c.realm.ensures.realm) at c.in_err-add_bytes.ensures) c.from_residual.ensures

pub returns : goal.returns
returns g c =
    let asked = asked_in c.args.challenge.now in
    in_turn c.in_ok-add_bytes.field-0 c.add_bytes-2.result _ _ _ (canonical REALM asked.realm ∷ []) (canonical NONCE asked.nonce ∷ []) (rw (c.TYPE.ensures, c.as_bytes.ensures.value, c.realm.ensures.realm) at c.in_ok-add_bytes.ensures)
    (rw (c.TYPE-2.ensures, c.as_bytes-2.ensures.value, c.nonce.ensures.nonce) at c.add_bytes-2.ensures)
