use Rattle.std.proofs.Common.{ℕ, List, [], ◌∷◌, Option, Ok, subst}
use Rattle.stun_grammar.specs.Attributes.{canonical}
use Rattle.stun_grammar.specs.AttributeTypes.{REALM, NONCE, PASSWORD_ALGORITHMS}
use Rattle.stun_authentication.specs.Asking.{asked_for, asked_in}
use Rattle.stun_authentication.specs.Refusing.{asked_attributes, list_attributes}
use Rattle.stun_authentication.specs.Writing.{Lengthens}
use Rattle.stun_authentication.proofs.AddedLemmas.{in_turn, failed}
use Rattle.stun_authentication.proofs.refusing.add_asked.Goals as goal

pub returns-in_err-add_copies : goal.returns-in_err-add_copies
returns-in_err-add_copies g c =
    let asked = asked_in c.args.challenge.now in
    failed c.from_residual.result _ _ c.in_err-add_copies.field-0.0 (canonical REALM asked.realm ∷ canonical NONCE asked.nonce ∷ []) (list_attributes asked.list) c.in_err-add_copies.ensures c.from_residual.ensures

pub returns-in-Some : goal.returns-in-Some
returns-in-Some g c =
    let state = g.B.MessageWrite.state in
    let asked = asked_in c.args.challenge.now in
    subst (λ (l : Option (List ℕ)). Lengthens c.add_bytes.result (state c.args.write.now) (state c.add_bytes.new.write) (asked_attributes (asked_for asked.realm asked.nonce l))) c.in-Some.ensures.list
    (in_turn c.in_ok-add_copies.field-0 c.add_bytes.result _ _ _ (canonical REALM asked.realm ∷ canonical NONCE asked.nonce ∷ []) (canonical PASSWORD_ALGORITHMS c.in-Some.list.now ∷ []) c.in_ok-add_copies.ensures (rw c.TYPE.ensures at c.add_bytes.ensures))

pub returns-in-None : goal.returns-in-None
returns-in-None g c =
    let state = g.B.MessageWrite.state in
    let asked = asked_in c.args.challenge.now in
    subst (λ (l : Option (List ℕ)). Lengthens (Ok tt) (state c.args.write.now) (state c.add_copies.new.write) (asked_attributes (asked_for asked.realm asked.nonce l))) (rw c.in-None.is at c.password_algorithms.ensures.list)
    c.in_ok-add_copies.ensures
