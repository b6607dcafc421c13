use Rattle.std.proofs.Common.{ℕ, List, [], ◌∷◌, Option, Ok, subst}
use Rattle.stun_grammar.specs.Attributes.{canonical}
use Rattle.stun_grammar.specs.AttributeTypes.{PASSWORD_ALGORITHM, PASSWORD_ALGORITHMS}
use Rattle.stun_values.specs.Algorithms.{algorithm_encoding}
use Rattle.stun_authentication.specs.Requests.{algorithm_attributes}
use Rattle.stun_authentication.specs.Writing.{Lengthens}
use Rattle.stun_authentication.proofs.AddedLemmas.{in_turn, failed, nothing_more}
use Rattle.stun_authentication.proofs.login.add_algorithms.Goals as goal

pub returns-in_default : goal.returns-in_default
returns-in_default g c =
    let old = g.B.MessageWrite.state c.args.write.now in
    subst (λ (l : Option (List ℕ)). Lengthens (Ok tt) old old (algorithm_attributes l c.args.retry.now.algorithm)) (rw c.in_default.is at c.password_algorithms.ensures.list) (nothing_more old tt)

pub returns-in_err-add_bytes : goal.returns-in_err-add_bytes
returns-in_err-add_bytes g c =
    let state = g.B.MessageWrite.state in
    let algorithm = c.args.retry.now.algorithm in
    subst (λ (l : Option (List ℕ)). Lengthens c.from_residual.result (state c.args.write.now) (state c.add_bytes.new.write) (algorithm_attributes l algorithm)) c.in-Some.ensures.list
    (failed c.from_residual.result _ _ c.in_err-add_bytes.field-0.0 (canonical PASSWORD_ALGORITHMS c.in-Some.list.now ∷ []) (canonical PASSWORD_ALGORITHM (algorithm_encoding algorithm) ∷ []) (rw c.TYPE.ensures at c.in_err-add_bytes.ensures) c.from_residual.ensures)

pub returns : goal.returns
returns g c =
    let state = g.B.MessageWrite.state in
    let algorithm = c.args.retry.now.algorithm in
    subst (λ (l : Option (List ℕ)). Lengthens c.add_bytes-2.result (state c.args.write.now) (state c.add_bytes-2.new.write) (algorithm_attributes l algorithm)) c.in-Some.ensures.list
    (in_turn c.in_ok-add_bytes.field-0 c.add_bytes-2.result _ _ _ (canonical PASSWORD_ALGORITHMS c.in-Some.list.now ∷ []) (canonical PASSWORD_ALGORITHM (algorithm_encoding algorithm) ∷ []) (rw c.TYPE.ensures at c.in_ok-add_bytes.ensures)
    (rw (c.TYPE-2.ensures, c.write_algorithm.ensures) at c.add_bytes-2.ensures))
