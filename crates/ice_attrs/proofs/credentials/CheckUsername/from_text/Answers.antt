use Rattle.std.proofs.Common.{◌≡◌, ℕ, List, eqb, length, inl, inr, arith}
use Rattle.std.specs.List.{position_or_len}
use Rattle.ice_attrs.proofs.SplittingLemmas.{none_without, none_round}
use Rattle.ice_attrs.proofs.credentials.CheckUsername.from_text.Goals as goal

pub returns-in_err-receiver : goal.returns-in_err-receiver
returns-in_err-receiver c =
    let text : List ℕ = c.args.text.now in
    let none : position_or_len (λ b. eqb b 58) text ≡ length text = c.in_err-receiver.ensures.byte (omega arith) (λ w o x. x) in
    rw c.from_residual.ensures (none_without text none)

pub returns-in_err-new : goal.returns-in_err-new
returns-in_err-new c =
    let parts = c.in_ok-receiver.ensures.byte (omega arith) (λ w o x. x) in
    rw c.from_residual-in_err-new.ensures (none_round c.args.text.now c.in_ok-receiver.receiver.now c.in_ok-receiver.sender.now parts.0 parts.1 (inl c.in_err-new.ensures))

pub returns-in_err-new-2 : goal.returns-in_err-new-2
returns-in_err-new-2 c =
    let parts = c.in_ok-receiver.ensures.byte (omega arith) (λ w o x. x) in
    rw c.from_residual-in_err-new-2.ensures (none_round c.args.text.now c.in_ok-receiver.receiver.now c.in_ok-receiver.sender.now parts.0 parts.1 (inr c.in_err-new-2.ensures))
