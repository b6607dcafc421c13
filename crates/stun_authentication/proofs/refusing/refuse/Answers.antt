use Rattle.std.proofs.Common.{◌≡◌, ℕ, false, [], ◌∷◌, Option, Err, ap, subst}
use Rattle.std.specs.List.{list_any}
use Rattle.std.specs.Option.{option_map}
use Rattle.stun_grammar.specs.AttributeTypes.{is_ending}
use Rattle.stun_types.specs.Replies.{error_attribute}
use Rattle.stun_authentication.specs.Asking.{asked_in}
use Rattle.stun_authentication.specs.Answers.{refusal_code, refusal_reason}
use Rattle.stun_authentication.specs.Policies.{is_fingerprinted}
use Rattle.stun_authentication.specs.Refusing.{carried}
use Rattle.stun_types.specs.Message.{message_bytes}
use Rattle.stun_authentication.specs.Writing.{no_room, sizes, FailsFor, print_steps, step_sizes}
use Rattle.stun_authentication.proofs.AddedLemmas.{in_turn}
use Rattle.stun_authentication.proofs.FinishingLemmas.{cut_short}
use Rattle.stun_authentication.proofs.refusing.refuse.Goals as goal

pub returns-in_err-add_carried-clause-answer : goal.returns-in_err-add_carried-clause-answer
returns-in_err-add_carried-clause-answer g c =
    let state = g.B.MessageWrite.state in
    let begun = c.in_ok-write.ensures.begun in
    let old = state c.in_ok-write.write in
    let e = c.in_err-add_carried.field-0.0 in
    let error = error_attribute (refusal_code c.args.refusal) (refusal_reason c.args.refusal) in
    let more = error ∷ carried c.args.refusal (option_map (λ one. asked_in one.now) c.args.challenge) in
    let none : list_any is_ending old.types ≡ false = ap (list_any is_ending) begun.types in
    let both = in_turn c.in_ok-add_error.field-0 (Err e) old (state c.add_error.new.write) (state c.add_carried.new.write) (error ∷ []) (carried c.args.refusal (option_map (λ one. asked_in one.now) c.args.challenge)) (rw (c.in_ok-error.ensures.code_is, c.in_ok-error.ensures.reason_is) at c.in_ok-add_error.ensures) c.in_err-add_carried.ensures in
    let there = subst (λ (n : ℕ). FailsFor {T = Unit {0}} (no_room old.greatest n (sizes more)) (Err e)) begun.size (both.answer none) in
    cut_short c.from_residual-in_err-add_carried.result e (state c.args.write).greatest 20 more (step_sizes (print_steps (is_fingerprinted (message_bytes c.args.request.now))))
    (subst (λ (o : Option ℕ). FailsFor {T = Unit {0}} (no_room o 20 (sizes more)) (Err e)) begun.spends.greatest there) c.from_residual-in_err-add_carried.ensures
