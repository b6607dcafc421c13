use Rattle.ice_checks.proofs.WritingLemmas.{not_whole, not_whole_memory, whole_fails, whole_memory, whole_placed}
use Rattle.ice_checks.specs.Checks.{end_refusal, end_steps, ended, signature_to}
use Rattle.ice_checks.specs.Views.{login_of}
use Rattle.ice_checks.proofs.check.write_check.Goals as goal

pub returns-in_err-begin-clause-answer : goal.returns-in_err-begin-clause-answer
returns-in_err-begin-clause-answer g c = not_whole c.from_residual.result c.in_err-begin.field-0.0 _ _ _ _ _ _ (rw (c.as_str.ensures.value, c.username_of-username.ensures) at c.in_err-begin.ensures) c.from_residual.ensures

pub returns-in_err-begin-clause-memory : goal.returns-in_err-begin-clause-memory
returns-in_err-begin-clause-memory g c = not_whole_memory c.from_residual.result c.in_err-begin.field-0.0 _ _ _ _ _ (end_steps (signature_to (login_of c.args.peer.now))) (rw (c.as_str.ensures.value, c.username_of-username.ensures) at c.in_err-begin.ensures) c.from_residual.ensures

pub returns-clause-text : goal.returns-clause-text
returns-clause-text g c = c.finish.ensures.written _ _ _ (rw (c.as_str.ensures.value, c.username_of-username.ensures) at c.in_ok-begin.ensures).bytes

pub returns-clause-answer : goal.returns-clause-answer
returns-clause-answer g c =
    let signature = signature_to (login_of c.args.peer.now) in
    whole_fails c.in_ok-begin.field-0 c.finish.result _ _ _ _ _ _ (ended signature) (end_steps signature) (end_refusal signature) (rw (c.as_str.ensures.value, c.username_of-username.ensures) at c.in_ok-begin.ensures) c.finish.ensures

pub returns-clause-memory : goal.returns-clause-memory
returns-clause-memory g c =
    let signature = signature_to (login_of c.args.peer.now) in
    whole_memory c.in_ok-begin.field-0 c.finish.result _ _ _ _ _ _ (ended signature) (end_steps signature) _ (rw (c.as_str.ensures.value, c.username_of-username.ensures) at c.in_ok-begin.ensures) c.finish.ensures

pub returns-clause-place : goal.returns-clause-place
returns-clause-place g c =
    let signature = signature_to (login_of c.args.peer.now) in
    whole_placed c.in_ok-begin.field-0 c.finish.result _ _ _ _ _ _ (ended signature) (end_steps signature) _ (rw (c.as_str.ensures.value, c.username_of-username.ensures) at c.in_ok-begin.ensures) c.finish.ensures
