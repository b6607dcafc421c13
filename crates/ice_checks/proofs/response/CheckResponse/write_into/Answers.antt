use Rattle.ice_checks.proofs.WritingLemmas.{not_whole, not_whole_memory, whole_fails, whole_memory, whole_placed}
use Rattle.ice_checks.specs.Checks.{end_refusal, end_steps, ended}
use Rattle.std.specs.Option.{option_map}
use Rattle.ice_checks.specs.Views.{signing_of}
use Rattle.ice_checks.proofs.response.CheckResponse.write_into.Goals as goal

pub returns-in_err-begin_into-clause-answer : goal.returns-in_err-begin_into-clause-answer
returns-in_err-begin_into-clause-answer g c = not_whole c.from_residual.result c.in_err-begin_into.field-0.0 _ _ _ _ _ _ c.in_err-begin_into.ensures c.from_residual.ensures

pub returns-in_err-begin_into-clause-memory : goal.returns-in_err-begin_into-clause-memory
returns-in_err-begin_into-clause-memory g c = not_whole_memory c.from_residual.result c.in_err-begin_into.field-0.0 _ _ _ _ _ (end_steps (option_map signing_of c.args.signature)) c.in_err-begin_into.ensures c.from_residual.ensures

pub returns-clause-text : goal.returns-clause-text
returns-clause-text g c = c.finish.ensures.written _ _ _ c.in_ok-begin_into.ensures.bytes

pub returns-clause-answer : goal.returns-clause-answer
returns-clause-answer g c =
    whole_fails c.in_ok-begin_into.field-0 c.finish.result _ _ _ _ _ _ (ended (option_map signing_of c.args.signature)) (end_steps (option_map signing_of c.args.signature)) (end_refusal (option_map signing_of c.args.signature)) c.in_ok-begin_into.ensures c.finish.ensures

pub returns-clause-memory : goal.returns-clause-memory
returns-clause-memory g c =
    whole_memory c.in_ok-begin_into.field-0 c.finish.result _ _ _ _ _ _ (ended (option_map signing_of c.args.signature)) (end_steps (option_map signing_of c.args.signature)) _ c.in_ok-begin_into.ensures c.finish.ensures

pub returns-clause-place : goal.returns-clause-place
returns-clause-place g c =
    let signature = option_map signing_of c.args.signature in
    whole_placed c.in_ok-begin_into.field-0 c.finish.result _ _ _ _ _ _ (ended signature) (end_steps signature) _ c.in_ok-begin_into.ensures c.finish.ensures
