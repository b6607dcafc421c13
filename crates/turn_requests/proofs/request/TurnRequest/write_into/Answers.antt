use Rattle.turn_requests.proofs.WritingLemmas.{not_whole, not_whole_memory, whole_fails, whole_memory}
use Rattle.turn_requests.specs.Requests.{credentials_in, end_refusal, end_steps, ended}
use Rattle.turn_requests.proofs.request.TurnRequest.write_into.Goals as goal

pub returns-in_err-begin_into-clause-answer : goal.returns-in_err-begin_into-clause-answer
returns-in_err-begin_into-clause-answer g c = not_whole c.from_residual.result c.in_err-begin_into.field-0.0 _ _ _ _ _ _ c.in_err-begin_into.ensures c.from_residual.ensures

pub returns-in_err-begin_into-clause-memory : goal.returns-in_err-begin_into-clause-memory
returns-in_err-begin_into-clause-memory g c = not_whole_memory c.from_residual.result c.in_err-begin_into.field-0.0 _ _ _ _ _ (end_steps (credentials_in c.args.login) c.args.fingerprint) c.in_err-begin_into.ensures c.from_residual.ensures

pub returns-clause-text : goal.returns-clause-text
returns-clause-text g c = c.finish_request.ensures.written _ _ _ c.in_ok-begin_into.ensures.bytes

pub returns-clause-answer : goal.returns-clause-answer
returns-clause-answer g c =
    whole_fails c.in_ok-begin_into.field-0 c.finish_request.result _ _ _ _ _ _ (ended (credentials_in c.args.login) c.args.fingerprint) (end_steps (credentials_in c.args.login) c.args.fingerprint) (end_refusal (credentials_in c.args.login) c.args.fingerprint) c.in_ok-begin_into.ensures c.finish_request.ensures

pub returns-clause-memory : goal.returns-clause-memory
returns-clause-memory g c =
    whole_memory c.in_ok-begin_into.field-0 c.finish_request.result _ _ _ _ _ _ (ended (credentials_in c.args.login) c.args.fingerprint) (end_steps (credentials_in c.args.login) c.args.fingerprint) _ c.in_ok-begin_into.ensures c.finish_request.ensures
