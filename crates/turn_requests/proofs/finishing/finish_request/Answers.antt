use Rattle.stun_keys.specs.Keys.{key_algorithm, key_bytes}
use Rattle.stun_authentication.specs.Challenges.{retry_of, signing_algorithm}
use Rattle.stun_authentication.specs.Requests.{answering_attributes, login_steps, name_refusal}
use Rattle.stun_authentication.specs.Writing.{signing_refusal}
use Rattle.turn_requests.proofs.MemoryLemmas.{name_not, sign_not}
use Rattle.turn_requests.proofs.WritingLemmas.{login_ends}
use Rattle.turn_requests.proofs.finishing.finish_request.Goals as goal

pub returns-in-Some : goal.returns-in-Some
returns-in-Some g c =
    let state = g.B.MessageWrite.state in
    let login = c.in-Some.login in
    let retry = retry_of login.retry.now in
    let name = login.name.now in
    let key = key_bytes login.key.now in
    let made_for = key_algorithm login.key.now in
    let algorithm = signing_algorithm retry in
    rw c.in-Some.is (login_ends (name_refusal name) (signing_refusal made_for algorithm) c.answer_by.result (state c.args.write.now) (state c.answer_by.new.write)
    (answering_attributes c.args.fingerprint retry name key) (login_steps c.args.fingerprint retry name key) (name_not name) (sign_not made_for algorithm) c.answer_by.ensures)

pub returns-in-None : goal.returns-in-None
returns-in-None g c = rw c.in-None.is c.add_print.ensures
