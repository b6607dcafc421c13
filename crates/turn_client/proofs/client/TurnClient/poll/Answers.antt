use Rattle.std.proofs.Common.{◌∙◌, sym, ap, subst}
use Rattle.turn_client_machine.specs.Events.{Output}
use Rattle.turn_client_state.specs.States.{asking_with}
use Rattle.turn_client.specs.Clients.{Client}
use Rattle.turn_client.specs.Sending.{request_refusal, request_text, IsWritten, Polls}
use Rattle.turn_client.proofs.client.TurnClient.poll.Goals as goal

pub returns-in-Some-clause-bytes : goal.returns-in-Some-clause-bytes
returns-in-Some-clause-bytes c =
    let old = c.args.out.now in
    let new = c.write.new.out in
    let r = c.in-Some.asking.request in
    let others = c.in-Some.asking.others.items in
    subst (λ (o : Output). Polls c.args.self.now o old new c.write.result)
    (sym (c.request.ensures.request ∙ ap asking_with c.in-Some.is))
    (subst (λ (s : Client). IsWritten (request_refusal s r others) (request_text s r others) old new c.write.result) c.request.ensures.state c.write.ensures)
