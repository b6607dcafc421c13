use Rattle.std.proofs.Common.{◌≡◌, Option, None, Some, subst, sym, ◌∙◌}
use Rattle.std.specs.Option.{option_map_or}
use Rattle.stun_endpoints.specs.declared.endpoints.Endpoint.{Endpoint}
use Rattle.stun_types.specs.Message.{message_bytes}
use Rattle.turn_allocations.specs.Answers.{answer_of}
use Rattle.turn_server.specs.Acting.{Used, opened_in, used_by}
use Rattle.turn_server.specs.Responses.{IsResponse, alternate_for, own_owed, redirect_owed}
use Rattle.turn_server.proofs.RedirectingLemmas.{nothing_used}
use Rattle.turn_server.proofs.responding.answer.Goals as goal

pub returns-in-Some : goal.returns-in-Some
returns-in-Some c = λ key algorithm signs.
    let access = c.args.access.now in
    let client = c.args.client in
    let d = message_bytes c.args.request.now in
    let reply = c.args.served.reply in
    let answer = answer_of reply.answer in
    let is : Some c.in-Some.server ≡ alternate_for access client d answer = sym c.in-Some.is ∙ c.alternate_for.ensures in
    let redirected = subst (λ (used : Used). IsResponse (redirect_owed access c.in-Some.server d key algorithm) used c.args.buffer.now c.redirect.new.buffer c.redirect.result) (nothing_used access client d c.args.next c.args.served.claim reply.token answer c.in-Some.server (sym is)) (c.redirect.ensures key algorithm signs) in
    subst (λ (found : Option Endpoint). IsResponse (option_map_or (λ server. redirect_owed access server d key algorithm) found (own_owed access client d answer reply.token key algorithm)) (used_by c.args.served.claim reply.token (opened_in c.args.next answer)) c.args.buffer.now c.redirect.new.buffer c.redirect.result) is redirected

pub returns-in-None : goal.returns-in-None
returns-in-None c = λ key algorithm signs.
    let access = c.args.access.now in
    let client = c.args.client in
    let d = message_bytes c.args.request.now in
    let reply = c.args.served.reply in
    let answer = answer_of reply.answer in
    let is : None ≡ alternate_for access client d answer = sym c.in-None.is ∙ c.alternate_for.ensures in
    subst (λ (found : Option Endpoint). IsResponse (option_map_or (λ server. redirect_owed access server d key algorithm) found (own_owed access client d answer reply.token key algorithm)) (used_by c.args.served.claim reply.token (opened_in c.args.next answer)) c.args.buffer.now c.answer_itself.new.buffer c.answer_itself.result) is (c.answer_itself.ensures key algorithm signs)
