use Rattle.std.proofs.Common.{◌≡◌, ℕ, Bool, None, ap, subst, ◌∙◌}
use Rattle.stun_types.specs.Message.{message_bytes}
use Rattle.stun_base.specs.MessageTypes.{method_of}
use Rattle.stun_grammar.specs.Headers.{type_field}
use Rattle.turn_slots.specs.Users.{user_number}
use Rattle.turn_machine.specs.Events.{ticks, nothing, sends, sends_on, answers}
use Rattle.turn_allocations.specs.Requests.{numbers_in}
use Rattle.turn_allocations.specs.Tables.{Serving}
use Rattle.turn_server.specs.Requests.{request_of}
use Rattle.turn_server.specs.Wanted.{outer_of, server_at}
use Rattle.turn_allocations.specs.Answers.{answer_of}
use Rattle.turn_allocations.specs.Outputs.{sending}
use Rattle.turn_allocations.specs.Setups.{rules_of, setup_of}
use Rattle.turn_machine.specs.Reserving.{plain}
use Rattle.turn_reservations.specs.Calls.{Reserving, IsOuterStep}
use Rattle.turn_server.specs.Acting.{none_used, opened_in, used_by}
use Rattle.turn_server.specs.Reporting.{Tells}
use Rattle.turn_server.specs.Responses.{IsResponse, binding_owed, types_owed, answer_owed}
use Rattle.turn_server.specs.Sites.{site_of}
use Rattle.turn_server.specs.declared.judged.Judged.{Judged as Reported}
use Rattle.turn_server.proofs.ActingLemmas.{dropped_done, binding_done, refused_done, unknown_done, sent_done, sent_on_done, asked_done}
use Rattle.turn_server.proofs.server.TurnServer.act.Goals as goal

pub returns-in-Dropped : goal.returns-in-Dropped
returns-in-Dropped g c = λ keys d judged tells.
    let rules = rules_of (g.A.PeerPolicy.allows_address c.args.policy.now) (g.A.PeerPolicy.allows_port c.args.policy.now) in
    let setup = setup_of c.args.self.now.limits g.row.P g.row.C in
    let tuple = c.args.from.now in
    let access = c.args.site.now.access.now in
    let sockets = c.args.site.now.sockets in
    let told = subst (λ (j : Reported). Tells (site_of access sockets keys tuple.client c.args.now) d judged j) c.in-Dropped.is tells in
    let passed = subst (λ (old : Reserving). IsOuterStep (setup_of old.limits g.row.P g.row.C) rules old c.args.now (plain ticks) nothing None c.poll.new.self) c.self.view_is (c.poll.ensures rules) in
    dropped_done access sockets keys setup rules tuple c.args.now d c.args.buffer.now c.args.buffer.now c.args.self.now c.poll.new.self passed judged told

pub returns-in-Binding : goal.returns-in-Binding
returns-in-Binding g c = λ keys d judged tells.
    let rules = rules_of (g.A.PeerPolicy.allows_address c.args.policy.now) (g.A.PeerPolicy.allows_port c.args.policy.now) in
    let setup = setup_of c.args.self.now.limits g.row.P g.row.C in
    let tuple = c.args.from.now in
    let access = c.args.site.now.access.now in
    let sockets = c.args.site.now.sockets in
    let told = subst (λ (j : Reported). Tells (site_of access sockets keys tuple.client c.args.now) d judged j) c.in-Binding.is tells in
    let passed = subst (λ (old : Reserving). IsOuterStep (setup_of old.limits g.row.P g.row.C) rules old c.args.now (plain ticks) nothing None c.poll-in-Binding.new.self) c.self.view_is (c.poll-in-Binding.ensures rules) in
    binding_done access sockets keys setup rules tuple c.args.now d c.args.buffer.now c.bind.new.buffer c.args.self.now c.poll-in-Binding.new.self passed c.in-Binding.request c.bind.result judged told
    (subst (λ (b : Bool). IsResponse (binding_owed b tuple.client (message_bytes c.in-Binding.request.message)) none_used c.args.buffer.now c.bind.new.buffer c.bind.result) c.requires c.bind.ensures)

pub returns-in-Refused : goal.returns-in-Refused
returns-in-Refused g c = λ keys d judged tells.
    let rules = rules_of (g.A.PeerPolicy.allows_address c.args.policy.now) (g.A.PeerPolicy.allows_port c.args.policy.now) in
    let setup = setup_of c.args.self.now.limits g.row.P g.row.C in
    let tuple = c.args.from.now in
    let access = c.args.site.now.access.now in
    let sockets = c.args.site.now.sockets in
    let told = subst (λ (j : Reported). Tells (site_of access sockets keys tuple.client c.args.now) d judged j) c.in-Refused.is tells in
    let passed = subst (λ (old : Reserving). IsOuterStep (setup_of old.limits g.row.P g.row.C) rules old c.args.now (plain ticks) nothing None c.poll-in-Refused.new.self) c.self.view_is (c.poll-in-Refused.ensures rules) in
    refused_done access sockets keys setup rules tuple c.args.now d c.args.buffer.now c.refuse.new.buffer c.args.self.now c.poll-in-Refused.new.self passed c.in-Refused.request c.refuse.result c.in-Refused.refusal judged told c.refuse.ensures

pub returns-in-Unknown : goal.returns-in-Unknown
returns-in-Unknown g c = λ keys d judged tells.
    let rules = rules_of (g.A.PeerPolicy.allows_address c.args.policy.now) (g.A.PeerPolicy.allows_port c.args.policy.now) in
    let setup = setup_of c.args.self.now.limits g.row.P g.row.C in
    let tuple = c.args.from.now in
    let access = c.args.site.now.access.now in
    let sockets = c.args.site.now.sockets in
    let told = subst (λ (j : Reported). Tells (site_of access sockets keys tuple.client c.args.now) d judged j) c.in-Unknown.is tells in
    let passed = subst (λ (old : Reserving). IsOuterStep (setup_of old.limits g.row.P g.row.C) rules old c.args.now (plain ticks) nothing None c.poll-in-Unknown.new.self) c.self.view_is (c.poll-in-Unknown.ensures rules) in
    unknown_done access sockets keys setup rules tuple c.args.now d c.args.buffer.now c.refuse_types.new.buffer c.args.self.now c.poll-in-Unknown.new.self passed c.in-Unknown.request c.refuse_types.result c.in-Unknown.accepted judged told
    (λ key algorithm signs. subst (λ (b : Bool). IsResponse (types_owed b (message_bytes c.in-Unknown.request.message) key algorithm) none_used c.args.buffer.now c.refuse_types.new.buffer c.refuse_types.result) c.requires (c.refuse_types.ensures key algorithm signs))

pub returns-in-Sent : goal.returns-in-Sent
returns-in-Sent g c = λ keys d judged tells.
    let rules = rules_of (g.A.PeerPolicy.allows_address c.args.policy.now) (g.A.PeerPolicy.allows_port c.args.policy.now) in
    let setup = setup_of c.args.self.now.limits g.row.P g.row.C in
    let tuple = c.args.from.now in
    let access = c.args.site.now.access.now in
    let sockets = c.args.site.now.sockets in
    let told = subst (λ (j : Reported). Tells (site_of access sockets keys tuple.client c.args.now) d judged j) c.in-Sent.is tells in
    sent_done access sockets keys setup rules tuple c.args.now d c.args.buffer.now c.args.buffer.now c.args.self.now c.on_send.new.self c.on_send.result c.in-Sent.peer c.in-Sent.dont_fragment c.in-Sent.data c.relayed.result judged told
    (λ bytes. subst (λ (old : Reserving). IsOuterStep (setup_of old.limits g.row.P g.row.C) rules old c.args.now (plain (sends tuple c.in-Sent.peer c.in-Sent.dont_fragment bytes)) (sending c.on_send.result bytes) None c.on_send.new.self) c.self.view_is (c.on_send.ensures bytes))
    (λ bytes stands. c.relayed.ensures setup.supports_dont_fragment access c.args.now tuple.client bytes d c.args.buffer.now stands)

pub returns-in-SentOn : goal.returns-in-SentOn
returns-in-SentOn g c = λ keys d judged tells.
    let rules = rules_of (g.A.PeerPolicy.allows_address c.args.policy.now) (g.A.PeerPolicy.allows_port c.args.policy.now) in
    let setup = setup_of c.args.self.now.limits g.row.P g.row.C in
    let tuple = c.args.from.now in
    let access = c.args.site.now.access.now in
    let sockets = c.args.site.now.sockets in
    let told = subst (λ (j : Reported). Tells (site_of access sockets keys tuple.client c.args.now) d judged j) c.in-SentOn.is tells in
    sent_on_done access sockets keys setup rules tuple c.args.now d c.args.buffer.now c.args.buffer.now c.args.self.now c.on_channel_data.new.self c.on_channel_data.result c.in-SentOn.channel c.in-SentOn.data c.relayed-in-SentOn.result judged told
    (λ bytes. subst (λ (old : Reserving). IsOuterStep (setup_of old.limits g.row.P g.row.C) rules old c.args.now (plain (sends_on tuple c.in-SentOn.channel bytes)) (sending c.on_channel_data.result bytes) None c.on_channel_data.new.self) c.self.view_is (c.on_channel_data.ensures bytes))
    (λ bytes stands. c.relayed-in-SentOn.ensures setup.supports_dont_fragment access c.args.now tuple.client bytes d c.args.buffer.now stands)

pub returns-in-Asked : goal.returns-in-Asked
returns-in-Asked g c = λ keys d judged tells.
    let rules = rules_of (g.A.PeerPolicy.allows_address c.args.policy.now) (g.A.PeerPolicy.allows_port c.args.policy.now) in
    let setup = setup_of c.args.self.now.limits g.row.P g.row.C in
    let tuple = c.args.from.now in
    let access = c.args.site.now.access.now in
    let sockets = c.args.site.now.sockets in
    let told = subst (λ (j : Reported). Tells (site_of access sockets keys tuple.client c.args.now) d judged j) c.in-Asked.is tells in
    let next_is : c.next_number-next.result ≡ c.args.self.now.holding.state.next = c.next_number-next.ensures ∙ (ap (λ (s : Serving). s.state.next) c.allocations.ensures ∙ ap (λ (s : Reserving). s.holding.state.next) c.self.view_is) in
    let d_read = message_bytes c.in-Asked.request.message in
    let wanted = request_of tuple.client.ip sockets (method_of (type_field d_read)) d_read in
    let served = c.serve-served.result in
    let answer = answer_of served.reply.answer in
    asked_done access sockets keys setup rules tuple c.args.now d c.args.buffer.now c.answer.new.buffer c.args.self.now c.serve-served.new.allocations c.in-Asked.request c.in-Asked.user c.in-Asked.accepted served c.answer.result judged told c.serve-served.ensures.claim
    (subst (λ (old : Reserving). IsOuterStep (setup_of old.limits g.row.P g.row.C) rules old c.args.now (outer_of tuple (user_number c.in-Asked.user) (server_at c.args.now old.holding) (numbers_in served.reply.answer) wanted) (answers tuple answer) served.reply.token c.serve-served.new.allocations) c.self.view_is c.serve-served.ensures.step)
    (λ key algorithm signs. subst (λ (n : ℕ). IsResponse (answer_owed access tuple.client d_read answer served.reply.token key algorithm) (used_by served.claim served.reply.token (opened_in n answer)) c.args.buffer.now c.answer.new.buffer c.answer.result) next_is (c.answer.ensures key algorithm signs))
