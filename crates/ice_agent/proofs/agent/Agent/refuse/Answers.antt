use Rattle.std.proofs.Common.{◌∙◌, Some, ap, length}
use Rattle.ice_agent_state.specs.Outputs.{refused_with}
use Rattle.ice_machine.specs.Events.{strays}
use Rattle.ice_agent.specs.Agents.{Agent, passes}
use Rattle.ice_agent.proofs.ReceivingLemmas.{refusal_replied}
use Rattle.ice_agent.proofs.agent.Agent.refuse.Goals as goal

pub returns-in-Some-clause-state : goal.returns-in-Some-clause-state
returns-in-Some-clause-state c base from =
    c.stray.ensures.state base c.args.id from
    ∙ ap (λ code. passes c.args.now 0 (strays base from c.args.id (length c.args.datagram.now) (Some code)) c.args.self.now) c.code.ensures

pub returns-in-Some-clause-reply : goal.returns-in-Some-clause-reply
returns-in-Some-clause-reply c base from =
    let said = rw c.code.ensures at c.stray.ensures.answer base c.args.id from in
    refusal_replied c.args.self.now c.stray.new.self base from c.args.datagram.now c.args.id c.args.refusal c.args.signed_by _ c.in-Some.field-0 _ c.args.out.now c.reply.new.out c.reply.result
    (said ∙ ap (refused_with base from c.args.id) c.in-Some.is)
    (ap (λ (s : Agent). s.logins) (c.stray.ensures.state base c.args.id from))
    c.response.ensures c.reply.ensures

pub returns-in-None-clause-state : goal.returns-in-None-clause-state
returns-in-None-clause-state c base from =
    c.stray.ensures.state base c.args.id from
    ∙ ap (λ code. passes c.args.now 0 (strays base from c.args.id (length c.args.datagram.now) (Some code)) c.args.self.now) c.code.ensures
