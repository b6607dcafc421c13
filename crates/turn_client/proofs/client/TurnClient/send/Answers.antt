use Rattle.std.proofs.Common.{◌∙◌, Some, sym, ap, subst}
use Rattle.turn_attrs.specs.Channels.{channel_of}
use Rattle.turn_client_machine.specs.Events.{Output}
use Rattle.turn_client_messages.specs.declared.sending.Carrier.TheVariants.{Indication}
use Rattle.turn_client_state.specs.States.{data_by}
use Rattle.turn_client.specs.Clients.{Client}
use Rattle.turn_client.specs.Sending.{IsCarried, Sends, SendsOn}
use Rattle.turn_client.proofs.client.TurnClient.send.Goals as goal

pub returns-in-Some-Channel-clause-head : goal.returns-in-Some-Channel-clause-head
returns-in-Some-Channel-clause-head c bytes =
    let old = c.args.head.now in
    let new = c.carry_on.new.head in
    let number = c.in-Some-Channel.number in
    subst (λ (o : Output). Sends c.args.self.now c.args.id c.args.length o old new c.carry_on.result)
    (sym (c.way.ensures.data bytes ∙ ap (data_by c.args.peer bytes) (c.in-Some-Channel.is ∙ ap Some c.in-Some-Channel.field-0-is)))
    (subst (λ (s : Client). SendsOn s number (channel_of number) c.args.length old new c.carry_on.result) (c.way.ensures.state bytes) c.carry_on.ensures)

pub returns-in-Some-Indication-clause-head : goal.returns-in-Some-Indication-clause-head
returns-in-Some-Indication-clause-head c bytes =
    let old = c.args.head.now in
    let new = c.carry.new.head in
    subst (λ (o : Output). Sends c.args.self.now c.args.id c.args.length o old new c.carry.result)
    (sym (c.way.ensures.data bytes ∙ ap (data_by c.args.peer bytes) (c.in-Some-Indication.is ∙ ap Some c.in-Some-Indication.field-0-is)))
    (subst (λ (s : Client). IsCarried s (Indication c.args.id c.args.peer) c.args.length old new c.carry.result) (c.way.ensures.state bytes) c.carry.ensures)
