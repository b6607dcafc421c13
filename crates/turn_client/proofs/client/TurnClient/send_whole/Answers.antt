use Rattle.std.proofs.Common.{◌∙◌, ℕ, List, Option, Some, Result, sym, ap, subst}
use Rattle.stun_grammar.specs.declared.error.StunWriteError.{StunWriteError}
use Rattle.turn_attrs.specs.declared.heads.Head.{Head}
use Rattle.turn_client_machine.specs.Clients.{Endpoint}
use Rattle.turn_client_machine.specs.Events.{Output}
use Rattle.turn_client_messages.specs.declared.sending.Carrier.TheVariants.{Whole}
use Rattle.turn_client_state.specs.declared.data.Way.{Way}
use Rattle.turn_client_state.specs.declared.data.Way.TheVariants.{Channel, Indication}
use Rattle.turn_client_state.specs.States.{data_by}
use Rattle.turn_client.specs.Clients.{Client}
use Rattle.turn_client.specs.Sending.{IsCarried, SendsWhole}
use Rattle.turn_client.proofs.client.TurnClient.send_whole.Goals as goal

-- by whichever way there is
by_any : (client : Client) (id : ℕ) (peer : Endpoint) (n : ℕ) (bytes old new : List ℕ) (result : Result (Option Head) StunWriteError) (way : Way)
    → IsCarried client (Whole id peer) n old new result → SendsWhole client id peer n (data_by peer bytes (Some way)) old new result
by_any client id peer n bytes old new result (Channel number) is = is
by_any client id peer n bytes old new result Indication is = is

pub returns-in-Some-clause-head : goal.returns-in-Some-clause-head
returns-in-Some-clause-head c bytes =
    let old = c.args.head.now in
    let new = c.carry.new.head in
    subst (λ (o : Output). SendsWhole c.args.self.now c.args.id c.args.peer c.args.length o old new c.carry.result)
    (sym (c.way.ensures.data bytes ∙ ap (data_by c.args.peer bytes) c.in-Some.is))
    (by_any c.args.self.now c.args.id c.args.peer c.args.length bytes old new c.carry.result c.in-Some.field-0
    (subst (λ (s : Client). IsCarried s (Whole c.args.id c.args.peer) c.args.length old new c.carry.result) (c.way.ensures.state bytes) c.carry.ensures))
