use Rattle.std.proofs.Common.{◌∙◌, refl, sym, ap}
use Rattle.turn_client_messages.specs.Judging.{stray}
use Rattle.turn_client_messages.specs.Reporting.{judged_of}
use Rattle.turn_client.proofs.ReceivingLemmas.{receives_challenge, receives_one, receives_other}
use Rattle.turn_client.proofs.client.TurnClient.on_datagram.Goals as goal

pub returns-in_ok-take_challenge-in-Challenge-clause-state : goal.returns-in_ok-take_challenge-in-Challenge-clause-state
returns-in_ok-take_challenge-in-Challenge-clause-state c =
    receives_challenge c.args.self.now c.args.now c.args.from c.args.datagram.now _ _ _ _ c.take_challenge.new.self
    (sym c.is_server.ensures ∙ c.if-not-is_server.false)
    (sym c.judged.ensures ∙ ap judged_of c.in-Challenge.is)
    c.in_ok-take_challenge-in-Challenge.ensures.taken

pub returns-then-not-is_server-clause-state : goal.returns-then-not-is_server-clause-state
returns-then-not-is_server-clause-state c =
    receives_other c.args.self.now c.args.now c.args.from c.args.datagram.now c.pass.new.self
    (sym c.is_server.ensures ∙ c.if-not-is_server.true) (c.pass.ensures c.args.from)

pub returns-in-Some-take_other-clause-state : goal.returns-in-Some-take_other-clause-state
returns-in-Some-take_other-clause-state c =
    receives_one c.args.self.now c.args.now c.args.from c.args.datagram.now stray c.take_other.new.self
    (sym c.is_server.ensures ∙ c.if-not-is_server.false) (sym c.judged.ensures ∙ ap judged_of c.in-Stray.is) refl (c.take_other.ensures.state c.args.from)

pub returns-in-None-take_other-clause-state : goal.returns-in-None-take_other-clause-state
returns-in-None-take_other-clause-state c =
    receives_one c.args.self.now c.args.now c.args.from c.args.datagram.now stray c.take_other.new.self
    (sym c.is_server.ensures ∙ c.if-not-is_server.false) (sym c.judged.ensures ∙ ap judged_of c.in-Stray.is) refl (c.take_other.ensures.state c.args.from)
