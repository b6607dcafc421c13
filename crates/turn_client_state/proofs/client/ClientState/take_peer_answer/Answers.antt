use Rattle.std.proofs.Common.{◌≡◌, Some, ◌∙◌, sym, ap, subst}
use Rattle.turn_client_machine.specs.Clients.{State}
use Rattle.turn_client_machine.specs.declared.requests.Answer.{Answer}
use Rattle.turn_client_machine.specs.Responses.{with_peers, challenged, violated_by, answered_peer}
use Rattle.turn_client_state.specs.declared.settings.Settings.{Settings}
use Rattle.turn_client_state.specs.States.{setup_of, Held}
use Rattle.turn_client_state.proofs.client.ClientState.take_peer_answer.Goals as goal

pub returns-in-Challenged : goal.returns-in-Challenged
returns-in-Challenged c =
    let i = c.self-in-Challenged.inside in
    let state : State = record {
      clock = i.clock;
      phase = i.phase;
      challenge = i.challenge;
      task = i.task;
      violated = i.violated;
      relayed = i.relayed;
      mapped = i.mapped;
      expires_at = i.expires_at;
      peers = i.peers.list;
    } in
    let after : Held = record {
      settings = i.settings;
      state = with_peers c.args.id (challenged (setup_of i.settings) i.challenge i.clock c.in-Challenged.code) (record state { challenge = Some c.in-Challenged.challenge });
    } in
    c.change_peers-in-Challenged.ensures
    ∙ subst (λ (z : Held). after ≡ record { settings = z.settings; state = answered_peer (setup_of z.settings) c.args.id c.args.authentic c.args.answer z.state }) c.self-in-Challenged.view_is
    (ap (λ (a : Answer). let z : Held = record { settings = i.settings; state = answered_peer (setup_of i.settings) c.args.id c.args.authentic a state } in z) (sym c.in-Challenged.is))

pub returns-in-Violated : goal.returns-in-Violated
returns-in-Violated c =
    let now = c.args.self.now in
    let same : c.self-in-Violated.inside.settings ≡ now.settings = ap (λ (z : Held). z.settings) c.self-in-Violated.view_is in
    c.change_peers-in-Violated.ensures
    ∙ (ap (λ (s : Settings). let z : Held = record { settings = now.settings; state = with_peers c.args.id (violated_by (setup_of s)) now.state } in z) same
    ∙ ap (λ (a : Answer). let z : Held = record { settings = now.settings; state = answered_peer (setup_of now.settings) c.args.id c.args.authentic a now.state } in z) (sym c.in-Violated.is))
