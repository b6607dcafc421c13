use Rattle.std.proofs.Common.{ap, sym, ◌∙◌}
use Rattle.turn_client_state.proofs.WaysLemmas.{way_of_none, way_of_some, way_on}
use Rattle.turn_client_state.proofs.peers.way_to.Goals as goal

pub returns-in-None : goal.returns-in-None
returns-in-None c =
    way_of_none c.args.clock c.args.address c.args.peers.now (sym c.newer_than_permitted.ensures ∙ c.in-None.is)

pub returns-in-Some-channel_to : goal.returns-in-Some-channel_to
returns-in-Some-channel_to c =
    ap way_on (sym c.in-Some-channel_to.is) ∙ way_of_some c.args.clock c.args.address c.args.peers.now c.in-Some.newer c.channel_to.result (sym c.newer_than_permitted.ensures ∙ c.in-Some.is) c.channel_to.ensures

pub returns-in-None-channel_to : goal.returns-in-None-channel_to
returns-in-None-channel_to c =
    ap way_on (sym c.in-None-channel_to.is) ∙ way_of_some c.args.clock c.args.address c.args.peers.now c.in-Some.newer c.channel_to.result (sym c.newer_than_permitted.ensures ∙ c.in-Some.is) c.channel_to.ensures
