use Rattle.std.proofs.Common.{ℕ, Option, sym, ap, ◌∙◌}
use Rattle.std.specs.Option.{option_map_or}
use Rattle.std.specs.Prelude.{option_and_then}
use Rattle.stun_endpoints.specs.declared.endpoints.Endpoint.{Endpoint}
use Rattle.turn_machine.specs.Flows.{flow_on}
use Rattle.turn_allocations.specs.Clients.{in_place}
use Rattle.turn_allocations.proofs.RelayingLemmas.{newest_flow}
use Rattle.turn_allocations.proofs.relaying.flow_of.Goals as goal

pub returns-in-Some : goal.returns-in-Some
returns-in-Some g c = λ tuple owns.
    let t = c.args.relays.now in
    let places = c.newest_first.result in
    let newest = c.newest_first.ensures t tuple owns in
    let first = option_and_then (flow_on t.clock c.args.channel) (in_place t places.0.now) in
    let second = option_and_then (flow_on t.clock c.args.channel) (in_place t places.1.now) in
    sym (newest_flow t.clock c.args.channel tuple t places.0.now places.1.now newest
    ∙ (ap (λ (o : Option (ℕ × Endpoint)). option_map_or (λ _. first) o second) (sym (c.in-Some.ensures (in_place t places.0.now) newest.first))
    ∙ sym (c.flow_in.ensures (in_place t places.0.now) newest.first)))

pub returns-in-None : goal.returns-in-None
returns-in-None g c = λ tuple owns.
    let t = c.args.relays.now in
    let places = c.newest_first.result in
    let newest = c.newest_first.ensures t tuple owns in
    let first = option_and_then (flow_on t.clock c.args.channel) (in_place t places.0.now) in
    let second = option_and_then (flow_on t.clock c.args.channel) (in_place t places.1.now) in
    sym (newest_flow t.clock c.args.channel tuple t places.0.now places.1.now newest
    ∙ (ap (λ (o : Option (ℕ × Endpoint)). option_map_or (λ _. first) o second) (sym (c.in-None.ensures (in_place t places.0.now) newest.first))
    ∙ sym (c.flow_in-in-None.ensures (in_place t places.1.now) newest.second)))
