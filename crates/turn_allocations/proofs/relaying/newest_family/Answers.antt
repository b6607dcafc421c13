use Rattle.std.proofs.Common.{ℕ, Option, sym, ap, ◌∙◌}
use Rattle.std.specs.Option.{option_or}
use Rattle.std.specs.Prelude.{option_and_then}
use Rattle.turn_allocations.specs.Clients.{in_place}
use Rattle.turn_allocations.specs.Outputs.{live_family}
use Rattle.turn_allocations.proofs.RelayingLemmas.{newest_live}
use Rattle.turn_allocations.proofs.relaying.newest_family.Goals as goal

pub returns-in-Some : goal.returns-in-Some
returns-in-Some c = λ t tuple owns.
    let places = c.newest_first.result in
    let newest = c.newest_first.ensures t tuple owns in
    let second = option_and_then (live_family c.args.now) (in_place t places.1.now) in
    sym (newest_live c.args.now tuple t places.0.now places.1.now newest
    ∙ ap (λ (o : Option ℕ). option_or o second) (sym (c.in-Some.ensures t (in_place t places.0.now) newest.first)))

pub returns-in-None : goal.returns-in-None
returns-in-None c = λ t tuple owns.
    let places = c.newest_first.result in
    let newest = c.newest_first.ensures t tuple owns in
    let second = option_and_then (live_family c.args.now) (in_place t places.1.now) in
    sym (newest_live c.args.now tuple t places.0.now places.1.now newest
    ∙ (ap (λ (o : Option ℕ). option_or o second) (sym (c.in-None.ensures t (in_place t places.0.now) newest.first))
    ∙ sym (c.live_family-in-None.ensures t (in_place t places.1.now) newest.second)))
