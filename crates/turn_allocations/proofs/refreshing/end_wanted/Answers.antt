use Rattle.std.proofs.Common.{◌≡◌, ◌++◌, [], ◌∷◌, Option, ap, ◌∙◌, subst}
use Rattle.std.specs.Prelude.{MatchOption}
use Rattle.turn_allocations.specs.declared.client.Place.{Place}
use Rattle.turn_allocations.specs.Clients.{in_place}
use Rattle.turn_allocations.specs.Refreshing.{ended_in}
use Rattle.turn_allocations.proofs.RefreshingLemmas.{wanted_end}
use Rattle.turn_allocations.proofs.refreshing.end_wanted.Goals as goal

pub returns-clause-done : goal.returns-clause-done
returns-clause-done g c = λ tuple user owns mine.
    let t = c.args.relays.now in
    let first = c.end_in.new.relays in
    wanted_end c.list_follows_slots.ensures c.lists_have_slots.ensures t tuple user c.args.client.now owns mine c.requires.sound c.args.family
    c.args.ended.now c.end_in.new.ended c.end_in-2.new.ended first c.end_in-2.new.relays c.requires.room c.numbers_are_distinct.ensures c.numbers_are_distinct-2.ensures
    (c.end_in.ensures.slots ∙ ap (λ (o : Option Place). ended_in o t) c.if_wanted.ensures)
    (subst (λ (o : Option Place). MatchOption (in_place t o) (c.end_in.new.ended ≡ c.args.ended.now) (λ r. c.end_in.new.ended ≡ record c.args.ended.now { numbers = c.args.ended.now.numbers ++ r.number ∷ [] })) c.if_wanted.ensures c.end_in.ensures.ended)
    (c.end_in-2.ensures.slots ∙ ap (λ (o : Option Place). ended_in o first) c.if_wanted-2.ensures)
    (subst (λ (o : Option Place). MatchOption (in_place first o) (c.end_in-2.new.ended ≡ c.end_in.new.ended) (λ r. c.end_in-2.new.ended ≡ record c.end_in.new.ended { numbers = c.end_in.new.ended.numbers ++ r.number ∷ [] })) c.if_wanted-2.ensures c.end_in-2.ensures.ended)
