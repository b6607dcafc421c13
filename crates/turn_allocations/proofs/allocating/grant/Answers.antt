use Rattle.std.proofs.Common.{◌≡◌, ◌+◌, ◌*◌, true, arith}
use Rattle.turn_slots.specs.Users.{user_number}
use Rattle.turn_machine.specs.Relays.{seconds}
use Rattle.turn_allocations.specs.Requests.{numbers_in}
use Rattle.turn_allocations.specs.Setups.{setup_of}
use Rattle.turn_allocations.proofs.AllocatingLemmas.{grants_both}
use Rattle.turn_allocations.proofs.allocating.grant.Goals as goal

pub returns-clause-grants : goal.returns-clause-grants
returns-clause-grants g c =
    let until_is : c.clock.result + 1_000_000_000 * c.args.lifetime ≡ c.args.relays.now.clock + seconds c.args.lifetime = omega (arith, c.clock.ensures.clock) in
    let new = c.open-2.new.relays in
    let tuple = c.args.asking.now.tuple in
    let owns = c.client_of-client.ensures in
    grants_both (setup_of c.args.limits.now g.row.P g.row.C) tuple (user_number c.args.asking.now.user) c.args.asking.now.id c.args.lifetime c.args.wants.now
    c.args.relays.now c.open.new.relays new (c.clock.result + 1_000_000_000 * c.args.lifetime) c.answer.result until_is
    c.open.ensures.opens c.open-2.ensures.opens (c.answer.ensures.numbers new tuple owns)
    (c.answer.ensures.answer new tuple g.row.P g.row.C true (numbers_in c.answer.result) owns)
