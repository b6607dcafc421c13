use Rattle.std.proofs.Common.{◌∙◌, sym}
use Rattle.turn_slots.specs.Users.{user_number}
use Rattle.turn_relays.specs.Relayed.{state_of}
use Rattle.turn_allocations.specs.Requests.{has_numbers, wants_of}
use Rattle.turn_allocations.specs.Setups.{setup_of}
use Rattle.turn_allocations.proofs.AllocatingLemmas.{serves_refused}
use Rattle.turn_allocations.proofs.allocating.allocate.Goals as goal

pub returns-in-Some-clause-serves : goal.returns-in-Some-clause-serves
returns-in-Some-clause-serves g c rules ended owns =
    let t = c.args.relays.now in
    let tuple = c.args.asking.now.tuple in
    serves_refused (setup_of c.args.limits.now g.row.P g.row.C) rules tuple (user_number c.args.asking.now.user) c.args.asking.now.id c.args.lifetime
    (wants_of (has_numbers (state_of t)) (record { ipv4 = 0; ipv6 = 0 }) c.args.wants.now) t ended c.in-Some.refusal
    (sym (c.is_opened_by.ensures t tuple owns) ∙ c.if-is_opened_by.false)
    (sym (c.in-Some.ensures.rows tuple (record { ipv4 = 0; ipv6 = 0 }) owns))
