use Rattle.turn_slots.specs.Users.{user_number}
use Rattle.turn_allocations.specs.Setups.{rules_of, setup_of}
use Rattle.turn_allocations.proofs.GrantingLemmas.{not_owner, mine_by, bind_owner, bind_refused, bind_serves}
use Rattle.turn_allocations.proofs.binding.bind.Goals as goal

pub returns-in-Some-clause-serves : goal.returns-in-Some-clause-serves
returns-in-Some-clause-serves g c = λ tuple ended owns.
    bind_owner (setup_of c.args.limits.now g.row.P g.row.C) (rules_of (g.A.PeerPolicy.allows_address c.args.policy.now) (g.A.PeerPolicy.allows_port c.args.policy.now)) c.args.relays.now tuple (user_number c.args.user)
    c.owner_fault.result (λ others. c.owner_fault.ensures c.args.relays.now tuple others owns) ended
    c.args.number c.args.peer c.in-Some.refusal c.in-Some.is

pub returns-in-Some-bind_fault-clause-serves : goal.returns-in-Some-bind_fault-clause-serves
returns-in-Some-bind_fault-clause-serves g c = λ tuple ended owns.
    let setup = setup_of c.args.limits.now g.row.P g.row.C in
    let rules = rules_of (g.A.PeerPolicy.allows_address c.args.policy.now) (g.A.PeerPolicy.allows_port c.args.policy.now) in
    let user = user_number c.args.user in
    let t = c.args.relays.now in
    let mine = mine_by setup rules t tuple user c.owner_fault.result (λ others. c.owner_fault.ensures t tuple others owns) ended c.in_default.is in
    bind_refused setup rules t tuple user c.owner_fault.result (λ others. c.owner_fault.ensures t tuple others owns) ended
    c.args.number c.args.peer c.in_default.is
    c.bind_fault.result (c.bind_fault.ensures.rows tuple user owns mine) c.in-Some-bind_fault.refusal c.in-Some-bind_fault.is

pub returns-clause-serves : goal.returns-clause-serves
returns-clause-serves g c = λ tuple ended owns.
    let setup = setup_of c.args.limits.now g.row.P g.row.C in
    let rules = rules_of (g.A.PeerPolicy.allows_address c.args.policy.now) (g.A.PeerPolicy.allows_port c.args.policy.now) in
    let user = user_number c.args.user in
    let t = c.args.relays.now in
    let own = not_owner setup rules t tuple user c.owner_fault.result (λ others. c.owner_fault.ensures t tuple others owns) ended c.in_default.is in
    let mine = mine_by setup rules t tuple user c.owner_fault.result (λ others. c.owner_fault.ensures t tuple others owns) ended c.in_default.is in
    bind_serves c.list_follows_slots.ensures c.lists_have_slots.ensures setup rules t tuple user c.args.client.now owns own
    c.args.number c.args.peer c.of_family-place.result (c.of_family-place.ensures.found t tuple owns)
    c.bound_for.result (c.bound_for.ensures g.row.P g.row.C)
    c.bind_fault.result c.in_default-bind_fault.is (c.bind_fault.ensures.rows tuple user owns mine)
    c.bind_in.new.relays c.bind_in.ensures.binds ended

pub returns-clause-sound : goal.returns-clause-sound
returns-clause-sound g c = c.bind_in.ensures.sound c.requires.sound
