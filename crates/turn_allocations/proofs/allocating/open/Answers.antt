use Rattle.std.proofs.Common.{◌∙◌, sym, subst}
use Rattle.turn_slots.specs.Users.{user_number}
use Rattle.turn_relays.specs.Relayed.{opened}
use Rattle.turn_allocations.specs.declared.request.Want.{Want}
use Rattle.turn_allocations.specs.Requests.{OpensOf}
use Rattle.turn_allocations.specs.Setups.{setup_of}
use Rattle.turn_allocations.proofs.AllocatingLemmas.{barred_of, opens_it, opened_of, opened_sound}
use Rattle.turn_allocations.proofs.allocating.open.Goals as goal

pub returns-then-not-can_open-clause-opens : goal.returns-then-not-can_open-clause-opens
returns-then-not-can_open-clause-opens g c =
    barred_of (setup_of c.args.limits.now g.row.P g.row.C) c.args.asking.now.tuple (user_number c.args.asking.now.user) c.args.asking.now.id c.args.expires_at
    c.args.family c.args.want c.in-Ready.address c.args.relays.now c.in-Ready.is
    (λ ready. sym (c.can_open.ensures.can ready) ∙ c.if-not-can_open.true)

pub returns-clause-opens : goal.returns-clause-opens
returns-clause-opens g c =
    let setup = setup_of c.args.limits.now g.row.P g.row.C in
    let tuple = c.args.asking.now.tuple in
    let user = user_number c.args.asking.now.user in
    let id = c.args.asking.now.id in
    let it = opens_it c.lists_have_slots.ensures c.args.relays.now c.open.new.self
    (λ n. opened (record { tuple = tuple; family = c.args.family }) user id c.in-Ready.address c.args.expires_at n)
    c.args.limits.now.relays c.open.result c.open.ensures.some c.open.ensures.none
    (c.can_open.ensures.fewer c.if-not-can_open.false) c.requires.slots c.requires.openings in
    subst (λ (w : Want). OpensOf setup tuple user id c.args.expires_at c.args.family w c.args.relays.now c.open.new.self) (sym c.in-Ready.is)
    (opened_of setup tuple user id c.args.expires_at c.list_follows_slots.ensures c.args.family c.in-Ready.address c.args.relays.now c.open.new.self it.0 it.1
    c.numbers_are_below_next.ensures it.2 (λ ready. sym (c.can_open.ensures.can ready) ∙ c.if-not-can_open.false))

pub returns-clause-sound : goal.returns-clause-sound
returns-clause-sound g c =
    let setup = setup_of c.args.limits.now g.row.P g.row.C in
    let tuple = c.args.asking.now.tuple in
    let user = user_number c.args.asking.now.user in
    let id = c.args.asking.now.id in
    let it = opens_it c.lists_have_slots.ensures c.args.relays.now c.open.new.self
    (λ n. opened (record { tuple = tuple; family = c.args.family }) user id c.in-Ready.address c.args.expires_at n)
    c.args.limits.now.relays c.open.result c.open.ensures.some c.open.ensures.none
    (c.can_open.ensures.fewer c.if-not-can_open.false) c.requires.slots c.requires.openings in
    opened_sound setup tuple user id c.args.expires_at c.list_follows_slots.ensures c.args.family c.in-Ready.address c.args.relays.now c.open.new.self it.0 it.1
    c.numbers_are_below_next.ensures it.2 c.requires.sound c.requires.family c.requires.expires_at
