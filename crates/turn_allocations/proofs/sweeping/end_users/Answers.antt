use Rattle.std.proofs.Common.{◌≡◌, ◌++◌, [], ◌∷◌, length, ap, subst, arith, Option}
use Rattle.std.specs.Prelude.{MatchOption}
use Rattle.turn_slots.specs.Users.{user_number}
use Rattle.turn_machine.specs.Relays.{Relay, is_users}
use Rattle.turn_relays.specs.Relayed.{Table}
use Rattle.turn_relays.specs.Following.{listed}
use Rattle.turn_allocations.proofs.SweepingLemmas.{ending_begins, ending_goes_on, ending_ends, fewer}
use Rattle.turn_allocations.proofs.sweeping.end_users.Goals as goal

pub users-init : goal.users-init
users-init g c = (ending_begins (is_users (user_number c.args.user)) c.args.relays.now c.args.ended.now c.requires.room, λ sound. sound)

pub returns-in_default-clause-done : goal.returns-in_default-clause-done
returns-in_default-clause-done g c =
    ending_ends c.list_follows_slots.ensures c.lists_have_slots.ensures (is_users (user_number c.args.user)) c.args.relays.now c.args.ended.now c.users.relays c.users.ended c.users.invariant.0 c.in_default.ensures.none

pub returns-in_default-clause-sound : goal.returns-in_default-clause-sound
returns-in_default-clause-sound g c = c.users.invariant.1

pub end_at-requires : goal.end_at-requires
end_at-requires g c = (omega arith, c.users.invariant.0.room)

pub users-smaller : goal.users-smaller
users-smaller g c =
    let it = c.in-Some.ensures.some in
    let less = fewer c.list_follows_slots.ensures c.lists_have_slots.ensures c.users.relays c.numbers_are_distinct.ensures c.in-Some.slot it.0 it.1 in
    let is = ap (λ (t : Table). length (listed t.slots)) c.end_at.ensures.slots in
    omega (arith, less, is)

pub users-preserved : goal.users-preserved
users-preserved g c =
    let it = c.in-Some.ensures.some in
    let pushed = subst (λ (o : Option Relay). MatchOption o (c.end_at.new.ended ≡ c.users.ended) (λ r. c.end_at.new.ended ≡ record c.users.ended { numbers = c.users.ended.numbers ++ r.number ∷ [] })) it.1 c.end_at.ensures.ended in (
      ending_goes_on c.list_follows_slots.ensures c.lists_have_slots.ensures (is_users (user_number c.args.user)) c.args.relays.now c.args.ended.now c.users.relays c.users.ended c.users.invariant.0 c.numbers_are_distinct.ensures
          c.in-Some.slot it.0 it.1 it.2 c.end_at.new.relays c.end_at.ensures.slots c.end_at.new.ended pushed,
      λ sound. c.end_at.ensures.sound (c.users.invariant.1 sound),
    )
