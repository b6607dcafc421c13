use Rattle.std.proofs.Common.{◌≡◌, List, Option, None, Some, get_or, inl, arith, ◌+◌, ◌≤◌, sym, ap, ◌∙◌, subst}
use Rattle.turn_slots.specs.declared.hashing.Secret.{Secret}
use Rattle.turn_slots.specs.Slots.{State}
use Rattle.turn_slots.specs.Numbers.{rounds}
use Rattle.turn_slots.specs.Relays.{RelayKey}
use Rattle.turn_slots.proofs.ChangesLemmas.{full_table, room_for_user, not_there, opened_table}
use Rattle.turn_slots.proofs.slots.Slots.open.Goals as goal

pub returns-in_err-slot-clause-none : goal.returns-in_err-slot-clause-none
returns-in_err-slot-clause-none c =
    let it = c.in_err-slot.ensures.none in
    rw (c.from_residual.ensures, ← c.self.view_is) (inl (full_table c.self.inside.round c.self.inside.entries.items c.self.inside.keys.1 c.self.inside.users.1 c.self.inside.holders c.self.inside.deadlines c.self.invariant.table it.0), ap (λ (k : Secret × List (Option RelayKey)). record { entries = c.self.inside.entries.items; round = c.self.inside.round; secret = k.0 }) it.1)

pub place_of-holder-requires : goal.place_of-holder-requires
place_of-holder-requires c =
    let it = c.in_ok-slot.ensures.some in
    room_for_user c.self.inside.round c.self.inside.entries.items c.self.inside.keys.1 c.self.inside.users.1 c.self.inside.holders c.self.inside.deadlines c.self.invariant.table c.in_ok-slot.slot it.0 it.1 c.args.key

pub move_to-requires-clause-other : goal.move_to-requires-clause-other
move_to-requires-clause-other c =
    let it = c.in_ok-slot.ensures.some in
    not_there c.self.inside.round c.self.inside.entries.items c.self.inside.keys.1 c.self.inside.users.1 c.self.inside.holders c.self.inside.deadlines c.self.invariant.table c.in_ok-slot.slot it.0 it.1 c.args.key c.args.user c.place_of-holder.result c.place_of-holder.new.users.1 c.place_of-holder.ensures.place

pub invariant_of-self-2 : goal.invariant_of-self-2
invariant_of-self-2 c =
    let it = c.in_ok-slot.ensures.some in
    let bounded = c.self.invariant.table.bounded in
    let isnt = c.if-self-eq-ROUNDS.false in
    let more : c.self.inside.round + 1 ≤ rounds = omega (arith, bounded, isnt) in
    record {
      table = opened_table c.self.inside.round c.self.inside.entries.items c.self.inside.keys.1 c.self.inside.users.1 c.self.inside.holders c.self.inside.deadlines c.self.invariant.table c.in_ok-slot.slot it.0 it.1 c.args.key c.args.user c.args.deadline
          (λ j b at. c.requires.key j b (subst (λ (z : State). get_or z.entries j None ≡ Some b) c.self.view_is at)) c.requires.deadline
          c.place_of-holder.result c.place_of-holder.new.users.1 c.place_of-holder.ensures.place c.move_to.new.self c.move_to.ensures c.add.new.self.1 (ap (λ k. k.1) it.2) c.set.new.self c.set.ensures _ more;
      secret = c.place_of-holder.ensures.secret ∙ (c.self.invariant.secret ∙ sym (ap (λ k. k.0) it.2));
    }
