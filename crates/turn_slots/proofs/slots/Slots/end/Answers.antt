use Rattle.std.proofs.Common.{◌≡◌, ℕ, None, length, set, inl, inr, sym, ap, refl, ◌∙◌, subst, arith}
use Rattle.turn_slots.specs.declared.slots.Slots.TheInside.{Inside}
use Rattle.turn_slots.specs.Deadlines.{never}
use Rattle.turn_slots.specs.Tables.{IsTable}
use Rattle.turn_slots.specs.Groups.{Partition}
use Rattle.turn_slots.proofs.ChangesLemmas.{found_at, key_of, user_of, place_low, ended_table}
use Rattle.turn_slots.proofs.slots.Slots.end.Goals as goal
use Rattle.turn_slots.proofs.slots.Slots.end.Goals.{then-count-eq0, else-count-eq0}

pub remove-requires : goal.remove-requires
remove-requires c = key_of c.self.inside.round c.self.inside.entries.items c.self.inside.keys.1 c.self.inside.users.1 c.self.inside.holders c.self.inside.deadlines c.self.invariant.table c.args.slot c.in-Some-Some.entry (found_at c.self.inside.entries.items c.deref.result.now c.args.slot c.in-Some-Some.field-0.now c.in-Some-Some.entry c.deref.ensures.value (c.in-Some-Some.ensures.lookup).0 (c.in-Some-Some.ensures.lookup).1 c.in-Some-Some.field-0-is)

pub move_to-requires-clause-other : goal.move_to-requires-clause-other
move_to-requires-clause-other c = λ e.
    let low = place_low c.self.inside.round c.self.inside.entries.items c.self.inside.keys.1 c.self.inside.users.1 c.self.inside.holders c.self.inside.deadlines c.self.invariant.table c.args.slot c.in-Some-Some.entry (found_at c.self.inside.entries.items c.deref.result.now c.args.slot c.in-Some-Some.field-0.now c.in-Some-Some.entry c.deref.ensures.value (c.in-Some-Some.ensures.lookup).0 (c.in-Some-Some.ensures.lookup).1 c.in-Some-Some.field-0-is) in
    let ok = c.self.inside.entries.ok in
    absurd (omega (arith, low, ok, e, c.len.ensures))

pub count-requires : goal.count-requires
count-requires c =
    let low = place_low c.self.inside.round c.self.inside.entries.items c.self.inside.keys.1 c.self.inside.users.1 c.self.inside.holders c.self.inside.deadlines c.self.invariant.table c.args.slot c.in-Some-Some.entry (found_at c.self.inside.entries.items c.deref.result.now c.args.slot c.in-Some-Some.field-0.now c.in-Some-Some.entry c.deref.ensures.value (c.in-Some-Some.ensures.lookup).0 (c.in-Some-Some.ensures.lookup).1 c.in-Some-Some.field-0-is) in
    let groups = c.self.invariant.table.users_are.groups in
    let kept = ap (λ (z : Partition). z.groups) c.move_to.ensures in
    omega (arith, low, groups, kept, c.group_of-holder.ensures)

pub remove-requires-then-count-eq0 : goal.remove-requires-then-count-eq0
remove-requires-then-count-eq0 c = user_of c.self.inside.round c.self.inside.entries.items c.self.inside.keys.1 c.self.inside.users.1 c.self.inside.holders c.self.inside.deadlines c.self.invariant.table c.args.slot c.in-Some-Some.entry (found_at c.self.inside.entries.items c.deref.result.now c.args.slot c.in-Some-Some.field-0.now c.in-Some-Some.entry c.deref.ensures.value (c.in-Some-Some.ensures.lookup).0 (c.in-Some-Some.ensures.lookup).1 c.in-Some-Some.field-0-is) c.group_of-holder.result c.group_of-holder.ensures

-- the fields after the two ends of the test
abbrev Closed : goal.After-self-1 → Inside → Type 0
Closed c f = c.set.new.self ≡ set f.deadlines c.args.slot never
    → record { table : IsTable f.round (set f.entries.items c.args.slot None) f.keys.1 f.users.1 f.holders c.set.new.self; secret : f.users.0 ≡ f.keys.0 }

pub invariant_of-self : goal.invariant_of-self
invariant_of-self c =
    let ok = c.self.inside.entries.ok in
    let size : c.len.result ≡ length c.self.inside.entries.items = omega (arith, ok, c.len.ensures) in
    let holders_are = c.move_to.ensures ∙ ap (λ (z : ℕ). record { groups = c.self.inside.holders.groups; group_of = set c.self.inside.holders.group_of c.args.slot z }) size in
    elim c.if-count-eq0.branch [
      | then-count-eq0 w ↦
          subst (Closed c) (sym w.self-inside-is) (λ e. record {
            table = ended_table c.self.inside.round c.self.inside.entries.items c.self.inside.keys.1 c.self.inside.users.1 c.self.inside.holders c.self.inside.deadlines c.self.invariant.table c.args.slot c.in-Some-Some.entry (found_at c.self.inside.entries.items c.deref.result.now c.args.slot c.in-Some-Some.field-0.now c.in-Some-Some.entry c.deref.ensures.value (c.in-Some-Some.ensures.lookup).0 (c.in-Some-Some.ensures.lookup).1 c.in-Some-Some.field-0-is) c.group_of-holder.result c.group_of-holder.ensures c.move_to.new.self holders_are w.remove-then-count-eq0.new.self.1
                (inl (sym c.count.ensures ∙ w.if-count-eq0.true, ap (λ k. k.1) w.remove-then-count-eq0.ensures)) c.remove.new.self.1 (ap (λ k. k.1) c.remove.ensures) c.set.new.self e;
            secret = ap (λ k. k.0) w.remove-then-count-eq0.ensures ∙ (c.self.invariant.secret ∙ sym (ap (λ k. k.0) c.remove.ensures));
          }) c.set.ensures
      | else-count-eq0 w ↦
          subst (Closed c) (sym w.self-inside-is) (λ e. record {
            table = ended_table c.self.inside.round c.self.inside.entries.items c.self.inside.keys.1 c.self.inside.users.1 c.self.inside.holders c.self.inside.deadlines c.self.invariant.table c.args.slot c.in-Some-Some.entry (found_at c.self.inside.entries.items c.deref.result.now c.args.slot c.in-Some-Some.field-0.now c.in-Some-Some.entry c.deref.ensures.value (c.in-Some-Some.ensures.lookup).0 (c.in-Some-Some.ensures.lookup).1 c.in-Some-Some.field-0-is) c.group_of-holder.result c.group_of-holder.ensures c.move_to.new.self holders_are c.self.inside.users.1
                (inr (λ e. w.if-count-eq0.false (c.count.ensures ∙ e), refl)) c.remove.new.self.1 (ap (λ k. k.1) c.remove.ensures) c.set.new.self e;
            secret = c.self.invariant.secret ∙ sym (ap (λ k. k.0) c.remove.ensures);
          }) c.set.ensures
    ]
