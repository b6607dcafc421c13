use Rattle.std.proofs.Common.{◌≡◌, List, Option, None, Some, get_or, sym, ap, ◌∙◌}
use Rattle.turn_slots.specs.declared.slots.Entry.{Entry}
use Rattle.turn_relays.specs.Relayed.{Grants}
use Rattle.turn_relays.proofs.SlotsLemmas.{relay_at, relay_missing, joined_is}
use Rattle.turn_relays.proofs.relays.Relays.flow_on.Goals as goal

pub returns-in_err-entry : goal.returns-in_err-entry
returns-in_err-entry g c =
    let free : get_or c.self.inside.slots.entries c.args.slot None ≡ None =
    ap (λ (es : List (Option Entry)). get_or es c.args.slot None) (sym c.entries.ensures) ∙ sym c.in_err-entry.ensures in
    rw (← c.self.view_is) (rw (relay_missing c.self.inside.slots.entries c.self.inside.kept.items c.args.slot free) c.from_residual.ensures)

pub returns : goal.returns
returns g c =
    let e : Entry = c.in_ok-entry.entry in
    let x : Grants = c.in_ok-kept_at.field-0.now in
    let entry : get_or c.self.inside.slots.entries c.args.slot None ≡ Some e =
    ap (λ (es : List (Option Entry)). get_or es c.args.slot None) (sym c.entries.ensures) ∙ sym c.in_ok-entry.ensures in
    let kept : get_or c.self.inside.kept.items c.args.slot None ≡ Some x =
    ap (λ (ks : List (Option Grants)). get_or ks c.args.slot None) (sym c.deref.ensures.value) ∙ sym c.in_ok-kept_at.ensures in
    rw (← c.self.view_is) (rw (relay_at c.self.inside.slots.entries c.self.inside.kept.items c.args.slot, joined_is e x (get_or c.self.inside.slots.entries c.args.slot None) (get_or c.self.inside.kept.items c.args.slot None) entry kept) c.flow_on.ensures)
