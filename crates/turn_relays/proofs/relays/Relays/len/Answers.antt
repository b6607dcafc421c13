use Rattle.std.proofs.Common.{◌∙◌, sym}
use Rattle.turn_relays.proofs.SlotsLemmas.{relays_length}
use Rattle.turn_relays.proofs.relays.Relays.len.Goals as goal

pub returns : goal.returns
returns g c = rw (← c.self.view_is) (c.len.ensures ∙ sym (relays_length c.self.inside.slots.entries c.self.inside.kept.items c.self.invariant.table.beside))
