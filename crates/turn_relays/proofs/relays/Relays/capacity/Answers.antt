use Rattle.std.proofs.Common.{◌∙◌, sym}
use Rattle.turn_relays.proofs.SlotsLemmas.{relays_size}
use Rattle.turn_relays.proofs.relays.Relays.capacity.Goals as goal

pub returns : goal.returns
returns g c = rw (← c.self.view_is) (c.capacity.ensures ∙ sym (relays_size c.self.inside.slots.entries c.self.inside.kept.items))
