use Rattle.std.proofs.Common.{sym}
use Rattle.std.specs.List.{list_any}
use Rattle.turn_machine.specs.Rows.{clashes}
use Rattle.turn_allocations.proofs.GrantingLemmas.{any_of}
use Rattle.turn_allocations.proofs.binding.clashes.Goals as goal

pub returns : goal.returns
returns g c = λ tuple owns. rw (c.clashes_in.ensures, c.clashes_in-2.ensures)
    (sym (any_of c.args.relays.now tuple c.args.client.now owns (λ r. list_any (clashes c.args.relays.now.clock c.args.number c.args.peer) r.channels)))
