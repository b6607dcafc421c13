use Rattle.turn_allocations.proofs.GrantingLemmas.{lacks_owned, both_room}
use Rattle.turn_allocations.proofs.permitting.lacks_permissions.Goals as goal

pub returns-clause-row : goal.returns-clause-row
returns-clause-row g c = λ setup tuple user most owns mine. rw (c.lacks_permissions_in.ensures, c.lacks_permissions_in-2.ensures)
    (lacks_owned setup c.args.relays.now tuple user c.args.client.now owns mine c.args.peers.now g.row.P most)

pub returns-clause-room : goal.returns-clause-room
returns-clause-room g c = both_room g.row.P c.args.peers.now c.args.relays.now c.args.client.now c.lacks_permissions_in.result c.lacks_permissions_in-2.result c.lacks_permissions_in.ensures c.lacks_permissions_in-2.ensures
