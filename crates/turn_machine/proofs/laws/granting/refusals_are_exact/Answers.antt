use Rattle.turn_machine.proofs.RefusalsLemmas.{allocate_refusals, unfit_refusals, room_by_live, channel_room_by_live, few_peers, many_peers}
use Rattle.turn_machine.proofs.RefusalsLemmas.{bind_refusals}
use Rattle.turn_machine.proofs.RefusalsLemmas.{permit_refusals}
use Rattle.turn_machine.proofs.RefusalsLemmas.{refresh_refusals}
use Rattle.turn_machine.proofs.laws.granting.refusals_are_exact.Goals as goal

pub returns-clause-allocates : goal.returns-clause-allocates
returns-clause-allocates c = allocate_refusals

pub returns-clause-refreshes : goal.returns-clause-refreshes
returns-clause-refreshes c = refresh_refusals

pub returns-clause-permits : goal.returns-clause-permits
returns-clause-permits c = permit_refusals

pub returns-clause-binds : goal.returns-clause-binds
returns-clause-binds c = bind_refusals

pub returns-clause-unfit : goal.returns-clause-unfit
returns-clause-unfit c = unfit_refusals

pub returns-clause-room : goal.returns-clause-room
returns-clause-room c = room_by_live

pub returns-clause-channel_room : goal.returns-clause-channel_room
returns-clause-channel_room c = channel_room_by_live

pub returns-clause-few_peers : goal.returns-clause-few_peers
returns-clause-few_peers c = few_peers

pub returns-clause-many_peers : goal.returns-clause-many_peers
returns-clause-many_peers c = many_peers
