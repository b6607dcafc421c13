use Rattle.turn_requests.proofs.adding.add_content.Goals as goal

pub returns-in-Allocate : goal.returns-in-Allocate
returns-in-Allocate g c = rw c.in-Allocate.is c.add_allocation.ensures

pub returns-in-Refresh : goal.returns-in-Refresh
returns-in-Refresh g c = rw c.in-Refresh.is c.add_lifetime.ensures

pub returns-in-CreatePermission : goal.returns-in-CreatePermission
returns-in-CreatePermission g c = rw c.in-CreatePermission.is c.add_peers.ensures

pub returns-in-ChannelBind : goal.returns-in-ChannelBind
returns-in-ChannelBind g c = rw c.in-ChannelBind.is c.add_binding.ensures
