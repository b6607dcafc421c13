-- What is used and owed if a client is sent to another server.
use Rattle.std.proofs.Common.{◌≡◌, ℕ, List, Option, Some, refl}
use Rattle.stun_endpoints.specs.declared.endpoints.Endpoint.{Endpoint}
use Rattle.turn_machine.specs.Events.{Answer, allocated, refreshed, done, refused}
use Rattle.turn_server.specs.declared.access.Access.{Access}
use Rattle.turn_server.specs.Acting.{none_used, opened_in, used_by}
use Rattle.turn_server.specs.Responses.{alternate_for}

-- no socket
pub nothing_used : (access : Access) (client : Endpoint) (d : List ℕ) (next : ℕ) (claims token : Option ℕ) (answer : Answer) (server : Endpoint) → alternate_for access client d answer ≡ Some server → none_used ≡ used_by claims token (opened_in next answer)
nothing_used access client d next claims token (allocated given lifetime missing) server e = absurd cc
nothing_used access client d next claims token (refreshed lifetime) server e = absurd cc
nothing_used access client d next claims token done server e = absurd cc
nothing_used access client d next claims token (refused code) server e = refl
