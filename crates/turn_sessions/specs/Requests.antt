-- What a client's requests ask a server for (RFC 8656, sections 7.1, 8.1, 10.1 and 12.1).
use Rattle.std.specs.Prelude.{ℕ, Bool, false, true, not, List, ◌∷◌, Option, None, Some, if◌then◌else◌}
use Rattle.std.specs.Option.{option_map}
use Rattle.stun_endpoints.specs.declared.endpoints.Endpoint.{Endpoint}
use Rattle.turn_attrs.specs.Turn.{family_byte}
use Rattle.turn_client_machine.specs.declared.requests.Kind.{Kind}
use Rattle.turn_client_machine.specs.declared.requests.Kind.TheVariants.{Allocate, Refresh, Delete, Permit, Bind}
use Rattle.turn_client_machine.specs.declared.requests.Request.{Request}
use Rattle.turn_client_messages.specs.Views.{Content}
use Rattle.turn_client_messages.specs.Requests.{id_of}
use Rattle.turn_requests.specs.declared.request.RelayedPort.{RelayedPort}
use Rattle.turn_requests.specs.declared.request.RelayedPort.TheVariants.{Any, Even, Reserved}
use Rattle.turn_requests.specs.Requests.{family_beside}
use Rattle.turn_machine.specs.Events.{bind, permit_request, refresh, unfit_allocate}
use Rattle.turn_peers.specs.Tunnels.{is_tunnelled}
use Rattle.turn_allocations.specs.declared.families.Families.{Families}
use Rattle.turn_allocations.specs.declared.request.Want.{Want}
use Rattle.turn_server.specs.declared.sockets.Sockets.{Sockets}
use Rattle.turn_server.specs.Allocating.{wanted_for, wants_for}
use Rattle.turn_server.specs.Judging.{Site}
use Rattle.turn_server.specs.Wanted.{Wanted, other}

-- EVEN-PORT, with the bit R or without it, and the token of a RESERVATION-TOKEN (sections 18.7 and 18.10)
abbrev pub even_in : RelayedPort → Option Bool
even_in Any = None
even_in (Even reserves) = Some reserves
even_in (Reserved token) = None

abbrev pub token_in : RelayedPort → Option ℕ
token_in Any = None
token_in (Even reserves) = None
token_in (Reserved token) = Some token

-- no port is reserved, and none that was reserved is asked for
abbrev pub is_plain : RelayedPort → Bool
is_plain Any = true
is_plain (Even reserves) = not reserves
is_plain (Reserved token) = false

-- What an Allocate request asks for, with the sockets that the server has ready; one with a token names no
-- family (section 7.1)
abbrev pub wanted_of : Sockets → (id : ℕ) → Content → Wanted
wanted_of sockets id content = wanted_for sockets id (record {
  lifetime = content.lifetime;
  family = option_map family_byte (family_beside content.port content.family);
  even = even_in content.port;
  token = token_in content.port;
  additional = None;
})

-- for each family, if the port is plain
abbrev pub wants_of : Sockets → Content → Families Want
wants_of sockets content = wants_for sockets (record {
  lifetime = content.lifetime;
  family = option_map family_byte (family_beside content.port content.family);
  even = even_in content.port;
  token = token_in content.port;
  additional = None;
})

-- An allocation, with the socket that the server has ready for the family and the port, with a pair of them, or
-- with the one that a token reserves, unless the client comes by a tunnel (section 21.4); another lifetime,
-- which is 0 if the allocation is to end; a permission for the peer and for each of the others, of which the
-- server reads 64 at most; or the channel to the peer
abbrev pub wanted_as : Site → Content → (id : ℕ) → (others : List Endpoint) → Kind → Wanted
wanted_as site content id others Allocate =
    if is_tunnelled site.client then other (unfit_allocate 403)
    else wanted_of site.sockets id content
wanted_as site content id others Refresh = other (refresh None content.lifetime)
wanted_as site content id others Delete = other (refresh None (Some 0))
wanted_as site content id others (Permit peer) = other (permit_request (peer ∷ others))
wanted_as site content id others (Bind channel peer) = other (bind channel peer)

abbrev pub wanted_by : Site → Content → (others : List Endpoint) → Request → Wanted
wanted_by site content others request = wanted_as site content (id_of request) others request.kind
