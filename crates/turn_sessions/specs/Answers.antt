-- What a server's answers say to a client (RFC 8656, sections 7.3, 8.3, 10.3 and 12.3).
use Rattle.std.specs.Prelude.{◌≡◌, ◌⊎◌, ℕ, ◌^◌, ◌<◌, List, [], ◌∷◌}
use Rattle.stun_grammar.specs.Headers.{id_field, type_field}
use Rattle.stun_base.specs.MessageTypes.{method_of}
use Rattle.stun_endpoints.specs.declared.endpoints.Endpoint.{Endpoint}
use Rattle.turn_client_machine.specs.declared.requests.Answer.{Answer as Heard}
use Rattle.turn_client_machine.specs.declared.requests.Answer.TheVariants.{Opened, Extended, Done, Refused}
use Rattle.turn_client_machine.specs.declared.requests.Kind.{Kind}
use Rattle.turn_client_machine.specs.declared.requests.Kind.TheVariants.{Allocate, Refresh, Delete, Permit, Bind}
use Rattle.turn_client_messages.specs.Requests.{id_of, method_for}
use Rattle.turn_client_messages.specs.Views.{Asked}
use Rattle.turn_machine.specs.Events.{Answer, Given, Missing, allocated, done, refreshed, refused}
use Rattle.turn_sessions.specs.Sides.{IsTransport}

-- d has the method and the transaction ID of this request
pub record IsOf (r : Asked) (d : List ℕ) : Type 0 where
  pub method_is : method_of (type_field d) ≡ method_for r.request.kind
  pub id_is : id_field d ≡ id_of r.request

-- one relayed address, of IPv4 or IPv6, for so many seconds
pub record IsOpening (given : List Given) (lifetime : ℕ) (missing : List Missing) : Type 0 where
  pub one : Given
  pub given_is : given ≡ one ∷ []
  pub of_family : (one.family ≡ 1) ⊎ (one.family ≡ 2)
  pub address : IsTransport one.address
  pub seconds : lifetime < 2 ^ 32
  pub none_missing : missing ≡ []

-- a success to a request of this kind
abbrev pub IsSuccess : Kind → Answer → Type 0
IsSuccess Allocate (allocated given lifetime missing) = IsOpening given lifetime missing
IsSuccess Refresh (refreshed lifetime) = lifetime < 2 ^ 32
IsSuccess Delete (refreshed lifetime) = lifetime < 2 ^ 32
IsSuccess (Permit peer) done = Unit {0}
IsSuccess (Bind channel peer) done = Unit {0}
IsSuccess _ _ = ⊥

-- to this client: the relayed address, and its own as the server sees it; the lifetime; or neither
abbrev pub says : (client : Endpoint) → Answer → Heard
says client (allocated [] lifetime missing) = Refused 0
says client (allocated (one ∷ given) lifetime missing) = Opened one.address client lifetime
says client (refreshed lifetime) = Extended lifetime
says client done = Done
says client (refused code) = Refused code
