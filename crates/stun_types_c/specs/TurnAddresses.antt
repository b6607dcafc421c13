-- Where datagrams of TURN come from, and the sockets that C has ready.
use Rattle.std.specs.Prelude.{◌≡◌, ℕ, replicate, Option, None, Some, option_and_then, ◌==◌, if◌then◌else◌}
use Rattle.std.specs.Option.{option_map}
use Rattle.stun_endpoints.specs.declared.endpoints.Endpoint.{Endpoint}
use Rattle.stun_endpoints.specs.declared.endpoints.FiveTuple.{FiveTuple}
use Rattle.stun_endpoints.specs.Conversions.{socket_of}
use Rattle.turn_server.specs.declared.sockets.Pair.{Pair}
use Rattle.turn_server.specs.declared.sockets.Ready.{Ready}
use Rattle.turn_server.specs.declared.sockets.Sockets.{Sockets}
use Rattle.stun_types_c.specs.declared.address.Address.{Address}
use Rattle.stun_types_c.specs.declared.turn_addresses.CFiveTuple.{CFiveTuple}
use Rattle.stun_types_c.specs.declared.turn_addresses.CTurnReady.{CTurnReady}
use Rattle.stun_types_c.specs.Addresses.{endpoint_named, Holds}

-- the protocol between a client and the server: UDP, or TCP for a stream
abbrev pub transport_named : ℕ → Option ℕ
transport_named stream =
    if stream == 0 then Some 17 else (if stream == 1 then Some 6 else None)

abbrev pub tuple_with : (client server : Endpoint) → (transport : ℕ) → FiveTuple
tuple_with client server transport = record { client = client; server = server; transport = transport }

-- the 5-tuple, if C's form names one
abbrev pub tuple_named : CFiveTuple → Option FiveTuple
tuple_named named =
    option_and_then (λ client. option_and_then (λ server. option_map (tuple_with client server)
    (transport_named named.stream)) (endpoint_named named.server)) (endpoint_named named.client)

-- the address of a socket of a family, 4 or 6: family 0 says that there is none, and another one that C
-- made a mistake
abbrev pub ready_named : (family : ℕ) → Address → Option (Option Endpoint)
ready_named family address =
    if address.family == 0 then Some None else (
    if address.family == family then option_map Some (endpoint_named address) else None)

-- the sockets of a request that reserves, if there are both: the one with an even port, and the next
abbrev pub pair_of : (even next : Option Endpoint) → Option Pair
pair_of even next = option_and_then (λ even. option_map (λ next. record { even = even; next = next }) next) even

-- the sockets of a family
abbrev pub family_named : (family : ℕ) → (any even next : Address) → Option Ready
family_named family any even next =
    option_and_then (λ any. option_and_then (λ even. option_map (λ next.
    record { any = any; even = even; pair = pair_of even next })
    (ready_named family next)) (ready_named family even)) (ready_named family any)

-- the sockets, and the token of a reservation
abbrev pub sockets_named : CTurnReady → (token : ℕ) → Option Sockets
sockets_named ready token =
    option_and_then (λ ipv4. option_map (λ ipv6. record { ipv4 = ipv4; ipv6 = ipv6; token = token })
    (family_named 6 ready.any_ipv6 ready.even_ipv6 ready.next_ipv6))
    (family_named 4 ready.any_ipv4 ready.even_ipv4 ready.next_ipv4)

-- C's form holds a 5-tuple
pub record HoldsTuple (tuple : FiveTuple) (held : CFiveTuple) : Type 0 where
  pub client_is : Holds (socket_of tuple.client) held.client
  pub server_is : Holds (socket_of tuple.server) held.server
  pub stream_is : held.stream ≡ (if tuple.transport == 17 then 0 else 1)

-- no address
abbrev pub nowhere : Address
nowhere = record { octets = replicate 16 0; port = 0; family = 0 }
