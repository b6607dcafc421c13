-- Allocate requests (RFC 8656, section 7.2): what their bytes alone refuse, and what they ask for.
use Rattle.std.specs.Prelude.{ℕ, Bool, false, not, ◌&&◌, ◌||◌, List, Option, None, Some, is_some, unwrap_or, nat_le, ◌==◌, if◌then◌else◌}
use Rattle.std.specs.Option.{option_map, option_map_or, option_or}
use Rattle.stun_grammar.specs.Headers.{id_field}
use Rattle.turn_attrs.specs.Turn.{LIFETIME, REQUESTED_ADDRESS_FAMILY, EVEN_PORT, REQUESTED_TRANSPORT, RESERVATION_TOKEN, ADDITIONAL_ADDRESS_FAMILY}
use Rattle.stun_endpoints.specs.declared.endpoints.Ip.{Ip}
use Rattle.stun_endpoints.specs.declared.endpoints.Endpoint.{Endpoint}
use Rattle.turn_peers.specs.Tunnels.{is_tunnelled}
use Rattle.turn_machine.specs.Events.{unfit_allocate}
use Rattle.turn_allocations.specs.declared.families.Families.{Families}
use Rattle.turn_allocations.specs.declared.request.Want.{Want}
use Rattle.turn_allocations.specs.declared.request.Want.TheVariants.{No, Unready, Ready as IsReady}
use Rattle.turn_reservations.specs.declared.requests.Family.{Family}
use Rattle.turn_reservations.specs.declared.requests.Family.TheVariants.{Ipv4, Ipv6}
use Rattle.turn_reservations.specs.declared.requests.Reserve.{Reserve}
use Rattle.turn_server.specs.declared.sockets.Ready.{Ready}
use Rattle.turn_server.specs.declared.sockets.Sockets.{Sockets}
use Rattle.turn_server.specs.declared.allocate.Options.{Options}
use Rattle.turn_server.specs.Wanted.{Wanted, opening, reserving, claiming, other}
use Rattle.turn_server.specs.Values.{malformed, number_in, byte_in}

-- the protocol between the server and the peers
abbrev pub UDP : ℕ
UDP = 17

-- ---- The third check: REQUESTED-TRANSPORT is there, and is UDP

abbrev pub transport_fault : List ℕ → Option ℕ
transport_fault d =
    if malformed 4 REQUESTED_TRANSPORT d then Some 400 else
    option_map_or (λ protocol. if protocol == UDP then None else Some 442)
    (byte_in REQUESTED_TRANSPORT d) (Some 400)

-- ---- The attributes that may be there

abbrev pub has_malformed : List ℕ → Bool
has_malformed d =
    malformed 4 LIFETIME d || (malformed 4 REQUESTED_ADDRESS_FAMILY d || (malformed 1 EVEN_PORT d
    || (malformed 8 RESERVATION_TOKEN d || malformed 4 ADDITIONAL_ADDRESS_FAMILY d)))

-- LIFETIME in seconds; both families, 1 or 2; whether an even port is wished, and with the bit R the next
-- one too; and the token of a reservation
abbrev pub options_of : List ℕ → Options
options_of d = record {
  lifetime = number_in LIFETIME d;
  family = byte_in REQUESTED_ADDRESS_FAMILY d;
  even = option_map (λ byte. nat_le 128 byte) (byte_in EVEN_PORT d);
  token = number_in RESERVATION_TOKEN d;
  additional = byte_in ADDITIONAL_ADDRESS_FAMILY d;
}

-- they don't go together: a token with any other wish, two wishes of a family, two ports with two
-- families; or the additional family isn't that of IPv6 (checks 5, 6, 8 and 9)
abbrev pub conflict : Options → Bool
conflict options =
    (is_some options.token
    && (is_some options.even || (is_some options.family || is_some options.additional)))
    || ((is_some options.family && is_some options.additional)
    || ((unwrap_or options.even false && is_some options.additional)
    || not (unwrap_or options.additional 2 == 2)))

-- by the first row that applies: the wishes don't go together, or the family is neither IPv4 nor IPv6 (check 7)
abbrev pub options_fault : Options → Option ℕ
options_fault options =
    if conflict options then Some 400 else (
    if (unwrap_or options.family 1 == 1) || (unwrap_or options.family 1 == 2) then None else Some 440)

-- ---- The sockets (checks 7, 8 and 9)

-- the one that is wished, of any port or of an even one
abbrev pub chosen : (even : Option Bool) → Ready → Option Endpoint
chosen None ready = ready.any
chosen (Some both) ready = ready.even

abbrev pub ready_for : (even : Option Bool) → Ready → Want
ready_for even ready = option_map_or (λ address. IsReady address) (chosen even ready) Unready

-- the family that the request names, or both with ADDITIONAL-ADDRESS-FAMILY; without either IPv4
abbrev pub is_wanted : Options → (family : ℕ) → Bool
is_wanted options family = is_some options.additional || (unwrap_or options.family 1 == family)

abbrev pub want_of : Options → Ready → (family : ℕ) → Want
want_of options ready family = if is_wanted options family then ready_for options.even ready else No

abbrev pub wants_for : Sockets → Options → Families Want
wants_for sockets options =
    record { ipv4 = want_of options sockets.ipv4 1; ipv6 = want_of options sockets.ipv6 2 }

-- with R, the pair of the family that the request names (check 8)
abbrev pub family_of : Options → Family
family_of options = if unwrap_or options.family 1 == 2 then Ipv6 else Ipv4

abbrev pub ready_in : Family → Sockets → Ready
ready_in Ipv4 sockets = sockets.ipv4
ready_in Ipv6 sockets = sockets.ipv6

abbrev pub reserve_for : Sockets → (id : ℕ) → Options → Reserve
reserve_for sockets id options =
    let pair = (ready_in (family_of options) sockets).pair in record {
      id = id;
      lifetime = options.lifetime;
      family = family_of options;
      address = option_map (λ p. p.even) pair;
      next = option_map (λ p. p.next) pair;
      token = sockets.token;
    }

-- ---- The request

-- what the wishes ask for: the socket with a token, a pair of sockets, or others
abbrev pub wanted_for : Sockets → (id : ℕ) → Options → Wanted
wanted_for sockets id options =
    option_map_or (λ token. claiming (record { id = id; lifetime = options.lifetime; token = token }))
    options.token (
    if unwrap_or options.even false then reserving (reserve_for sockets id options)
    else opening id options.lifetime (wants_for sockets options))

-- why its bytes alone refuse it, by the first row that applies
abbrev pub bytes_fault : List ℕ → Option ℕ
bytes_fault d =
    option_or (transport_fault d)
    (if has_malformed d then Some 400 else options_fault (options_of d))

-- a client that comes by a tunnel is refused: what is relayed for it could go round for ever (section
-- 21.4)
abbrev pub allocate_fault : (client : Ip) → List ℕ → Option ℕ
allocate_fault client d = if is_tunnelled client then Some 403 else bytes_fault d

abbrev pub allocate_of : (client : Ip) → Sockets → List ℕ → Wanted
allocate_of client sockets d =
    option_map_or (λ code. other (unfit_allocate code)) (allocate_fault client d)
    (wanted_for sockets (id_field d) (options_of d))
