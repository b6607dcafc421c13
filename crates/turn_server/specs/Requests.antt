-- What a request of each method asks the allocations for (RFC 8656, sections 7.2, 8.2, 10.2 and 12.2). What
-- its bytes alone refuse is unfit: the server looks first whose allocation it is.
use Rattle.std.specs.Prelude.{ℕ, Bool, ◌||◌, List, take, Option, None, Some, length, option_and_then, ◌==◌, if◌then◌else◌}
use Rattle.std.specs.Option.{option_map_or}
use Rattle.stun_grammar.specs.Numbers.{number}
use Rattle.stun_authentication.specs.Identities.{value_of}
use Rattle.turn_attrs.specs.Turn.{CHANNEL_NUMBER, LIFETIME, REQUESTED_ADDRESS_FAMILY}
use Rattle.turn_machine.specs.Events.{Request, refresh, permit_request, bind, unfit}
use Rattle.stun_endpoints.specs.declared.endpoints.Ip.{Ip}
use Rattle.turn_server.specs.declared.sockets.Sockets.{Sockets}
use Rattle.turn_server.specs.Addresses.{peer_of}
use Rattle.turn_server.specs.Allocating.{allocate_of}
use Rattle.turn_server.specs.Peers.{names_peers, peers_of}
use Rattle.turn_server.specs.Wanted.{Wanted, other}
use Rattle.turn_server.specs.Values.{malformed, number_in, byte_in}

-- ---- The methods

abbrev pub ALLOCATE : ℕ
ALLOCATE = 0x003

abbrev pub REFRESH : ℕ
REFRESH = 0x004

abbrev pub CREATE_PERMISSION : ℕ
CREATE_PERMISSION = 0x008

abbrev pub CHANNEL_BIND : ℕ
CHANNEL_BIND = 0x009

-- ---- What they ask for

abbrev pub refresh_of : List ℕ → Request
refresh_of d =
    if malformed 4 REQUESTED_ADDRESS_FAMILY d || malformed 4 LIFETIME d then unfit 400
    else refresh (byte_in REQUESTED_ADDRESS_FAMILY d) (number_in LIFETIME d)

abbrev pub permit_of : List ℕ → Request
permit_of d = if names_peers d then permit_request (peers_of d) else unfit 400

-- the number in a CHANNEL-NUMBER is the high half of four bytes (section 18.1); whether it may be a
-- channel's the table decides
abbrev pub channel_in : List ℕ → Option ℕ
channel_in value = if length value == 4 then Some (number (take 2 value)) else None

abbrev pub channel_of : List ℕ → Option ℕ
channel_of d = option_and_then channel_in (value_of d CHANNEL_NUMBER)

abbrev pub bind_of : List ℕ → Request
bind_of d =
    option_map_or (λ channel. option_map_or (bind channel) (peer_of d) (unfit 400)) (channel_of d)
    (unfit 400)

-- of a method that is one of these
abbrev pub asks_table : (method : ℕ) → Bool
asks_table method =
    (method == ALLOCATE)
    || ((method == REFRESH) || ((method == CREATE_PERMISSION) || (method == CHANNEL_BIND)))

-- a method other than CreatePermission
abbrev pub any_but_permit : (client : Ip) → Sockets → (method : ℕ) → List ℕ → Wanted
any_but_permit client sockets method d =
    if method == ALLOCATE then allocate_of client sockets d
    else (if method == REFRESH then other (refresh_of d) else other (bind_of d))

abbrev pub request_of : (client : Ip) → Sockets → (method : ℕ) → List ℕ → Wanted
request_of client sockets method d =
    if method == CREATE_PERMISSION then other (permit_of d)
    else any_but_permit client sockets method d
