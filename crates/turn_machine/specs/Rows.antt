-- Why a request is refused: by the first row that applies (RFC 8656, sections 5, 7.2, 8.2, 10.2 and
-- 12.2). What the bytes alone decide, as 400, 420, 442 and the credentials, was decided before.
use Rattle.std.specs.Prelude.{ℕ, ◌+◌, Bool, true, not, ◌&&◌, ◌||◌, List, [], ◌∷◌, length, filter, Option, None, Some, is_some, nat_lt, ◌==◌, if◌then◌else◌}
use Rattle.std.specs.List.{list_any, list_all}
use Rattle.std.specs.Option.{option_map_or}
use Rattle.stun_endpoints.specs.declared.endpoints.Ip.{Ip}
use Rattle.stun_endpoints.specs.declared.endpoints.Endpoint.{Endpoint}
use Rattle.stun_endpoints.specs.declared.endpoints.FiveTuple.{FiveTuple}
use Rattle.stun_endpoints.specs.Endpoints.{is_ip, is_endpoint}
use Rattle.turn_machine.specs.Relays.{seconds, Permission, Channel, Relay, Setup, Rules, State, is_of, is_users, is_owned, has_room, has_quota}
use Rattle.turn_machine.specs.Events.{Want, Request, allocate, unfit_allocate, refresh, permit, bind, unfit}
use Rattle.turn_machine.specs.Opening.{has_of}

-- a row, followed by others
abbrev pub row : Bool → (code : ℕ) → Option ℕ → Option ℕ
row applies code others = if applies then Some code else others

-- ---- The owner of the allocation (5)

abbrev pub has_any : FiveTuple → State → Bool
has_any tuple state = list_any (is_of tuple) state.relays

abbrev pub is_of_another : FiveTuple → (user : ℕ) → Relay → Bool
is_of_another tuple user a = is_of tuple a && not (is_users user a)

abbrev pub has_of_another : FiveTuple → (user : ℕ) → State → Bool
has_of_another tuple user state = list_any (is_of_another tuple user) state.relays

abbrev pub own_rows : FiveTuple → (user : ℕ) → State → Option ℕ → Option ℕ
own_rows tuple user state others =
    row (not (has_any tuple state)) 437 (row (has_of_another tuple user state) 441 others)

-- ---- Allocate (7.2)

abbrev pub is_offered : Setup → Want → Bool
is_offered setup want = setup.has_family want.family

abbrev pub is_ready : Setup → Want → Bool
is_ready setup want = setup.has_family want.family && is_some want.ready

abbrev pub allocate_rows : Setup → State → FiveTuple → (user : ℕ) → List Want → Option ℕ
allocate_rows setup state tuple user wants =
    row (has_any tuple state) 437
    (row (not (list_any (is_offered setup) wants)) 440
    (row (not (has_quota setup user state)) 486
    (row (not (has_room setup state)) 508
    (row (not (list_any (is_ready setup) wants)) 508 None))))

-- ---- Refresh (8.2)

abbrev pub has_wanted : FiveTuple → (family : Option ℕ) → State → Bool
has_wanted tuple family state = option_map_or (λ f. has_of tuple f state) family true

-- ---- CreatePermission (9 and 10.2)

-- One more permission, for so many seconds. It replaces the one for the same IP address, and expired
-- ones go
abbrev pub is_other_permission : ℕ → Ip → Permission → Bool
is_other_permission now ip p = not (is_ip ip p.ip) && nat_lt now p.expires_at

abbrev pub with_permission_for : (lifetime : ℕ) → ℕ → Ip → List Permission → List Permission
with_permission_for lifetime now ip ps =
    record { ip = ip; expires_at = now + seconds lifetime } ∷ filter (is_other_permission now ip) ps

-- CreatePermission permits for 300 seconds
abbrev pub with_permission : ℕ → Ip → List Permission → List Permission
with_permission now ip ps = with_permission_for 300 now ip ps

abbrev pub with_permissions : ℕ → List Endpoint → List Permission → List Permission
with_permissions now [] ps = ps
with_permissions now (peer ∷ peers) ps = with_permission now peer.ip (with_permissions now peers ps)

-- the peers of the relayed address's family
abbrev pub peers_of : Relay → List Endpoint → List Endpoint
peers_of a peers = filter (λ peer. peer.ip.family == a.family) peers

abbrev pub permissions_after : ℕ → List Endpoint → Relay → List Permission
permissions_after now peers a = with_permissions now (peers_of a peers) a.permissions

abbrev pub lacks_permissions : Setup → ℕ → FiveTuple → (user : ℕ) → List Endpoint → Relay → Bool
lacks_permissions setup now tuple user peers a =
    is_owned tuple user a && nat_lt setup.most_permissions (length (permissions_after now peers a))

abbrev pub have_families : FiveTuple → List Endpoint → State → Bool
have_families tuple peers state = list_all (λ peer. has_of tuple peer.ip.family state) peers

abbrev pub permit_rows : Setup → Rules → State → FiveTuple → (user : ℕ) → List Endpoint → Option ℕ
permit_rows setup rules state tuple user peers =
    row (not (have_families tuple peers state)) 443
    (row (not (list_all (λ peer. rules.allows_ip peer.ip) peers)) 403
    (row (list_any (lacks_permissions setup state.clock tuple user peers) state.relays) 508 None))

-- ---- ChannelBind (12.2)

-- One more channel, for 600 seconds. It replaces the one with the same number, and expired ones go
abbrev pub is_other_channel : ℕ → (number : ℕ) → Channel → Bool
is_other_channel now number c = not (c.number == number) && nat_lt now c.expires_at

abbrev pub with_channel : ℕ → (number : ℕ) → Endpoint → List Channel → List Channel
with_channel now number peer cs =
    record { number = number; peer = peer; expires_at = now + seconds 600 }
    ∷ filter (is_other_channel now number) cs

-- the number is bound to another peer, or the peer to another number
abbrev pub clashes : ℕ → (number : ℕ) → Endpoint → Channel → Bool
clashes now number peer c =
    nat_lt now c.expires_at
    && (((c.number == number) && not (is_endpoint c.peer peer))
    || (is_endpoint c.peer peer && not (c.number == number)))

abbrev pub is_bound_otherwise : ℕ → FiveTuple → (number : ℕ) → Endpoint → Relay → Bool
is_bound_otherwise now tuple number peer a =
    is_of tuple a && list_any (clashes now number peer) a.channels

abbrev pub is_channel_number : Setup → (number : ℕ) → Bool
is_channel_number setup number =
    not (nat_lt number 0x4000) && not (nat_lt setup.last_channel number)

abbrev pub lacks_channels : Setup → ℕ → FiveTuple → (user number : ℕ) → Endpoint → Relay → Bool
lacks_channels setup now tuple user number peer a =
    is_owned tuple user a && ((peer.ip.family == a.family)
    && nat_lt setup.most_channels (length (with_channel now number peer a.channels)))

abbrev pub bind_rows : Setup → Rules → State → FiveTuple → (user number : ℕ) → Endpoint → Option ℕ
bind_rows setup rules state tuple user number peer =
    row (not (is_channel_number setup number)) 400
    (row (list_any (is_bound_otherwise state.clock tuple number peer) state.relays) 400
    (row (not (has_of tuple peer.ip.family state)) 443
    (row (not (rules.allows_ip peer.ip && rules.allows_port peer)) 403
    (row (list_any (lacks_permissions setup state.clock tuple user (peer ∷ [])) state.relays
    || list_any (lacks_channels setup state.clock tuple user number peer) state.relays) 508 None))))

-- ---- All requests

abbrev pub fault : Setup → Rules → State → FiveTuple → (user : ℕ) → Request → Option ℕ
fault setup rules state tuple user (allocate id lifetime wants) =
    allocate_rows setup state tuple user wants
fault setup rules state tuple user (unfit_allocate code) =
    row (has_any tuple state) 437 (Some code)
fault setup rules state tuple user (refresh family lifetime) =
    own_rows tuple user state (row (not (has_wanted tuple family state)) 443 None)
fault setup rules state tuple user (permit peers) =
    own_rows tuple user state (permit_rows setup rules state tuple user peers)
fault setup rules state tuple user (bind number peer) =
    own_rows tuple user state (bind_rows setup rules state tuple user number peer)
fault setup rules state tuple user (unfit code) = own_rows tuple user state (Some code)
