-- What a server reads of the attributes of each request (RFC 8656, sections 7.2, 8.2, 10.2 and 12.2).
use Rattle.std.proofs.Common.{◌≡◌, ℕ, suc, ◌^◌, ◌<◌, Bool, true, false, List, [], ◌∷◌, ◌++◌, length, map, take, Option, None, Some, refl, ap, ◌∙◌, arith}
use Rattle.std.specs.Prelude.{◌||◌, ◌&&◌, ◌==◌, nat_le, not, is_some, unwrap_or, IfSome, slice_index, option_and_then, if◌then◌else◌}
use Rattle.std.specs.List.{AllByRecursion, list_all}
use Rattle.std.proofs.lemmas.Bool.{ne_eqb}
use Rattle.std.specs.Option.{option_map, option_map_or, option_or, option_to_list}
use Rattle.stun_grammar.specs.Attributes.{Attribute}
use Rattle.stun_grammar.specs.AttributeTypes.{SOFTWARE}
use Rattle.stun_grammar.specs.Headers.{id_field}
use Rattle.stun_grammar.specs.Numbers.{be32, be64, number}
use Rattle.stun_grammar.specs.ScannedOrder.{has}
use Rattle.stun_grammar.specs.Showing.{shown}
use Rattle.stun_base.specs.declared.transport.AddressFamily.{AddressFamily}
use Rattle.stun_base.specs.declared.transport.AddressFamily.TheVariants.{IPV4, IPV6}
use Rattle.stun_values.specs.Addresses.{xored_value}
use Rattle.stun_authentication.specs.Identities.{value_of}
use Rattle.stun_endpoints.specs.Conversions.{socket_of}
use Rattle.stun_endpoints.specs.declared.endpoints.Endpoint.{Endpoint}
use Rattle.stun_endpoints.specs.declared.endpoints.Ip.{Ip}
use Rattle.stun_exchanges.specs.Premises.{is_reserved}
use Rattle.turn_attrs.specs.Channels.{channel_number}
use Rattle.turn_attrs.specs.Turn.{ADDITIONAL_ADDRESS_FAMILY, CHANNEL_NUMBER, EVEN_PORT, LIFETIME, REQUESTED_ADDRESS_FAMILY, REQUESTED_TRANSPORT, RESERVATION_TOKEN, XOR_PEER_ADDRESS, family_byte, family_number, protocol_number, reserve_number}
use Rattle.turn_machine.specs.Events.{bind, permit_request, refresh, unfit, unfit_allocate}
use Rattle.turn_peers.specs.Tunnels.{is_tunnelled}
use Rattle.turn_client_messages.specs.Views.{Content}
use Rattle.turn_requests.specs.declared.request.RelayedPort.{RelayedPort}
use Rattle.turn_requests.specs.declared.request.RelayedPort.TheVariants.{Any, Even, Reserved}
use Rattle.turn_requests.specs.Requests.{allocate_attributes, channel_attribute, family_beside, lifetime_attribute, named_peer, software_attributes}
use Rattle.turn_server.specs.declared.sockets.Sockets.{Sockets}
use Rattle.turn_server.specs.Addresses.{is_address, peer_in, peer_of, peer_read}
use Rattle.turn_server.specs.Allocating.{UDP, allocate_of, bytes_fault, options_fault, options_of, transport_fault, wanted_for}
use Rattle.turn_server.specs.Requests.{bind_of, channel_in, permit_of, refresh_of}
use Rattle.turn_server.specs.Wanted.{Wanted, other}
use Rattle.turn_sessions.specs.Requests.{even_in, token_in, wanted_of}
use Rattle.turn_sessions.specs.Sides.{IsTransport}
use Rattle.turn_sessions.proofs.AddressesLemmas.{AreOfEndpoints, transport_fits, transport_in, transport_read}
use Rattle.turn_sessions.proofs.ShownLemmas.{IsRead, first_value, shown_values, value_is, values, values_are}

-- a SOFTWARE before them is passed over
past : (software : Option (List ℕ)) (type : ℕ) (ys : List Attribute) → (SOFTWARE == type) ≡ false → first_value type (software_attributes software ++ ys) ≡ first_value type ys
past None type ys other_type = refl
past (Some name) type ys other_type = ap (λ (b : Bool). if b then Some name else first_value type ys) other_type

past_all : (software : Option (List ℕ)) (type : ℕ) (ys : List Attribute) → (SOFTWARE == type) ≡ false → values type (software_attributes software ++ ys) ≡ values type ys
past_all None type ys other_type = refl
past_all (Some name) type ys other_type = ap (λ (b : Bool). if b then name ∷ values type ys else values type ys) other_type

-- a look-up in d, of a type that a client doesn't show besides, finds one of these
abbrev pub IsFoundIn : List Attribute → List ℕ → Type 0
IsFoundIn ys d = (type : ℕ) → is_reserved type ≡ false → (SOFTWARE == type) ≡ false → value_of d type ≡ first_value type ys

pub found_in : (software : Option (List ℕ)) (kind id : ℕ) (ys : List Attribute) (ends d : List ℕ) → IsRead kind id (software_attributes software ++ ys) ends d → ((type : ℕ) → is_reserved type ≡ false → has type ends ≡ false) → IsFoundIn ys d
found_in software kind id ys ends d read others type plain other_type =
    value_is type kind id (software_attributes software ++ ys) ends d read (others type plain) ∙ past software type ys other_type

pub peers_in : (software : Option (List ℕ)) (kind id : ℕ) (ys : List Attribute) (ends d : List ℕ) → IsRead kind id (software_attributes software ++ ys) ends d → ((type : ℕ) → is_reserved type ≡ false → has type ends ≡ false)
    → shown_values XOR_PEER_ADDRESS (shown d) ≡ values XOR_PEER_ADDRESS ys
peers_in software kind id ys ends d read others =
    values_are XOR_PEER_ADDRESS kind id (software_attributes software ++ ys) ends d read (others XOR_PEER_ADDRESS refl) ∙ past_all software XOR_PEER_ADDRESS ys refl

-- ---- Numbers

number-be32 : (n : ℕ) → n < 2 ^ 32 → number (be32 n) ≡ n
number-be32 n h = omega arith

seconds_back : (lifetime : Option ℕ) → IfSome lifetime (λ seconds. seconds < 2 ^ 32) → option_map number (option_map be32 lifetime) ≡ lifetime
seconds_back None few = refl
seconds_back (Some n) few = ap (λ (m : ℕ). Some m) (number-be32 n few)

abbrev family_value : AddressFamily → List ℕ
family_value family = be32 (family_number family)

abbrev first_byte : List ℕ → ℕ
first_byte value = slice_index value 0

family_back : (family : Option AddressFamily) → option_map first_byte (option_map family_value family) ≡ option_map family_byte family
family_back None = refl
family_back (Some IPV4) = refl
family_back (Some IPV6) = refl

-- whether a value has another length
abbrev bad : (width : ℕ) → Option (List ℕ) → Bool
bad width o = option_map_or (λ (value : List ℕ). not (length value == width)) o false

seconds_whole : (lifetime : Option ℕ) → bad 4 (option_map be32 lifetime) ≡ false
seconds_whole None = refl
seconds_whole (Some n) = refl

family_whole : (family : Option AddressFamily) → bad 4 (option_map family_value family) ≡ false
family_whole None = refl
family_whole (Some IPV4) = refl
family_whole (Some IPV6) = refl

-- ---- Allocate

number-be64 : (n : ℕ) → n < 2 ^ 64 → number (be64 n) ≡ n
number-be64 n h = omega arith

-- the values of EVEN-PORT and RESERVATION-TOKEN
abbrev even_value : RelayedPort → Option (List ℕ)
even_value Any = None
even_value (Even reserves) = Some (reserve_number reserves ∷ [])
even_value (Reserved token) = None

abbrev token_value : RelayedPort → Option (List ℕ)
token_value Any = None
token_value (Even reserves) = None
token_value (Reserved token) = Some (be64 token)

abbrev is_high : ℕ → Bool
is_high byte = nat_le 128 byte

even_back : (port : RelayedPort) → option_map is_high (option_map first_byte (even_value port)) ≡ even_in port
even_back Any = refl
even_back (Even true) = refl
even_back (Even false) = refl
even_back (Reserved token) = refl

token_back : (port : RelayedPort) → IfSome (token_in port) (λ token. token < 2 ^ 64) → option_map number (token_value port) ≡ token_in port
token_back Any few = refl
token_back (Even reserves) few = refl
token_back (Reserved token) few = ap (λ (m : ℕ). Some m) (number-be64 token few)

even_whole : (port : RelayedPort) → bad 1 (even_value port) ≡ false
even_whole Any = refl
even_whole (Even reserves) = refl
even_whole (Reserved token) = refl

token_whole : (port : RelayedPort) → bad 8 (token_value port) ≡ false
token_whole Any = refl
token_whole (Even reserves) = refl
token_whole (Reserved token) = refl

record HasWishes (lifetime : Option ℕ) (family : Option AddressFamily) (port : RelayedPort) (ys : List Attribute) : Type 0 where
  lifetime_is : first_value LIFETIME ys ≡ option_map be32 lifetime
  family_is : first_value REQUESTED_ADDRESS_FAMILY ys ≡ option_map family_value (family_beside port family)
  transport_is : first_value REQUESTED_TRANSPORT ys ≡ Some (be32 (protocol_number 17))
  even_is : first_value EVEN_PORT ys ≡ even_value port
  token_is : first_value RESERVATION_TOKEN ys ≡ token_value port
  additional : first_value ADDITIONAL_ADDRESS_FAMILY ys ≡ None

wishes : (lifetime : Option ℕ) (family : Option AddressFamily) (port : RelayedPort) (whole : Bool) → HasWishes lifetime family port (allocate_attributes lifetime family port whole)
wishes None None Any true = record { lifetime_is = refl; family_is = refl; transport_is = refl; even_is = refl; token_is = refl; additional = refl }
wishes None None Any false = record { lifetime_is = refl; family_is = refl; transport_is = refl; even_is = refl; token_is = refl; additional = refl }
wishes None None (Even reserves) true = record { lifetime_is = refl; family_is = refl; transport_is = refl; even_is = refl; token_is = refl; additional = refl }
wishes None None (Even reserves) false = record { lifetime_is = refl; family_is = refl; transport_is = refl; even_is = refl; token_is = refl; additional = refl }
wishes None None (Reserved token) true = record { lifetime_is = refl; family_is = refl; transport_is = refl; even_is = refl; token_is = refl; additional = refl }
wishes None None (Reserved token) false = record { lifetime_is = refl; family_is = refl; transport_is = refl; even_is = refl; token_is = refl; additional = refl }
wishes None (Some f) Any true = record { lifetime_is = refl; family_is = refl; transport_is = refl; even_is = refl; token_is = refl; additional = refl }
wishes None (Some f) Any false = record { lifetime_is = refl; family_is = refl; transport_is = refl; even_is = refl; token_is = refl; additional = refl }
wishes None (Some f) (Even reserves) true = record { lifetime_is = refl; family_is = refl; transport_is = refl; even_is = refl; token_is = refl; additional = refl }
wishes None (Some f) (Even reserves) false = record { lifetime_is = refl; family_is = refl; transport_is = refl; even_is = refl; token_is = refl; additional = refl }
wishes None (Some f) (Reserved token) true = record { lifetime_is = refl; family_is = refl; transport_is = refl; even_is = refl; token_is = refl; additional = refl }
wishes None (Some f) (Reserved token) false = record { lifetime_is = refl; family_is = refl; transport_is = refl; even_is = refl; token_is = refl; additional = refl }
wishes (Some n) None Any true = record { lifetime_is = refl; family_is = refl; transport_is = refl; even_is = refl; token_is = refl; additional = refl }
wishes (Some n) None Any false = record { lifetime_is = refl; family_is = refl; transport_is = refl; even_is = refl; token_is = refl; additional = refl }
wishes (Some n) None (Even reserves) true = record { lifetime_is = refl; family_is = refl; transport_is = refl; even_is = refl; token_is = refl; additional = refl }
wishes (Some n) None (Even reserves) false = record { lifetime_is = refl; family_is = refl; transport_is = refl; even_is = refl; token_is = refl; additional = refl }
wishes (Some n) None (Reserved token) true = record { lifetime_is = refl; family_is = refl; transport_is = refl; even_is = refl; token_is = refl; additional = refl }
wishes (Some n) None (Reserved token) false = record { lifetime_is = refl; family_is = refl; transport_is = refl; even_is = refl; token_is = refl; additional = refl }
wishes (Some n) (Some f) Any true = record { lifetime_is = refl; family_is = refl; transport_is = refl; even_is = refl; token_is = refl; additional = refl }
wishes (Some n) (Some f) Any false = record { lifetime_is = refl; family_is = refl; transport_is = refl; even_is = refl; token_is = refl; additional = refl }
wishes (Some n) (Some f) (Even reserves) true = record { lifetime_is = refl; family_is = refl; transport_is = refl; even_is = refl; token_is = refl; additional = refl }
wishes (Some n) (Some f) (Even reserves) false = record { lifetime_is = refl; family_is = refl; transport_is = refl; even_is = refl; token_is = refl; additional = refl }
wishes (Some n) (Some f) (Reserved token) true = record { lifetime_is = refl; family_is = refl; transport_is = refl; even_is = refl; token_is = refl; additional = refl }
wishes (Some n) (Some f) (Reserved token) false = record { lifetime_is = refl; family_is = refl; transport_is = refl; even_is = refl; token_is = refl; additional = refl }

go_together : (lifetime : Option ℕ) (family : Option AddressFamily) (port : RelayedPort)
    → options_fault (record { lifetime = lifetime; family = option_map family_byte (family_beside port family); even = even_in port; token = token_in port; additional = None }) ≡ None
go_together lifetime None Any = refl
go_together lifetime None (Even true) = refl
go_together lifetime None (Even false) = refl
go_together lifetime None (Reserved token) = refl
go_together lifetime (Some IPV4) Any = refl
go_together lifetime (Some IPV4) (Even true) = refl
go_together lifetime (Some IPV4) (Even false) = refl
go_together lifetime (Some IPV4) (Reserved token) = refl
go_together lifetime (Some IPV6) Any = refl
go_together lifetime (Some IPV6) (Even true) = refl
go_together lifetime (Some IPV6) (Even false) = refl
go_together lifetime (Some IPV6) (Reserved token) = refl

by_tunnel : (tunnelled : Bool) (fault : Option ℕ) (w : Wanted) → fault ≡ None
    → option_map_or (λ (code : ℕ). other (unfit_allocate code)) (if tunnelled then Some 403 else fault) w ≡ (if tunnelled then other (unfit_allocate 403) else w)
by_tunnel true fault w e = refl
by_tunnel false None w e = refl
by_tunnel false (Some code) w e = absurd cc

pub allocate_read : (client : Ip) (sockets : Sockets) (id : ℕ) (content : Content) (d : List ℕ) → IsFoundIn (allocate_attributes content.lifetime content.family content.port content.dont_fragment) d → id_field d ≡ id
    → IfSome content.lifetime (λ seconds. seconds < 2 ^ 32) → IfSome (token_in content.port) (λ token. token < 2 ^ 64)
    → allocate_of client sockets d ≡ (if is_tunnelled client then other (unfit_allocate 403) else wanted_of sockets id content)
allocate_read client sockets id content d find id_is few small =
    let lifetime = content.lifetime in
    let port = content.port in
    let family = family_beside port content.family in
    let w = wishes lifetime content.family port content.dont_fragment in
    let l : value_of d LIFETIME ≡ option_map be32 lifetime = find LIFETIME refl refl ∙ w.lifetime_is in
    let f : value_of d REQUESTED_ADDRESS_FAMILY ≡ option_map family_value family = find REQUESTED_ADDRESS_FAMILY refl refl ∙ w.family_is in
    let t : value_of d REQUESTED_TRANSPORT ≡ Some (be32 (protocol_number 17)) = find REQUESTED_TRANSPORT refl refl ∙ w.transport_is in
    let e : value_of d EVEN_PORT ≡ even_value port = find EVEN_PORT refl refl ∙ w.even_is in
    let k : value_of d RESERVATION_TOKEN ≡ token_value port = find RESERVATION_TOKEN refl refl ∙ w.token_is in
    let a : value_of d ADDITIONAL_ADDRESS_FAMILY ≡ None = find ADDITIONAL_ADDRESS_FAMILY refl refl ∙ w.additional in
    let udp : transport_fault d ≡ None = ap (λ (o : Option (List ℕ)). if bad 4 o then Some 400 else option_map_or (λ (p : ℕ). if p == UDP then None else Some 442) (option_map first_byte o) (Some 400)) t in
    let lifetime_whole : bad 4 (value_of d LIFETIME) ≡ false = ap (bad 4) l ∙ seconds_whole lifetime in
    let other_whole : bad 4 (value_of d REQUESTED_ADDRESS_FAMILY) ≡ false = ap (bad 4) f ∙ family_whole family in
    let port_whole : bad 1 (value_of d EVEN_PORT) ≡ false = ap (bad 1) e ∙ even_whole port in
    let kept_whole : bad 8 (value_of d RESERVATION_TOKEN) ≡ false = ap (bad 8) k ∙ token_whole port in
    let seconds : option_map number (value_of d LIFETIME) ≡ lifetime = ap (option_map number) l ∙ seconds_back lifetime few in
    let named : option_map first_byte (value_of d REQUESTED_ADDRESS_FAMILY) ≡ option_map family_byte family = ap (option_map first_byte) f ∙ family_back family in
    let even : option_map is_high (option_map first_byte (value_of d EVEN_PORT)) ≡ even_in port = ap (λ (o : Option (List ℕ)). option_map is_high (option_map first_byte o)) e ∙ even_back port in
    let token : option_map number (value_of d RESERVATION_TOKEN) ≡ token_in port = ap (option_map number) k ∙ token_back port small in
    let fault : bytes_fault d ≡ None =
    (λ i. option_or (udp i) (if lifetime_whole i || (other_whole i || (port_whole i || (kept_whole i || bad 4 (a i)))) then Some 400
    else options_fault (record {
      lifetime = seconds i;
      family = named i;
      even = even i;
      token = token i;
      additional = option_map first_byte (a i);
    })))
    ∙ go_together lifetime content.family port in
    by_tunnel (is_tunnelled client) (bytes_fault d) (wanted_for sockets (id_field d) (options_of d)) fault
    ∙ (λ i. if is_tunnelled client then other (unfit_allocate 403) else wanted_for sockets (id_is i) (record {
      lifetime = seconds i;
      family = named i;
      even = even i;
      token = token i;
      additional = option_map first_byte (a i);
    }))

-- ---- Refresh

record HasLifetime (lifetime : Option ℕ) (ys : List Attribute) : Type 0 where
  lifetime_is : first_value LIFETIME ys ≡ option_map be32 lifetime
  family_is : first_value REQUESTED_ADDRESS_FAMILY ys ≡ None

lasts : (lifetime : Option ℕ) → HasLifetime lifetime (map lifetime_attribute (option_to_list lifetime))
lasts None = record { lifetime_is = refl; family_is = refl }
lasts (Some n) = record { lifetime_is = refl; family_is = refl }

pub refresh_read : (lifetime : Option ℕ) (d : List ℕ) → IsFoundIn (map lifetime_attribute (option_to_list lifetime)) d → IfSome lifetime (λ seconds. seconds < 2 ^ 32) → refresh_of d ≡ refresh None lifetime
refresh_read lifetime d find few =
    let h = lasts lifetime in
    let l : value_of d LIFETIME ≡ option_map be32 lifetime = find LIFETIME refl refl ∙ h.lifetime_is in
    let f : value_of d REQUESTED_ADDRESS_FAMILY ≡ None = find REQUESTED_ADDRESS_FAMILY refl refl ∙ h.family_is in
    (λ i. if bad 4 (f i) || (ap (bad 4) l ∙ seconds_whole lifetime) i then unfit 400 else refresh (option_map first_byte (f i)) ((ap (option_map number) l ∙ seconds_back lifetime few) i))

-- ---- CreatePermission

abbrev peer_values : (id : ℕ) → List Endpoint → List (List ℕ)
peer_values id peers = values XOR_PEER_ADDRESS (map (named_peer id) peers)

not_none : (n : ℕ) → (suc n == 0) ≡ false
not_none n = ne_eqb (suc n) 0 (λ e. absurd (omega (arith, e)))

all_addresses : (id : ℕ) (peers : List Endpoint) → AllByRecursion IsTransport peers → list_all is_address (peer_values id peers) ≡ true
all_addresses id [] all = refl
all_addresses id (peer ∷ peers) all = (λ i. not (is_some (transport_fits id peer all.0 i)) && all_addresses id peers all.1 i)

all_back : AreOfEndpoints → (id : ℕ) (peers : List Endpoint) → AllByRecursion IsTransport peers → map (peer_in id) (peer_values id peers) ≡ peers
all_back sockets id [] all = refl
all_back sockets id (peer ∷ peers) all = λ i. transport_in sockets id peer all.0 i ∷ all_back sockets id peers all.1 i

pub permit_read : AreOfEndpoints → (id : ℕ) (peer : Endpoint) (others : List Endpoint) (d : List ℕ) → AllByRecursion IsTransport (peer ∷ others) → shown_values XOR_PEER_ADDRESS (shown d) ≡ values XOR_PEER_ADDRESS (map (named_peer id) (peer ∷ others)) → id_field d ≡ id
    → permit_of d ≡ permit_request (peer ∷ others)
permit_read sockets id peer others d is all id_is =
    (λ i. if not (length (all i) == 0) && list_all is_address (all i) then permit_request (map (peer_in (id_is i)) (all i)) else unfit 400)
    ∙ (λ i. if not (not_none (length (peer_values id others)) i) && list_all is_address (peer_values id (peer ∷ others)) then permit_request (map (peer_in id) (peer_values id (peer ∷ others))) else unfit 400)
    ∙ (λ i. if all_addresses id (peer ∷ others) is i then permit_request (all_back sockets id (peer ∷ others) is i) else unfit 400)

-- ---- ChannelBind

number_back : (channel : ℕ) → channel < 2 ^ 16 → channel_in (be32 (channel_number channel)) ≡ Some channel
number_back channel small = ap (λ (n : ℕ). Some n) (high channel small)
  where
    high : (n : ℕ) → n < 2 ^ 16 → number (take 2 (be32 (channel_number n))) ≡ n
    high n h = omega (arith, h)

pub bind_read : AreOfEndpoints → (id channel : ℕ) (peer : Endpoint) (d : List ℕ) → channel < 2 ^ 16 → IsTransport peer → IsFoundIn (channel_attribute channel ∷ named_peer id peer ∷ []) d → id_field d ≡ id → bind_of d ≡ bind channel peer
bind_read sockets id channel peer d small is find id_is =
    let c : value_of d CHANNEL_NUMBER ≡ Some (be32 (channel_number channel)) = find CHANNEL_NUMBER refl refl in
    let p : value_of d XOR_PEER_ADDRESS ≡ Some (xored_value id (socket_of peer)) = find XOR_PEER_ADDRESS refl refl in
    let named : peer_of d ≡ Some peer = (λ i. option_and_then (peer_read (id_is i)) (p i)) ∙ transport_read sockets id peer is in
    let numbered : option_and_then channel_in (value_of d CHANNEL_NUMBER) ≡ Some channel = ap (option_and_then channel_in) c ∙ number_back channel small in
    (λ i. option_map_or (λ (n : ℕ). option_map_or (bind n) (named i) (unfit 400)) (numbered i) (unfit 400))
