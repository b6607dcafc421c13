-- Addresses as C sees them, and what reading one answers (RFC 8489, sections 14.1 and 14.2).
use Rattle.std.specs.Prelude.{◌≡◌, ℕ, Bool, true, false, List, take, Option, None, Some, MatchOption, IsSomeAnd, ◌==◌, if◌then◌else◌}
use Rattle.std.specs.Net.Addr.{segments_of}
use Rattle.std.specs.Option.{option_map}
use Rattle.std.specs.Net.Socket.{socket_ip, socket_port}
use Rattle.std.specs.declared.net.ip_addr.IpAddr.{IpAddr}
use Rattle.std.specs.declared.net.ip_addr.IpAddr.TheVariants.{V4, V6}
use Rattle.std.specs.declared.net.socket_addr.SocketAddr.{SocketAddr}
use Rattle.stun_endpoints.specs.declared.endpoints.Endpoint.{Endpoint}
use Rattle.stun_endpoints.specs.Conversions.{endpoint_of}
use Rattle.stun_grammar.specs.Headers.{header_fault, id_field}
use Rattle.stun_types.specs.declared.attribute.known.ValueForm.{ValueForm}
use Rattle.stun_types.specs.declared.attribute.known.ValueForm.TheVariants.{Address as PlainAddress, XorAddress}
use Rattle.stun_plain_text.specs.NamesOfAll.{value_form}
use Rattle.stun_values.specs.Addresses.{octets, octets_count, address_fault, address_in, plain_socket, IsPlain, IsXored}
use Rattle.stun_types_c.specs.declared.address.Address.{Address}
use Rattle.stun_types_c.specs.declared.call_result.CResult.{CResult}
use Rattle.stun_types_c.specs.declared.attribute.ShownAttribute.{ShownAttribute}
use Rattle.stun_types_c.specs.Codes.{OK, BAD_ARGUMENT}
use Rattle.stun_types_c.specs.CResults.{plain, parse_result}
use Rattle.stun_types_c.specs.Values.{value_of}

-- the number of a family
abbrev pub family_number : IpAddr → ℕ
family_number (V4 ip) = 4
family_number (V6 ip) = 6

-- C's form holds this address
pub record Holds (a : SocketAddr) (address : Address) : Type 0 where
  pub family_is : address.family ≡ family_number (socket_ip a)
  pub port_is : address.port ≡ socket_port a
  pub octets_are : take (octets_count (socket_ip a)) address.octets ≡ octets (socket_ip a)

-- the IPv4 address of the first four octets, and the IPv6 address of all sixteen
abbrev pub ipv4_named : List ℕ → IpAddr
ipv4_named octets = V4 (record { octets = take 4 octets })

abbrev pub ipv6_named : List ℕ → IpAddr
ipv6_named octets = V6 (record { segments = segments_of octets })

-- the IP address that C's form names; none if its family is neither 4 nor 6
abbrev pub ip_named : Address → Option IpAddr
ip_named address =
    if address.family == 4 then Some (ipv4_named address.octets) else (
    if address.family == 6 then Some (ipv6_named address.octets) else None)

-- this address has that IP address and that port
abbrev pub IsAt : IpAddr → ℕ → SocketAddr → Type 0
IsAt ip port a = (socket_ip a ≡ ip) × (socket_port a ≡ port) × IsPlain a

-- the address that C's form names, if it names one
abbrev pub Names : Address → Option SocketAddr → Type 0
Names address named =
    MatchOption (ip_named address) (named ≡ None)
    (λ ip. IsSomeAnd named (IsAt ip address.port))

-- the same as a value
abbrev pub socket_named : Address → Option SocketAddr
socket_named address = option_map (λ ip. plain_socket ip address.port) (ip_named address)

-- the endpoint that C's form names
abbrev pub endpoint_named : Address → Option Endpoint
endpoint_named address = option_map endpoint_of (socket_named address)

-- what reading the address in a value answers
abbrev pub ReadsFrom : (SocketAddr → Address → Type 0) → List ℕ → CResult → Address → Address
    → Type 0
ReadsFrom Reported value result old new =
    MatchOption (address_fault value)
    ((result ≡ plain OK) × Reported (address_in value) new)
    (λ e. (result ≡ parse_result e) × (new ≡ old))

-- whether the address in attributes of a type is XORed with the transaction ID (RFC 8489, section
-- 14.2), and whether it is as it is (section 14.1). Of a type that isn't known, neither holds
abbrev pub is_xored_form : Option ValueForm → Bool
is_xored_form (Some XorAddress) = true
is_xored_form _ = false

abbrev pub is_xored_type : ℕ → Bool
is_xored_type type = is_xored_form (value_form type)

abbrev pub is_plain_form : Option ValueForm → Bool
is_plain_form (Some PlainAddress) = true
is_plain_form _ = false

abbrev pub is_plain_type : ℕ → Bool
is_plain_type type = is_plain_form (value_form type)

-- what reading the address in an attribute of the message d answers
abbrev pub ReadsAddress : ShownAttribute → List ℕ → CResult → Address → Address → Type 0
ReadsAddress attribute d result old new =
    MatchOption (if is_xored_type attribute.atype then None else value_of attribute d)
    ((result ≡ plain BAD_ARGUMENT) × (new ≡ old))
    (λ value. ReadsFrom Holds value result old new)

-- an address XORed under a transaction ID, in C's form
abbrev pub HoldsXored : ℕ → SocketAddr → Address → Type 0
HoldsXored id written address = (a : SocketAddr) × (IsXored id written a × Holds a address)

-- the same for an address that is XORed with the transaction ID of d
abbrev pub ReadsXorAddress : ShownAttribute → List ℕ → CResult → Address → Address → Type 0
ReadsXorAddress attribute d result old new =
    MatchOption (if is_plain_type attribute.atype then None else value_of attribute d)
    ((result ≡ plain BAD_ARGUMENT) × (new ≡ old))
    (λ value. MatchOption (header_fault d)
    (ReadsFrom (HoldsXored (id_field d)) value result old new)
    (λ e. (result ≡ parse_result e) × (new ≡ old)))
