-- Attributes of TURN (RFC 8656, section 18; RFC 6062, section 6.2; RFC 7635, section 6; RFC 8016,
-- section 3.3). Channels are defined in `Channels`.
use Rattle.std.specs.Prelude.{◌≡◌, ℕ, ◌+◌, ◌*◌, ◌/◌, ◌%◌, ◌^◌, Bool, List, ◌∷◌, ◌++◌, codes, length, drop, slice_index, Option, Some, None, Result, Err, IsOkAnd, MatchOption, nat_lt, nat_le, ◌==◌, if◌then◌else◌, ◌-◌}
use Rattle.std.specs.Fmt.{decimal}
use Rattle.std.specs.Option.{option_or}
use Rattle.stun_grammar.specs.declared.error.StunParseError.{StunParseError}
use Rattle.stun_grammar.specs.declared.error.StunParseError.TheVariants.{Truncated, InvalidAttributeData}
use Rattle.stun_base.specs.declared.transport.AddressFamily.{AddressFamily}
use Rattle.stun_base.specs.declared.transport.AddressFamily.TheVariants.{IPV4, IPV6}
use Rattle.stun_attributes.specs.Reading.{ReadsInMemory}
use Rattle.stun_values.specs.ErrorValues.{error_value, error_fault, reported_code}
use Rattle.stun_attributes.specs.declared.error_code.ErrorCode.{ErrorCode}
use Rattle.stun_attributes.specs.ErrorCodes.{error_code, error_reason, IsError}
use Rattle.stun_attributes.specs.Texts.{text_bytes}
use Rattle.stun_values.specs.TextValues.{text_fault}
use Rattle.stun_grammar.specs.Lengths.{exact_fault}
use Rattle.stun_grammar.specs.Numbers.{number}
use Rattle.turn_attrs.specs.declared.lifetime.Lifetime.{Lifetime}
use Rattle.turn_attrs.specs.declared.icmp.IcmpError.{IcmpError}
use Rattle.turn_attrs.specs.declared.family.Ipv6AddressFamily.{Ipv6AddressFamily}
use Rattle.turn_attrs.specs.declared.address_error_code.AddressErrorCode.{AddressErrorCode}
use Rattle.turn_attrs.specs.declared.third_party.ThirdPartyAuthorization.{ThirdPartyAuthorization}
use Rattle.stun_types.specs.declared.attribute.known.ValueForm.TheVariants.{Number, PaddedNumber, Octets, XorAddress, Other}
use Rattle.stun_types.specs.KnownTypes.{Known, says}

-- ---- Numbers of types

abbrev pub CHANNEL_NUMBER : ℕ
CHANNEL_NUMBER = 0x000C

abbrev pub LIFETIME : ℕ
LIFETIME = 0x000D

abbrev pub XOR_PEER_ADDRESS : ℕ
XOR_PEER_ADDRESS = 0x0012

abbrev pub DATA : ℕ
DATA = 0x0013

abbrev pub XOR_RELAYED_ADDRESS : ℕ
XOR_RELAYED_ADDRESS = 0x0016

abbrev pub REQUESTED_ADDRESS_FAMILY : ℕ
REQUESTED_ADDRESS_FAMILY = 0x0017

abbrev pub EVEN_PORT : ℕ
EVEN_PORT = 0x0018

abbrev pub REQUESTED_TRANSPORT : ℕ
REQUESTED_TRANSPORT = 0x0019

abbrev pub DONT_FRAGMENT : ℕ
DONT_FRAGMENT = 0x001A

abbrev pub ACCESS_TOKEN : ℕ
ACCESS_TOKEN = 0x001B

abbrev pub RESERVATION_TOKEN : ℕ
RESERVATION_TOKEN = 0x0022

abbrev pub CONNECTION_ID : ℕ
CONNECTION_ID = 0x002A

abbrev pub ADDITIONAL_ADDRESS_FAMILY : ℕ
ADDITIONAL_ADDRESS_FAMILY = 0x8000

abbrev pub ADDRESS_ERROR_CODE : ℕ
ADDRESS_ERROR_CODE = 0x8001

abbrev pub ICMP : ℕ
ICMP = 0x8004

abbrev pub THIRD_PARTY_AUTHORIZATION : ℕ
THIRD_PARTY_AUTHORIZATION = 0x802E

abbrev pub MOBILITY_TICKET : ℕ
MOBILITY_TICKET = 0x8030

-- ---- LIFETIME (section 18.2): seconds, in four bytes

abbrev pub seconds_of : Lifetime → ℕ
seconds_of lifetime = lifetime.seconds

-- what reading a value returns: the fault, and if there is none the attribute of the number that
-- the four bytes are
abbrev pub ReadsLifetime : List ℕ → Result Lifetime StunParseError → Type 0
ReadsLifetime value result =
    MatchOption (exact_fault 4 (length value))
    (IsOkAnd result (λ read. seconds_of read ≡ number value)) (λ e. result ≡ Err e)

-- ---- REQUESTED-ADDRESS-FAMILY (section 18.6) and ADDITIONAL-ADDRESS-FAMILY (section 18.11): the
-- highest of four bytes

abbrev pub family_byte : AddressFamily → ℕ
family_byte IPV4 = 1
family_byte IPV6 = 2

abbrev pub family_of_byte : ℕ → Option AddressFamily
family_of_byte byte =
    if byte == 1 then Some IPV4 else (if byte == 2 then Some IPV6 else None)

abbrev pub family_number : AddressFamily → ℕ
family_number family = 2 ^ 24 * family_byte family

abbrev pub family_in : ℕ → Option AddressFamily
family_in n = family_of_byte (n / 2 ^ 24)

abbrev pub ipv6_number : Ipv6AddressFamily → ℕ
ipv6_number _ = 2 ^ 24 * 2

abbrev pub ipv6_in : ℕ → Option Ipv6AddressFamily
ipv6_in n = if n / 2 ^ 24 == 2 then Some (record {}) else None

-- ---- EVEN-PORT (section 18.7): the highest bit of a byte

abbrev pub reserve_number : Bool → ℕ
reserve_number reserve = if reserve then 128 else 0

abbrev pub reserve_in : ℕ → Option Bool
reserve_in n = Some (nat_le 128 n)

-- ---- REQUESTED-TRANSPORT (section 18.8): the highest of four bytes

abbrev pub protocol_number : ℕ → ℕ
protocol_number protocol = 2 ^ 24 * protocol

abbrev pub protocol_in : ℕ → Option ℕ
protocol_in n = Some (n / 2 ^ 24)

-- ---- ICMP (section 18.13): after two bytes the type, the code, and the data in four

abbrev pub icmp_number : IcmpError → ℕ
icmp_number error = 2 ^ 40 * error.icmp_type + 2 ^ 32 * error.code + error.«data»

abbrev pub icmp_in : ℕ → Option IcmpError
icmp_in n = Some (record {
  icmp_type = n / 2 ^ 40 % 256;
  code = n / 2 ^ 32 % 256;
  «data» = n % 2 ^ 32;
})

abbrev pub icmp_text : IcmpError → List ℕ
icmp_text error =
    codes "type " ++ decimal error.icmp_type ++ codes ", code " ++ decimal error.code
    ++ codes ", data " ++ decimal error.«data»

-- ---- ADDRESS-ERROR-CODE (section 18.12): the family, and then as an ERROR-CODE

abbrev pub failed_family : AddressErrorCode → AddressFamily
failed_family attribute = attribute.family

abbrev pub failed_error : AddressErrorCode → ErrorCode
failed_error attribute = attribute.error

abbrev pub address_error_value : AddressErrorCode → List ℕ
address_error_value attribute =
    family_byte (failed_family attribute)
    ∷ drop 1 (error_value (error_code (failed_error attribute))
    (error_reason (failed_error attribute)))

abbrev pub address_error_fault : List ℕ → Option StunParseError
address_error_fault value =
    if nat_lt (length value) 4 then Some (Truncated 4 (length value)) else (
    option_or
    (if slice_index value 0 == 1 then None else (
    if slice_index value 0 == 2 then None else Some InvalidAttributeData))
    (error_fault value))

-- what was read of a value that has no fault
pub record IsAddressError (value : List ℕ) (attribute : AddressErrorCode) : Type 0 where
  pub family_is : Some (failed_family attribute) ≡ family_of_byte (slice_index value 0)
  pub error_is : IsError (reported_code value) (drop 4 value) (failed_error attribute)

abbrev pub ReadsAddressError : List ℕ → Result AddressErrorCode StunParseError → Type 0
ReadsAddressError value = ReadsInMemory (address_error_fault value) (IsAddressError value)

abbrev pub address_error_text : AddressErrorCode → List ℕ
address_error_text attribute =
    decimal (error_code (failed_error attribute)) ++ codes " '"
    ++ error_reason (failed_error attribute) ++ codes "'"

-- ---- THIRD-PARTY-AUTHORIZATION (RFC 7635, section 6.1): the name of the server, in UTF-8

abbrev pub server_name : ThirdPartyAuthorization → List ℕ
server_name attribute = text_bytes attribute.name

abbrev pub ReadsServerName : List ℕ → Result ThirdPartyAuthorization StunParseError → Type 0
ReadsServerName value =
    ReadsInMemory (text_fault 65535 value) (λ read. server_name read ≡ value)

-- ---- What the RFCs say of the types

-- a channel is a number of RFC 8656, section 12, and of the families ADDITIONAL-ADDRESS-FAMILY holds
-- that of IPv6 alone (section 18.11)
abbrev pub known_type : ℕ → Option Known
known_type type =
    if type == CHANNEL_NUMBER then says 8656 (codes "CHANNEL-NUMBER") (PaddedNumber 2 0x4000 0x4FFF) else (
    if type == LIFETIME then says 8656 (codes "LIFETIME") (Number 4 0 (2 ^ 32 - 1)) else (
    if type == XOR_PEER_ADDRESS then says 8656 (codes "XOR-PEER-ADDRESS") XorAddress else (
    if type == DATA then says 8656 (codes "DATA") Other else (
    if type == XOR_RELAYED_ADDRESS then says 8656 (codes "XOR-RELAYED-ADDRESS") XorAddress else (
    if type == REQUESTED_ADDRESS_FAMILY then says 8656 (codes "REQUESTED-ADDRESS-FAMILY") (PaddedNumber 1 1 2) else (
    if type == EVEN_PORT then says 8656 (codes "EVEN-PORT") (Octets 1) else (
    if type == REQUESTED_TRANSPORT then says 8656 (codes "REQUESTED-TRANSPORT") (PaddedNumber 1 0 255) else (
    if type == DONT_FRAGMENT then says 8656 (codes "DONT-FRAGMENT") Other else (
    if type == ACCESS_TOKEN then says 7635 (codes "ACCESS-TOKEN") Other else (
    if type == RESERVATION_TOKEN then says 8656 (codes "RESERVATION-TOKEN") (Octets 8) else (
    if type == CONNECTION_ID then says 6062 (codes "CONNECTION-ID") (Octets 4) else (
    if type == ADDITIONAL_ADDRESS_FAMILY then says 8656 (codes "ADDITIONAL-ADDRESS-FAMILY") (PaddedNumber 1 2 2) else (
    if type == ADDRESS_ERROR_CODE then says 8656 (codes "ADDRESS-ERROR-CODE") Other else (
    if type == ICMP then says 8656 (codes "ICMP") (Octets 8) else (
    if type == THIRD_PARTY_AUTHORIZATION then says 7635 (codes "THIRD-PARTY-AUTHORIZATION") Other else (
    if type == MOBILITY_TICKET then says 8016 (codes "MOBILITY-TICKET") Other else None))))))))))))))))
