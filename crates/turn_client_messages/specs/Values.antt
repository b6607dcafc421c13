-- What the attributes of a message say, each by the first one of its type. None if there is none,
-- or its value is malformed.
use Rattle.std.specs.Prelude.{ℕ, ◌/◌, ◌^◌, Bool, not, is_some, List, length, drop, bit_xor, slice_index, Option, None, Some, option_and_then, ◌==◌, if◌then◌else◌}
use Rattle.stun_grammar.specs.AttributeTypes.{ALTERNATE_SERVER}
use Rattle.stun_grammar.specs.Headers.{magic_cookie, id_field}
use Rattle.stun_grammar.specs.Numbers.{number}
use Rattle.stun_values.specs.Addresses.{address_fault, address_in, port_in, xor_bytes, mask}
use Rattle.stun_authentication.specs.Identities.{value_of}
use Rattle.stun_endpoints.specs.declared.endpoints.Endpoint.{Endpoint}
use Rattle.stun_endpoints.specs.Conversions.{endpoint_of}
use Rattle.turn_attrs.specs.declared.icmp.IcmpError.{IcmpError}
use Rattle.turn_attrs.specs.Turn.{ICMP, LIFETIME, RESERVATION_TOKEN, icmp_in}

-- whether a value is an address: a family of 1 or 2, and the length that goes with it
abbrev pub is_address : List ℕ → Bool
is_address value = not (is_some (address_fault value))

-- ---- Addresses under the XOR with the cookie and the transaction ID (RFC 8489, section 14.2)

abbrev pub unxored : (id : ℕ) → List ℕ → Endpoint
unxored id value = record {
  ip = record {
    family = slice_index value 1;
    number = number (xor_bytes (drop 4 value) (mask id));
  };
  port = bit_xor (port_in value) (magic_cookie / 2 ^ 16);
}

abbrev pub read_xored : (id : ℕ) → List ℕ → Option Endpoint
read_xored id value = if is_address value then Some (unxored id value) else None

abbrev pub xored_in : (type : ℕ) → List ℕ → Option Endpoint
xored_in type d = option_and_then (read_xored (id_field d)) (value_of d type)

-- ---- The alternate server (RFC 8489, section 14.15)

abbrev pub read_plain : List ℕ → Option Endpoint
read_plain value = if is_address value then Some (endpoint_of (address_in value)) else None

abbrev pub of_family : (family : ℕ) → Endpoint → Option Endpoint
of_family family address = if address.ip.family == family then Some address else None

-- the alternate server of this family
abbrev pub alternate_in : (family : ℕ) → List ℕ → Option Endpoint
alternate_in family d =
    option_and_then (of_family family) (option_and_then read_plain (value_of d ALTERNATE_SERVER))

-- ---- The lifetime in seconds (RFC 8656, section 18.2)

abbrev pub read_seconds : List ℕ → Option ℕ
read_seconds value = if length value == 4 then Some (number value) else None

abbrev pub lifetime_in : List ℕ → Option ℕ
lifetime_in d = option_and_then read_seconds (value_of d LIFETIME)

-- ---- Eight bytes: a token (RFC 8656, section 18.10), and an ICMP error (section 18.13)

abbrev pub read_eight : List ℕ → Option ℕ
read_eight value = if length value == 8 then Some (number value) else None

abbrev pub token_in : List ℕ → Option ℕ
token_in d = option_and_then read_eight (value_of d RESERVATION_TOKEN)

abbrev pub icmp_error_in : List ℕ → Option IcmpError
icmp_error_in d = option_and_then icmp_in (option_and_then read_eight (value_of d ICMP))
