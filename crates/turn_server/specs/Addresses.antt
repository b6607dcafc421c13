-- The addresses of peers in attributes (RFC 8656, section 18.3).
use Rattle.std.specs.Prelude.{ℕ, ◌/◌, ◌^◌, Bool, not, is_some, List, drop, bit_xor, slice_index, Option, None, Some, option_and_then, if◌then◌else◌}
use Rattle.stun_grammar.specs.Headers.{magic_cookie, id_field}
use Rattle.stun_grammar.specs.Numbers.{number}
use Rattle.stun_values.specs.Addresses.{address_fault, port_in, xor_bytes, mask}
use Rattle.stun_authentication.specs.Identities.{value_of}
use Rattle.turn_attrs.specs.Turn.{XOR_PEER_ADDRESS}
use Rattle.stun_endpoints.specs.declared.endpoints.Endpoint.{Endpoint}

-- whether a value is an address: a family of 1 or 2, and the length that it asks for
abbrev pub is_address : List ℕ → Bool
is_address value = not (is_some (address_fault value))

-- the peer that it is, under the XOR with the cookie and the transaction ID
abbrev pub peer_in : (id : ℕ) → List ℕ → Endpoint
peer_in id value = record {
  ip = record {
    family = slice_index value 1;
    number = number (xor_bytes (drop 4 value) (mask id));
  };
  port = bit_xor (port_in value) (magic_cookie / 2 ^ 16);
}

abbrev pub peer_read : (id : ℕ) → List ℕ → Option Endpoint
peer_read id value = if is_address value then Some (peer_in id value) else None

-- the peer that d names first: None if it names none, or the value is malformed
abbrev pub peer_of : List ℕ → Option Endpoint
peer_of d = option_and_then (peer_read (id_field d)) (value_of d XOR_PEER_ADDRESS)
