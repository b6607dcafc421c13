-- The value of a FINGERPRINT, and why one is refused (RFC 8489, section 14.7).
use Rattle.std.specs.Prelude.{ℕ, ◌+◌, ◌-◌, ◌%◌, List, ◌++◌, length, slice_range, Option, Some, None, ◌==◌, if◌then◌else◌, find, bit_xor, nat_eq, ◌^◌}
use Rattle.std.specs.Cmp.Lexicographic.{pointwise}
use Rattle.std.specs.Option.{option_map_or, option_or}
use Rattle.stun_grammar.specs.declared.error.StunParseError.{StunParseError}
use Rattle.stun_grammar.specs.declared.error.StunParseError.TheVariants.{FingerprintMismatch}
use Rattle.stun_grammar.specs.Numbers.{be16, be32}
use Rattle.stun_grammar.specs.Checksums.{crc}
use Rattle.stun_grammar.specs.Chains.{Shown}
use Rattle.stun_grammar.specs.AttributeTypes.{FINGERPRINT}
use Rattle.stun_grammar.specs.Lengths.{exact_fault}

-- the length field of a message that ends with an attribute of size bytes at an offset: the low
-- sixteen bits of what it counts
abbrev pub ending_length_field : ℕ → ℕ → ℕ
ending_length_field offset size = (offset + size - 20) % 2 ^ 16

-- the message before an offset, with the length field of a message that ends with an attribute of
-- size bytes there
unfoldable pub message_before : List ℕ → ℕ → ℕ → List ℕ
message_before d offset size =
    slice_range d 0 2 ++ (be16 (ending_length_field offset size) ++ slice_range d 4 offset)

-- a checksum as it is sent: XORed with a number that sets it apart from other checksums, in four
-- bytes
abbrev pub masked_checksum : ℕ → List ℕ
masked_checksum checksum = be32 (bit_xor checksum 0x5354554E)

-- the value of a FINGERPRINT at an offset: the masked checksum of the message before it, with a
-- length field that counts the eight bytes of the FINGERPRINT too
unfoldable pub fingerprint_value : List ℕ → ℕ → List ℕ
fingerprint_value d offset = masked_checksum (crc (message_before d offset 8))

-- why a FINGERPRINT at an offset is refused: its value does not have four bytes, or does not match
unfoldable pub fingerprint_fault : List ℕ → ℕ → List ℕ → Option StunParseError
fingerprint_fault d offset value =
    option_or (exact_fault 4 (length value))
    (if pointwise nat_eq value (fingerprint_value d offset) then None else Some FingerprintMismatch)

-- why the first FINGERPRINT among attributes is refused, if there is one
abbrev pub first_fingerprint_fault : List ℕ → List Shown → Option StunParseError
first_fingerprint_fault d attributes =
    option_map_or (λ a. fingerprint_fault d a.offset a.value)
    (find (λ a. a.type == FINGERPRINT) attributes) None
