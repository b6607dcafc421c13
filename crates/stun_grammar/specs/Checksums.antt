-- The checksum of a FINGERPRINT (RFC 8489, section 14.7): CRC-32 as ISO-HDLC defines it, bit by
-- bit.
use Rattle.std.specs.Prelude.{ℕ, zero, suc, ◌%◌, ◌/◌, List, fold, bit_xor, ◌==◌, if◌then◌else◌}

-- the register after its lowest bit is shifted out: if that bit was 1, the polynomial is XORed
-- in
abbrev pub shifted : ℕ → ℕ
shifted register = if register % 2 == 1 then bit_xor (register / 2) 0xEDB88320 else register / 2

-- the register after n bits are shifted out
unfoldable pub shifted_by : ℕ → ℕ → ℕ
shifted_by zero register = register
shifted_by (suc n) register = shifted_by n (shifted register)

-- the register after one more byte
abbrev pub after_byte : ℕ → ℕ → ℕ
after_byte register byte = shifted_by 8 (bit_xor register byte)

-- the register begins with all bits set, and all bits are inverted at the end
unfoldable pub crc : List ℕ → ℕ
crc bytes = bit_xor (fold after_byte 0xFFFFFFFF bytes) 0xFFFFFFFF
