-- The value of a FINGERPRINT and the checksum that it stands for (RFC 8489, section 14.7).
use Rattle.std.specs.Prelude.{ℕ, List}
use Rattle.std.specs.Int.{w32, from_be_bytes}
use Rattle.stun_grammar.specs.Fingerprints.{masked_checksum}

-- four bytes, XORed as they are sent; twice, that gives the bytes back
abbrev pub masked_bytes : List ℕ → List ℕ
masked_bytes bytes = masked_checksum (from_be_bytes w32 bytes)
