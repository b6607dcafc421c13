-- The numbers of the attribute types (RFC 8489, section 18.3).
use Rattle.std.specs.Prelude.{◌≡◌, ℕ, Bool, ◌||◌, ◌==◌}

abbrev pub MAPPED_ADDRESS : ℕ
MAPPED_ADDRESS = 0x0001

abbrev pub USERNAME : ℕ
USERNAME = 0x0006

abbrev pub MESSAGE_INTEGRITY : ℕ
MESSAGE_INTEGRITY = 0x0008

abbrev pub ERROR_CODE : ℕ
ERROR_CODE = 0x0009

abbrev pub UNKNOWN_ATTRIBUTES : ℕ
UNKNOWN_ATTRIBUTES = 0x000A

abbrev pub REALM : ℕ
REALM = 0x0014

abbrev pub NONCE : ℕ
NONCE = 0x0015

abbrev pub MESSAGE_INTEGRITY_SHA256 : ℕ
MESSAGE_INTEGRITY_SHA256 = 0x001C

abbrev pub PASSWORD_ALGORITHM : ℕ
PASSWORD_ALGORITHM = 0x001D

abbrev pub USERHASH : ℕ
USERHASH = 0x001E

abbrev pub XOR_MAPPED_ADDRESS : ℕ
XOR_MAPPED_ADDRESS = 0x0020

abbrev pub PASSWORD_ALGORITHMS : ℕ
PASSWORD_ALGORITHMS = 0x8002

abbrev pub ALTERNATE_DOMAIN : ℕ
ALTERNATE_DOMAIN = 0x8003

abbrev pub SOFTWARE : ℕ
SOFTWARE = 0x8022

abbrev pub ALTERNATE_SERVER : ℕ
ALTERNATE_SERVER = 0x8023

abbrev pub FINGERPRINT : ℕ
FINGERPRINT = 0x8028

-- the three ending types, which follow all others; every other type is ordinary
abbrev pub is_ending : ℕ → Bool
is_ending type =
    (type == MESSAGE_INTEGRITY) || ((type == MESSAGE_INTEGRITY_SHA256) || (type == FINGERPRINT))

-- the type of an ordinary attribute: it is none of the three
abbrev pub IsOrdinary : ℕ → Type 0
IsOrdinary type =
    (type ≡ MESSAGE_INTEGRITY → ⊥) × (type ≡ MESSAGE_INTEGRITY_SHA256 → ⊥)
    × (type ≡ FINGERPRINT → ⊥)
