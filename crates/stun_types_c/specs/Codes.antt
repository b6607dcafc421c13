-- The codes of an answer.
use Rattle.std.specs.Prelude.{ℕ}

abbrev pub OK : ℕ
OK = 0

abbrev pub NOT_STUN : ℕ
NOT_STUN = 1

abbrev pub TRUNCATED : ℕ
TRUNCATED = 2

abbrev pub TOO_LARGE : ℕ
TOO_LARGE = 3

abbrev pub FINGERPRINT_MISMATCH : ℕ
FINGERPRINT_MISMATCH = 4

abbrev pub MISSING_ATTRIBUTE : ℕ
MISSING_ATTRIBUTE = 5

abbrev pub INVALID_DATA : ℕ
INVALID_DATA = 6

abbrev pub INTEGRITY_FAILED : ℕ
INTEGRITY_FAILED = 7

abbrev pub OUT_OF_MEMORY : ℕ
OUT_OF_MEMORY = 8

abbrev pub TOO_SMALL : ℕ
TOO_SMALL = 9

abbrev pub EXISTS : ℕ
EXISTS = 10

abbrev pub ENDING_TYPE : ℕ
ENDING_TYPE = 11

abbrev pub OUT_OF_RANGE : ℕ
OUT_OF_RANGE = 12

abbrev pub BAD_ARGUMENT : ℕ
BAD_ARGUMENT = 13

abbrev pub NO_KEY : ℕ
NO_KEY = 14

abbrev pub NOT_PADDED : ℕ
NOT_PADDED = 15

abbrev pub NOT_A_REQUEST : ℕ
NOT_A_REQUEST = 16

abbrev pub NOT_SIGNED : ℕ
NOT_SIGNED = 17

abbrev pub SIGNED : ℕ
SIGNED = 18

abbrev pub NOT_A_CHALLENGE : ℕ
NOT_A_CHALLENGE = 19

abbrev pub BID_DOWN : ℕ
BID_DOWN = 20

abbrev pub INCOMPLETE : ℕ
INCOMPLETE = 21

abbrev pub NO_ALGORITHM : ℕ
NO_ALGORITHM = 22

abbrev pub SAME_CREDENTIALS : ℕ
SAME_CREDENTIALS = 23

abbrev pub HMAC_TOO_SHORT : ℕ
HMAC_TOO_SHORT = 24
