-- The texts of codes.
use Rattle.std.specs.Prelude.{ℕ, ◌-◌, ◌==◌, List, [], ◌∷◌, ◌++◌, take, codes, if◌then◌else◌}
use Rattle.stun_types_c.specs.Codes.{OK, NOT_STUN, TRUNCATED, TOO_LARGE, FINGERPRINT_MISMATCH, MISSING_ATTRIBUTE, INVALID_DATA, INTEGRITY_FAILED, OUT_OF_MEMORY, TOO_SMALL, EXISTS, ENDING_TYPE, OUT_OF_RANGE, BAD_ARGUMENT, NO_KEY, NOT_PADDED, NOT_A_REQUEST, NOT_SIGNED, SIGNED, NOT_A_CHALLENGE, BID_DOWN, INCOMPLETE, NO_ALGORITHM, SAME_CREDENTIALS, HMAC_TOO_SHORT}
use Rattle.stun_types_c.specs.AllocationCodes.{FULL, OTHER_FAMILY}

-- a short English text for a code
abbrev pub code_text : ℕ → List ℕ
code_text code =
    if code == OK then codes "no error" else (
    if code == NOT_STUN then codes "not a STUN message" else (
    if code == TRUNCATED then codes "bytes are missing" else (
    if code == TOO_LARGE then codes "too many bytes" else (
    if code == FINGERPRINT_MISMATCH then codes "the FINGERPRINT is wrong" else (
    if code == MISSING_ATTRIBUTE then codes "an attribute is missing" else (
    if code == INVALID_DATA then codes "the value of an attribute is invalid" else (
    if code == INTEGRITY_FAILED then codes "the HMAC is wrong" else (
    if code == OUT_OF_MEMORY then codes "out of memory" else (
    if code == TOO_SMALL then codes "the slice is too small" else (
    if code == EXISTS then codes "an attribute that is written blocks the addition" else (
    if code == ENDING_TYPE then codes "attributes of this type have an add of their own" else (
    if code == OUT_OF_RANGE then codes "a number is out of range" else (
    if code == BAD_ARGUMENT then codes "an argument is invalid" else (
    if code == NO_KEY then codes "there is no key" else (
    if code == NOT_PADDED then codes "the length field is no multiple of 4" else (
    if code == NOT_A_REQUEST then codes "the message is no request" else (
    if code == NOT_SIGNED then codes "the request isn't signed" else (
    if code == SIGNED then codes "the request is signed" else (
    if code == NOT_A_CHALLENGE then codes "the response asks for no credentials" else (
    if code == BID_DOWN then codes "the response may have been tampered with" else (
    if code == INCOMPLETE then codes "REALM or NONCE is missing" else (
    if code == NO_ALGORITHM then codes "no password algorithm is supported" else (
    if code == SAME_CREDENTIALS then codes "the credentials were refused already" else (
    if code == HMAC_TOO_SHORT then codes "the HMAC is cut to too few bytes" else (
    if code == FULL then codes "there is no room" else (
    if code == OTHER_FAMILY then codes "the address is of another family" else codes "unknown code"))))))))))))))))))))))))))

-- a text, cut to a number of bytes with the 0 after it
abbrev pub ended : (room : ℕ) (text : List ℕ) → List ℕ
ended room text = if room == 0 then [] else take (room - 1) text ++ 0 ∷ []
