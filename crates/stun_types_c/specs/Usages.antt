-- What C says of a usage of STUN (RFC 8489, sections 13 and 14.6).
use Rattle.std.specs.Prelude.{ℕ, Bool, ◌||◌, Option, None, Some, ◌==◌, if◌then◌else◌}

-- whether a MESSAGE-INTEGRITY-SHA256 may have so many bytes (section 14.6)
abbrev pub is_hmac_length : ℕ → Bool
is_hmac_length n = (n == 16) || ((n == 20) || ((n == 24) || ((n == 28) || (n == 32))))

-- how many bytes it has at least, by a number: 0 names 32, since only a usage may allow fewer
abbrev pub min_hmac_length_named : ℕ → Option ℕ
min_hmac_length_named number =
    if number == 0 then Some 32 else (if is_hmac_length number then Some number else None)
