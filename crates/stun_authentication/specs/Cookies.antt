-- The beginning of a nonce that has the security features of its server (RFC 8489, sections 9.2
-- and 18.1).
use Rattle.std.specs.Prelude.{ℕ, Bool, true, false, ◌&&◌, List, ◌++◌, codes, length, slice_index, Option, None, Some, is_some, nat_eq, nat_le, bit_and, ◌==◌, not, if◌then◌else◌}
use Rattle.std.specs.List.{starts_with}
use Rattle.std.specs.Option.{option_map}
use Rattle.stun_authentication.specs.declared.cookie.SecurityFeatures.{SecurityFeatures}
use Rattle.stun_authentication.specs.Base64.{six_bits}

-- bits 0 and 1 of the 24 are the two most significant of the first six
abbrev pub features_of : ℕ → SecurityFeatures
features_of first = record {
  password_algorithms = not (bit_and first 0x20 == 0);
  username_anonymity = not (bit_and first 0x10 == 0);
}

-- whether the nonce has four characters of base64 after its first nine bytes
abbrev pub spells_bits : List ℕ → Bool
spells_bits nonce =
    is_some (six_bits (slice_index nonce 9)) && (is_some (six_bits (slice_index nonce 10))
    && (is_some (six_bits (slice_index nonce 11)) && is_some (six_bits (slice_index nonce 12))))

-- whether it begins with a nonce cookie
abbrev pub has_cookie : List ℕ → Bool
has_cookie nonce =
    nat_le 13 (length nonce) && (starts_with nat_eq nonce (codes "obMatJos2") && spells_bits nonce)

-- the features of a nonce, if it begins with a nonce cookie
unfoldable pub security_features : List ℕ → Option SecurityFeatures
security_features nonce =
    if has_cookie nonce then option_map features_of (six_bits (slice_index nonce 9)) else None

-- whether it says that PASSWORD-ALGORITHMS is sent with it
abbrev pub promises : Option SecurityFeatures → Bool
promises None = false
promises (Some features) = features.password_algorithms

abbrev pub promises_algorithms : List ℕ → Bool
promises_algorithms nonce = promises (security_features nonce)

-- whether it says that the server supports USERHASH
abbrev pub is_anonymous : Option SecurityFeatures → Bool
is_anonymous None = false
is_anonymous (Some features) = features.username_anonymity

-- the nonce cookie of these features, by the two bits
abbrev pub four_characters : (algorithms anonymity : Bool) → List ℕ
four_characters false false = codes "AAAA"
four_characters true false = codes "gAAA"
four_characters false true = codes "QAAA"
four_characters true true = codes "wAAA"

abbrev pub cookie : SecurityFeatures → List ℕ
cookie features =
    codes "obMatJos2" ++ four_characters features.password_algorithms features.username_anonymity
