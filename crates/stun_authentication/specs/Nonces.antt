-- Nonces that a server doesn't keep (RFC 8489, sections 9.2, 9.2.1, 9.2.4 and 14.10): a nonce has
-- the time at which it was made, and the first bits of an HMAC under a secret of the server over its
-- cookie, that time, and the address and port that it was sent to.
use Rattle.std.specs.Prelude.{ℕ, ◌+◌, ◌%◌, ◌-◌, ◌^◌, Bool, not, ◌&&◌, List, ◌++◌, take, slice_range, nat_eq, nat_le, ◌==◌, if◌then◌else◌}
use Rattle.std.specs.Cmp.Lexicographic.{pointwise}
use Rattle.stun_grammar.specs.declared.integrity_algorithm.IntegrityAlgorithm.TheVariants.{Sha256}
use Rattle.stun_grammar.specs.Hmac.{hmac}
use Rattle.stun_grammar.specs.Numbers.{number}
use Rattle.stun_keys.specs.Keys.{key_bytes}
use Rattle.stun_values.specs.declared.algorithm.PasswordAlgorithmValue.{PasswordAlgorithmValue}
use Rattle.stun_values.specs.Addresses.{address_value}
use Rattle.stun_authentication.specs.declared.cookie.SecurityFeatures.{SecurityFeatures}
use Rattle.stun_authentication.specs.declared.nonces.Freshness.{Freshness}
use Rattle.stun_authentication.specs.declared.nonces.Freshness.TheVariants.{Fresh, Stale, Unknown}
use Rattle.stun_authentication.specs.declared.nonces.NonceMaker.{NonceMaker}
use Rattle.stun_authentication.specs.declared.nonces.NoncesOf.{NoncesOf}
use Rattle.stun_authentication.specs.Base64.{in_base64, of_base64}
use Rattle.stun_authentication.specs.Cookies.{cookie}
use Rattle.stun_authentication.specs.Lookups.{Known, valid, stale, unknown}

-- ---- A nonce

-- what a server makes nonces by: a secret, its features, and for how many seconds a
-- nonce is valid
pub record Minting : Type 0 where
  pub secret : List ℕ
  pub features : SecurityFeatures
  pub window : ℕ

abbrev pub minting : List ℕ → SecurityFeatures → ℕ → Minting
minting secret features window = record { secret = secret; features = features; window = window }

abbrev pub minting_of : NonceMaker → Minting
minting_of maker = minting (key_bytes maker.secret) maker.features maker.window

-- how many bytes a secret has at least: of a shorter one the nonces can be guessed
abbrev pub secret_min : ℕ
secret_min = 16

-- what a nonce begins with: the cookie, and the last 36 bits of the time, in seconds, in six
-- characters of base64
abbrev pub beginning : Minting → (time : ℕ) → List ℕ
beginning minting time = cookie minting.features ++ in_base64 6 time

-- what the HMAC covers. The cookie is covered, so that a nonce whose features were changed on the
-- way is unknown (RFC 8489, section 9.2.1); place is the address and port that it was sent to, as
-- the value of a MAPPED-ADDRESS
abbrev pub covered_text : Minting → (time : ℕ) → (place : List ℕ) → List ℕ
covered_text minting time place = beginning minting time ++ place

abbrev pub minted_mac : Minting → (time : ℕ) → (place : List ℕ) → List ℕ
minted_mac minting time place = hmac Sha256 minting.secret (covered_text minting time place)

-- the first 96 bits of an HMAC
abbrev pub first_bits : List ℕ → ℕ
first_bits mac = number (take 12 mac)

-- the nonce that is made at a time for a place: its beginning, and the first 96 bits of the HMAC in
-- sixteen characters of base64
abbrev pub minted : Minting → (time : ℕ) → (place : List ℕ) → List ℕ
minted minting time place =
    beginning minting time ++ in_base64 16 (first_bits (minted_mac minting time place))

-- the 36 bits of the time in a nonce
abbrev pub stated_time : List ℕ → ℕ
stated_time nonce = of_base64 (slice_range nonce 13 19)

-- ---- What is known of a nonce

-- how many seconds before now a nonce was made. Times that are 2 ^ 36 seconds apart, 2,177 years, are
-- the same in a nonce, so its age is below that, and a time to come is one of 2 ^ 36 seconds before it
abbrev pub age : (now time : ℕ) → ℕ
age now time = (now + 2 ^ 36 - time) % 2 ^ 36

-- a nonce of the server's own, by its age
abbrev pub aged : Minting → (now time : ℕ) → Freshness
aged minting now time = if nat_le (age now time) minting.window then Fresh else Stale

-- what is known of a nonce that comes from a place: it is the one that was made for that place at
-- its time, or it isn't the server's
abbrev pub freshness : Minting → (now : ℕ) → (place nonce : List ℕ) → Freshness
freshness minting now place nonce =
    if pointwise nat_eq nonce (minted minting (stated_time nonce) place)
    then aged minting now (stated_time nonce) else Unknown

-- as `authenticate_long_term` asks for it, if these algorithms are sent with each nonce
abbrev pub known_as : List PasswordAlgorithmValue → Freshness → Known
known_as algorithms Fresh = valid algorithms
known_as algorithms Stale = stale
known_as algorithms Unknown = unknown

-- the nonces of a maker at a time, for one client
abbrev pub state_of : NoncesOf → List ℕ → Known
state_of nonces nonce =
    known_as nonces.algorithms.now
    (freshness (minting_of nonces.maker.now) nonces.now (address_value nonces.client) nonce)

-- ---- Which characters a NONCE may have (section 14.10, by RFC 3261)

-- qdtext in ASCII, without the white space: no quotation mark and no backslash
abbrev pub is_qdtext : ℕ → Bool
is_qdtext character =
    nat_le 0x21 character && (nat_le character 0x7E
    && (not (character == 0x22) && not (character == 0x5C)))
