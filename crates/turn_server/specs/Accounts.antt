-- The number by which the allocations name a user.
use Rattle.std.specs.Prelude.{ℕ, List, length, replicate, ◌==◌, if◌then◌else◌}
use Rattle.stun_attributes.specs.Userhash.{user_hash}
use Rattle.stun_authentication.specs.Identities.{Who, named, hashed}
use Rattle.turn_slots.specs.Users.{number_of}

-- the USERHASH of a user in a realm (RFC 8489, section 14.4), which has 32 bytes: of another length it is
-- nobody's
abbrev pub hash_of : (realm : List ℕ) → Who → List ℕ
hash_of realm (named name) = user_hash name realm
hash_of realm (hashed hash) = if length hash == 32 then hash else replicate 32 0

-- as a number: the same one for a name and its USERHASH
abbrev pub account_of : (realm : List ℕ) → Who → ℕ
account_of realm user = number_of (hash_of realm user)
