-- The reason phrases of error codes: those of RFC 8489, section 14.8, 8656, section 19, 6062, section
-- 6.3, and 8445, section 20.2. 401 has that of RFC 5389, section 15.6, and 440 capital letters, as the
-- Rust crate prints them.
use Rattle.std.specs.Prelude.{ℕ, List, [], ◌∷◌, codes}

-- the codes that have one, and three that have none
abbrev pub all_codes : List ℕ
all_codes =
    300 ∷ 400 ∷ 401 ∷ 403 ∷ 420 ∷ 437 ∷ 438 ∷ 440 ∷ 441 ∷ 442 ∷
    443 ∷ 446 ∷ 447 ∷ 486 ∷ 487 ∷ 500 ∷ 508 ∷ 301 ∷ 600 ∷ 699 ∷ []

abbrev pub all_reasons : List (List ℕ)
all_reasons =
    codes "Try Alternate" ∷
    codes "Bad Request" ∷
    codes "Unauthorized" ∷
    codes "Forbidden" ∷
    codes "Unknown Attribute" ∷
    codes "Allocation Mismatch" ∷
    codes "Stale Nonce" ∷
    codes "Address Family Not Supported" ∷
    codes "Wrong Credentials" ∷
    codes "Unsupported Transport Protocol" ∷
    codes "Peer Address Family Mismatch" ∷
    codes "Connection Already Exists" ∷
    codes "Connection Timeout or Failure" ∷
    codes "Allocation Quota Reached" ∷
    codes "Role Conflict" ∷
    codes "Server Error" ∷
    codes "Insufficient Capacity" ∷
    codes "Unknown" ∷
    codes "Unknown" ∷
    codes "Unknown" ∷ []
