-- The user of a relayed address, a number of 256 bits in two halves.
use Rattle.std.specs.Prelude.{◌≡◌, ℕ, ◌+◌, ◌*◌, ◌^◌, ◌==◌, ◌&&◌, Bool, List, length, fold, take, drop}
pub use Rattle.turn_slots.specs.declared.users.UserId.{UserId}

abbrev pub is_user : UserId → UserId → Bool
is_user a b = (a.high == b.high) && (a.low == b.low)

abbrev pub user_number : UserId → ℕ
user_number user = user.high * 2 ^ 128 + user.low

-- the number whose bytes these are, the most significant first
abbrev pub number_of : List ℕ → ℕ
number_of = fold (λ high byte. 256 * high + byte) 0

-- the user of 32 bytes
abbrev pub user_of : List ℕ → UserId
user_of bytes = record { high = number_of (take 16 bytes); low = number_of (drop 16 bytes) }

-- the number of a user is that of its 32 bytes
abbrev pub UserNumbersAreTheirBytes : Type 0
UserNumbersAreTheirBytes =
    (bytes : List ℕ) → length bytes ≡ 32 → user_number (user_of bytes) ≡ number_of bytes
