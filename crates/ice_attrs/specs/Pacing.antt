-- Ta and RTO (RFC 8445, section 14), in milliseconds.
use Rattle.std.specs.Prelude.{ℕ, ◌+◌, ◌*◌, ◌-◌, ◌^◌, max, min, Option, Some, None}

-- what an agent proposes: 50 ms if it proposes nothing (section 14.2)
abbrev pub proposed : Option ℕ → ℕ
proposed None = 50
proposed (Some ta) = ta

-- both agents use the greater value, and none sends more often than every 5 ms (section 14.2)
abbrev pub agreed_ta : (own peer : Option ℕ) → ℕ
agreed_ta own peer = max 5 (max (proposed own) (proposed peer))

-- RTO while candidates are gathered, and RTO of a check (section 14.3)
abbrev pub gathering_wait : (ta candidates : ℕ) → ℕ
gathering_wait ta candidates = max 500 (ta * candidates)

abbrev pub check_wait : (ta checks waiting in_progress : ℕ) → ℕ
check_wait ta checks waiting in_progress =
    max 500 (ta * checks * (waiting + in_progress))

-- a number in 64 bits: the greatest one stands for those above
abbrev pub in_64_bits : ℕ → ℕ
in_64_bits n = min n (2 ^ 64 - 1)
