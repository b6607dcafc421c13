-- Rates, as the server's processes have them too: the generic cell rate algorithm.
use Rattle.std.specs.Prelude.{ℕ, ◌+◌, ◌*◌, ◌/◌, max, nat_lt, if◌then◌else◌}

-- what so many octets or datagrams take of a second, in nanoseconds; more than a second has take it all
abbrev pub price : (rate amount : ℕ) → ℕ
price rate amount = if nat_lt amount rate then amount * 1_000_000_000 / rate else 1_000_000_000

-- until when all is paid for after they pass, if it was until another moment
abbrev pub paid_until : (rate amount now until : ℕ) → ℕ
paid_until rate amount now until = max until now + price rate amount
