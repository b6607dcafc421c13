-- When a request is sent over an unreliable transport, and when its transaction ends (RFC 8489,
-- section 6.2.1). Times are milliseconds, counted from when the first request is sent.
use Rattle.std.specs.Prelude.{ℕ, ◌+◌, ◌-◌, ◌*◌, ◌^◌, List, map, min, nat_lt, ◌==◌, if◌then◌else◌}
use Rattle.std.specs.List.{range_with_len}

-- when request number k, counted from 0, is sent: the first interval is RTO, and each further one
-- twice the one before it
abbrev pub moment : ℕ → ℕ → ℕ
moment rto k = rto * (2 ^ k - 1)

-- the moments at which the requests are sent
abbrev pub moments : (rto requests : ℕ) → List ℕ
moments rto requests = map (moment rto) (range_with_len 0 requests)

-- when the transaction ends: Rm times RTO after the last request
abbrev pub row_end : (rto requests last_wait_factor : ℕ) → ℕ
row_end rto requests last_wait_factor = moment rto (requests - 1) + rto * last_wait_factor

-- how long nothing is done once so many requests were sent: before the first one not at all, after
-- it RTO, after each further one twice as long, and after the last one Rm times RTO
abbrev pub row_wait : (rto requests last_wait_factor sent : ℕ) → ℕ
row_wait rto requests last_wait_factor sent =
    if sent == 0 then 0
    else (if nat_lt sent requests then rto * 2 ^ (sent - 1) else rto * last_wait_factor)

-- how long it is from the last of so many requests to the end: all the waits that are still to come
abbrev pub row_rest : (rto requests last_wait_factor sent : ℕ) → ℕ
row_rest rto requests last_wait_factor sent =
    if sent == 0 then 0
    else row_end rto requests last_wait_factor - moment rto (min sent requests - 1)
