-- The numbers of a row.
use Rattle.std.proofs.Common.{◌≡◌, ℕ, get_or, sym, ◌+◌, ◌-◌, ◌*◌, ◌^◌, ◌<◌, ◌≤◌, Bool, true, false, arith}
use Rattle.std.proofs.lemmas.Bool.Decides.{nat_tests}
use Rattle.std.specs.Prelude.{min, ◌==◌, if◌then◌else◌}
use Rattle.std.proofs.Math.Nat.{mul-le-mul_left}
use Rattle.std.proofs.Math.Pow.{pow_mono}
use Rattle.std.proofs.lemmas.Nat.{pow_below, mul-le}
use Rattle.std.proofs.lemmas.List.FromFn.{get_or-map-range_with_len}
use Rattle.stun_transactions.specs.Rows.{moment, moments, row_end, row_rest}

-- a power of two below the 64th fits 64 bits
pub pow_fits : (n : ℕ) → n < 64 → 2 ^ n < 2 ^ 64
pow_fits n h = pow_below n 64 h

-- more than 64 requests never fit
pub too_many : (rto requests last_wait_factor : ℕ) → 1 ≤ rto → 1 ≤ last_wait_factor → 64 < requests → 2 ^ 64 ≤ row_end rto requests last_wait_factor
too_many rto requests last_wait_factor starts waits many =
    let power : 2 ^ 64 ≤ 2 ^ (requests - 1) = pow_mono {i = 64} {j = requests - 1} (omega arith) in
    let last : 1 * (2 ^ (requests - 1) - 1) ≤ rto * (2 ^ (requests - 1) - 1) = mul-le 1 (2 ^ (requests - 1) - 1) rto (2 ^ (requests - 1) - 1) starts (omega arith) in
    let wait : 1 * 1 ≤ rto * last_wait_factor = mul-le 1 1 rto last_wait_factor starts waits in
    omega arith

-- each interval between two requests fits
pub wait_fits : (rto requests last_wait_factor sent : ℕ) → 1 ≤ sent → sent < requests → row_end rto requests last_wait_factor < 2 ^ 64 → rto * 2 ^ (sent - 1) < 2 ^ 64
wait_fits rto requests last_wait_factor sent some more fits =
    let power : 2 ^ (sent - 1) < 2 ^ (requests - 1) = pow_below (sent - 1) (requests - 1) (omega arith) in
    let interval : rto * 2 ^ (sent - 1) ≤ rto * (2 ^ (requests - 1) - 1) = mul-le-mul_left {m = 2 ^ (sent - 1)} {n = 2 ^ (requests - 1) - 1} rto (omega arith) in
    omega arith

-- each moment fits
pub moment_fits : (rto requests last_wait_factor n : ℕ) → n < requests → row_end rto requests last_wait_factor < 2 ^ 64 → rto * (2 ^ n - 1) < 2 ^ 64
moment_fits rto requests last_wait_factor n more fits =
    let power : 2 ^ n ≤ 2 ^ (requests - 1) = pow_mono {i = n} {j = requests - 1} (omega arith) in
    let interval : rto * (2 ^ n - 1) ≤ rto * (2 ^ (requests - 1) - 1) = mul-le-mul_left {m = 2 ^ n - 1} {n = 2 ^ (requests - 1) - 1} rto (omega arith) in
    omega arith

-- the moment at a place of the row
pub moment_at : (rto requests n : ℕ) → n < requests → rto * (2 ^ n - 1) ≡ get_or (moments rto requests) n 0
moment_at rto requests n more = sym (get_or-map-range_with_len (moment rto) 0 requests n n 0 more (omega arith))

-- no request is sent after the last one
pub no_later : (rto requests k : ℕ) → k < requests → rto * (2 ^ k - 1) ≤ rto * (2 ^ (requests - 1) - 1)
no_later rto requests k more =
    let power : 2 ^ k ≤ 2 ^ (requests - 1) = pow_mono {i = k} {j = requests - 1} (omega arith) in
    mul-le-mul_left {m = 2 ^ k - 1} {n = 2 ^ (requests - 1) - 1} rto (omega arith)

-- the last of so many requests is the last one that was sent
last_sent : (requests k : ℕ) → k < requests → min (k + 1) requests - 1 ≡ k
last_sent requests k more = omega arith

-- what is left after a request ends where the row does
left_by : (rto requests last_wait_factor k n : ℕ) (none : Bool) → k < requests → n ≡ k → none ≡ false
    → moment rto k + (if none then 0 else row_end rto requests last_wait_factor - moment rto n) ≡ row_end rto requests last_wait_factor
left_by rto requests last_wait_factor k n true more same some = absurd cc
left_by rto requests last_wait_factor k n false more same some =
    let before = no_later rto requests k more in
    rw same (omega (arith, before))

pub rest_ends : (rto requests last_wait_factor k : ℕ) → k < requests → moment rto k + row_rest rto requests last_wait_factor (k + 1) ≡ row_end rto requests last_wait_factor
rest_ends rto requests last_wait_factor k more =
    left_by rto requests last_wait_factor k (min (k + 1) requests - 1) ((k + 1) == 0) more (last_sent requests k more) (grind (arith, nat_tests))
