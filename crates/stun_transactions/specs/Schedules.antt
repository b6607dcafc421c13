-- Schedules: what they are made of, and how long they say to wait (RFC 8489, section 6.2).
use Rattle.std.specs.Prelude.{◌≡◌, ℕ, ◌^◌, ◌||◌, Option, None, Some, nat_lt, ◌==◌, if◌then◌else◌}
use Rattle.stun_base.specs.declared.transport.TransportType.{TransportType}
use Rattle.stun_base.specs.declared.transport.TransportType.TheVariants.{Udp, Tcp}
use Rattle.stun_transactions.specs.declared.schedule.Schedule.{Schedule}
use Rattle.stun_transactions.specs.declared.plan.Plan.{Plan}
use Rattle.stun_transactions.specs.declared.schedule.ScheduleError.{ScheduleError}
use Rattle.stun_transactions.specs.declared.schedule.ScheduleError.TheVariants.{Zero, TooLong}
use Rattle.stun_transactions.specs.Rows.{row_end, row_wait, row_rest}

-- why no schedule has these numbers: one of them is 0, or the end is no number of 64 bits
abbrev pub schedule_fault : (rto requests last_wait_factor : ℕ) → Option ScheduleError
schedule_fault rto requests last_wait_factor =
    if (rto == 0) || ((requests == 0) || (last_wait_factor == 0)) then Some Zero
    else (if nat_lt (row_end rto requests last_wait_factor) (2 ^ 64) then None else Some TooLong)

-- a schedule of these numbers
pub record IsSchedule (rto requests last_wait_factor reliable_timeout : ℕ)
    (schedule : Schedule) : Type 0 where
  pub rto_is : schedule.rto ≡ rto
  pub max_requests_is : schedule.max_requests ≡ requests
  pub last_wait_factor_is : schedule.last_wait_factor ≡ last_wait_factor
  pub reliable_timeout_is : schedule.reliable_timeout ≡ reliable_timeout

-- how many requests are sent over a transport: over a reliable one a single one
abbrev pub requests_over : Schedule → TransportType → ℕ
requests_over schedule Udp = schedule.max_requests
requests_over schedule Tcp = 1

-- how many milliseconds nothing is done once so many requests were sent over a transport: over a
-- reliable one Ti (RFC 8489, section 6.2.2)
abbrev pub wait_over : Schedule → TransportType → ℕ → ℕ
wait_over schedule Udp sent = row_wait schedule.rto schedule.max_requests schedule.last_wait_factor sent
wait_over schedule Tcp sent = if sent == 0 then 0 else schedule.reliable_timeout

-- how many milliseconds a response is still waited for once so many requests were sent over a
-- transport, and no further one is sent: the transaction ends when it would have ended
abbrev pub rest_over : Schedule → TransportType → ℕ → ℕ
rest_over schedule Udp sent = row_rest schedule.rto schedule.max_requests schedule.last_wait_factor sent
rest_over schedule Tcp sent = if sent == 0 then 0 else schedule.reliable_timeout

-- the same by a plan
abbrev pub requests_in : Plan → ℕ
requests_in plan = requests_over plan.schedule plan.transport

abbrev pub wait_in : Plan → ℕ → ℕ
wait_in plan sent = wait_over plan.schedule plan.transport sent

abbrev pub rest_in : Plan → ℕ → ℕ
rest_in plan sent = rest_over plan.schedule plan.transport sent
