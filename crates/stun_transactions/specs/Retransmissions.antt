-- How a transaction goes on in time (RFC 8489, sections 6.2.1 and 6.2.2). Moments are nanoseconds
-- from the beginning of the caller's clock.
use Rattle.std.specs.Prelude.{◌≡◌, ℕ, ◌+◌, ◌*◌, ◌<◌, ◌≤◌, Bool, true, false, ◌⊎◌, Option, None, Some, is_some, min, nat_lt, nat_le, not, ◌-◌, ◌&&◌, ◌||◌, ◌==◌, MatchOption, if◌then◌else◌}
use Rattle.std.specs.Duration.{as_nanos, max_nanos}
use Rattle.std.specs.declared.time.Duration.{Duration}
use Rattle.stun_transactions.specs.declared.plan.Plan.{Plan}
use Rattle.stun_transactions.specs.declared.retransmission.RetransmissionState.{RetransmissionState}
use Rattle.stun_transactions.specs.declared.retransmission.Action.{Action}
use Rattle.stun_transactions.specs.declared.retransmission.Action.TheVariants.{Send, WaitUntil, Ended}
use Rattle.stun_transactions.specs.declared.retransmission.TransactionEnd.{TransactionEnd}
use Rattle.stun_transactions.specs.declared.retransmission.TransactionEnd.TheVariants.{Answered, TimedOut, IntegrityViolated, Cancelled}
use Rattle.stun_transactions.specs.Schedules.{requests_in, wait_in, rest_in}

-- the moment of a call: a clock that steps back counts as stopped
abbrev pub later : Duration → Duration → Duration
later clock now = if nat_lt (as_nanos clock) (as_nanos now) then now else clock

-- the state of a transaction that begins now
abbrev pub begun : Duration → RetransmissionState
begun now = record {
  sent = 0;
  last = now;
  clock = now;
  violated = false;
  stopped = false;
  end = None;
}

-- how many milliseconds nothing is done after the last request was sent: until the next one,
-- or until the end if the caller has stopped sending
abbrev pub wait_of : Plan → RetransmissionState → ℕ
wait_of plan state = if state.stopped then rest_in plan state.sent else wait_in plan state.sent

-- when something is to be done
abbrev pub due : Plan → RetransmissionState → ℕ
due plan state = as_nanos state.last + wait_of plan state * 1_000_000

-- whether a further request is to be sent
abbrev pub has_more : Plan → RetransmissionState → Bool
has_more plan state = not state.stopped && nat_lt state.sent (requests_in plan)

-- whether a poll sends the request, or reports an end
abbrev pub is_ready : Plan → RetransmissionState → Duration → Bool
is_ready plan state now =
    is_some state.end || nat_le (due plan state) (as_nanos (later state.clock now))

-- how a transaction ends when its time is up: if responses were discarded since they weren't
-- authentic, that is reported instead (RFC 8489, 9.1.4 and 9.2.5); if the caller has stopped
-- sending, that no response came is no failure (RFC 8445, section 7.3.1.4)
abbrev pub end_of : RetransmissionState → TransactionEnd
end_of state =
    if state.stopped then Cancelled
    else (if state.violated then IntegrityViolated else TimedOut)

-- a request is sent: its moment has come, and not all were sent
pub record Sends (plan : Plan) (old : RetransmissionState) (at : Duration)
    (new : RetransmissionState) : Type 0 where
  pub ongoing : old.end ≡ None
  pub due_is : due plan old ≤ as_nanos at
  pub more : has_more plan old ≡ true
  pub new_is : new ≡ record old { sent = old.sent + 1; last = at; clock = at }

-- nothing is done before a moment, which is still to come; no moment is reported past the greatest
-- that a `Duration` can hold
pub record Waits (plan : Plan) (old : RetransmissionState) (at until : Duration)
    (new : RetransmissionState) : Type 0 where
  pub ongoing : old.end ≡ None
  pub early : as_nanos at < due plan old
  pub until_is : as_nanos until ≡ min (due plan old) max_nanos
  pub new_is : new ≡ record old { clock = at }

-- time is up: no further request is to be sent, and the wait after the last one is over
pub record TimesOut (plan : Plan) (old : RetransmissionState) (at : Duration) (end : TransactionEnd)
    (new : RetransmissionState) : Type 0 where
  pub ongoing : old.end ≡ None
  pub due_is : due plan old ≤ as_nanos at
  pub all : has_more plan old ≡ false
  pub end_is : end ≡ end_of old
  pub new_is : new ≡ record old { clock = at; end = Some end }

-- it has ended before, and nothing changes
pub record IsOver (old : RetransmissionState) (end : TransactionEnd)
    (new : RetransmissionState) : Type 0 where
  pub end_is : old.end ≡ Some end
  pub same : new ≡ old

-- what a poll at a moment answers and leaves
abbrev pub Polls : Plan → RetransmissionState → Duration → Action → RetransmissionState → Type 0
Polls plan old now Send new = Sends plan old (later old.clock now) new
Polls plan old now (WaitUntil until) new = Waits plan old (later old.clock now) until new
Polls plan old now (Ended end) new =
    IsOver old end new ⊎ TimesOut plan old (later old.clock now) end new

-- the state of a transaction that is ended, unless it has ended before
abbrev pub ended_by : TransactionEnd → RetransmissionState → RetransmissionState
ended_by end state = if is_some state.end then state else record state { end = Some end }

-- the state of a transaction that sends nothing more, unless it has ended before (RFC 8445, section
-- 7.3.1.4)
abbrev pub stopped_by : RetransmissionState → RetransmissionState
stopped_by state = if is_some state.end then state else record state { stopped = true }

-- whether a response was taken
abbrev pub is_answered : Option TransactionEnd → Bool
is_answered (Some Answered) = true
is_answered _ = false

-- whether the time of the round trip is known: a response was taken, and a single request was sent
-- (RFC 8489, section 6.2.1)
abbrev pub is_timed : RetransmissionState → Bool
is_timed state = is_answered state.end && (state.sent == 1)

-- the time is known from when the request was sent to a moment, if it is reported
abbrev pub TellsTime : RetransmissionState → Duration → Option Duration → Type 0
TellsTime state now reported =
    MatchOption reported (is_timed state ≡ false)
    (λ time. (is_timed state ≡ true) × (as_nanos time ≡ as_nanos now - as_nanos state.last))
