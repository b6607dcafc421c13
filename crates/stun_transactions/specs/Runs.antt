-- Sequences of calls on a transaction, and the moments at which its requests are sent.
use Rattle.std.specs.Prelude.{◌≡◌, ℕ, ◌+◌, ◌*◌, ◌<◌, ◌≤◌, Bool, true, false, List, [], ◌∷◌, Option, None, Some, is_some, MatchOption, if◌then◌else◌}
use Rattle.std.specs.Duration.{as_nanos}
use Rattle.std.specs.declared.time.Duration.{Duration}
use Rattle.stun_transactions.specs.declared.plan.Plan.{Plan}
use Rattle.stun_transactions.specs.declared.retransmission.RetransmissionState.{RetransmissionState}
use Rattle.stun_transactions.specs.declared.retransmission.Action.{Action}
use Rattle.stun_transactions.specs.declared.retransmission.Action.TheVariants.{Send, WaitUntil, Ended}
use Rattle.stun_transactions.specs.Schedules.{requests_in, wait_in}
use Rattle.stun_transactions.specs.Retransmissions.{Polls}

-- what any call but a poll leaves: what was sent stays so, and so does an end, and that nothing more
-- is sent
pub record Stays (old new : RetransmissionState) : Type 0 where
  pub sent : new.sent ≡ old.sent
  pub last : new.last ≡ old.last
  pub stopped : old.stopped ≡ true → new.stopped ≡ true
  pub ended : is_some old.end ≡ true → new ≡ old

-- a call: of a poll its moment and its answer, and of each call the state that it leaves
pub record Call : Type 0 where
  pub poll : Option (Duration × Action)
  pub left : RetransmissionState

-- a call on a transaction that has come so far
abbrev pub IsCall : Plan → RetransmissionState → Call → Type 0
IsCall plan old call =
    MatchOption call.poll (Stays old call.left) (λ p. Polls plan old p.0 p.1 call.left)

-- calls, one after the other
abbrev pub IsRun : Plan → RetransmissionState → List Call → Type 0
IsRun plan old [] = Unit {0}
IsRun plan old (call ∷ calls) = IsCall plan old call × IsRun plan call.left calls

-- whether an action, and a call, sends the request
abbrev pub is_send : Action → Bool
is_send Send = true
is_send (WaitUntil until) = false
is_send (Ended end) = false

abbrev pub hands_out : Option (Duration × Action) → Bool
hands_out None = false
hands_out (Some p) = is_send p.1

-- the moments, in nanoseconds, at which calls send the request
abbrev pub sends : List Call → List ℕ
sends [] = []
sends (call ∷ calls) =
    if hands_out call.poll then as_nanos call.left.last ∷ sends calls else sends calls

-- moments of further requests, once so many were sent, the last of them at a moment: each has its
-- place among those that the plan allows, and comes no sooner than an interval after the one before
abbrev pub IsSpaced : Plan → (sent last : ℕ) → List ℕ → Type 0
IsSpaced plan sent last [] = Unit {0}
IsSpaced plan sent last (moment ∷ moments) =
    (sent < requests_in plan) × (last + wait_in plan sent * 1_000_000 ≤ moment)
    × IsSpaced plan (sent + 1) moment moments

-- the state after calls
abbrev pub left_by : RetransmissionState → List Call → RetransmissionState
left_by state [] = state
left_by state (call ∷ calls) = left_by call.left calls
