-- The first poll.
use Rattle.std.proofs.Common.{◌≡◌, ◌+◌, ◌*◌, ◌<◌, ◌≤◌, Bool, true, false, refl, subst, inl, inr, arith}
use Rattle.std.specs.Prelude.{nat_lt, if◌then◌else◌}
use Rattle.std.proofs.lemmas.Bool.{ltb-false}
use Rattle.std.specs.Duration.{as_nanos}
use Rattle.std.specs.declared.time.Duration.{Duration}
use Rattle.stun_base.specs.declared.transport.TransportType.{TransportType}
use Rattle.stun_base.specs.declared.transport.TransportType.TheVariants.{Udp, Tcp}
use Rattle.stun_transactions.specs.declared.schedule.Schedule.{Schedule}
use Rattle.stun_transactions.specs.declared.plan.Plan.{Plan}
use Rattle.stun_transactions.specs.declared.retransmission.RetransmissionState.{RetransmissionState}
use Rattle.stun_transactions.specs.declared.retransmission.Action.{Action}
use Rattle.stun_transactions.specs.declared.retransmission.Action.TheVariants.{Send, WaitUntil, Ended}
use Rattle.stun_transactions.specs.Schedules.{requests_over, wait_over}
use Rattle.stun_transactions.specs.Retransmissions.{begun, later, Polls}

-- nothing is waited for before the first request
no_wait : (schedule : Schedule) (transport : TransportType) → wait_over schedule transport 0 ≡ 0
no_wait schedule Udp = refl
no_wait schedule Tcp = refl

-- some request is sent
some_request : (schedule : Schedule) (transport : TransportType) → 1 ≤ requests_over schedule transport
some_request schedule Udp = schedule.sends
some_request schedule Tcp = omega arith

either : (b : Bool) (n : Duration) → (if b then n else n) ≡ n
either true n = refl
either false n = refl

-- the later of a moment and itself
same_moment : (now : Duration) → later now now ≡ now
same_moment now = either (nat_lt (as_nanos now) (as_nanos now)) now

pub first_sends : (plan : Plan) (now : Duration) (action : Action) (state : RetransmissionState) → Polls plan (begun now) now action state → action ≡ Send
first_sends plan now Send state sends = refl
first_sends plan now (WaitUntil until) state waits =
    let none = no_wait plan.schedule plan.transport in
    let early : as_nanos now < as_nanos now + wait_over plan.schedule plan.transport 0 * 1_000_000 =
    subst (λ (at : Duration). as_nanos at < as_nanos now + wait_over plan.schedule plan.transport 0 * 1_000_000) (same_moment now) waits.early in
    absurd (omega arith)
first_sends plan now (Ended end) state over =
    elim over [ inl is ↦ absurd (let e = is.end_is in cc e) | inr times ↦ absurd (let some = some_request plan.schedule plan.transport in omega (arith, ltb-false 0 (requests_over plan.schedule plan.transport) times.all)) ]
