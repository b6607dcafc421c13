-- A call is a step of the machine with reservations: what has expired is over, and then a step of the machine.
use Rattle.std.proofs.Common.{◌≡◌, ℕ, ◌+◌, ◌≤◌, ◌^◌, List, Option, None, refl, ap, ◌∙◌, subst}
use Rattle.turn_machine.specs.Relays.{Setup, Rules, State}
use Rattle.turn_machine.specs.Events.{Event, Output}
use Rattle.turn_machine.specs.Lists.{times}
use Rattle.turn_machine.specs.Times.{at}
use Rattle.turn_machine.specs.Steps.{Step, step}
use Rattle.turn_machine.specs.Reserving.{Reservation, Outer, plain, held_at, inner, held_after, token_for, outer_step}
use Rattle.turn_allocations.specs.declared.limits.Limits.{Limits}
use Rattle.turn_allocations.specs.Tables.{Serving, IsStep}
use Rattle.turn_reservations.specs.Calls.{Reserving, over_at, IsOuterStep}

-- a state with reservations, and one in which those that have expired are over
abbrev pub with_held : Serving → List Reservation → (over : List ℕ) → Reserving
with_held s held over = record {
  limits = s.limits;
  holding = record { state = s.state; held = held };
  ended = s.ended;
  over = over;
}

abbrev pub swept : (now : ℕ) → Reserving → Reserving
swept now old = record old {
  holding = record { state = old.holding.state; held = held_at now old.holding };
  over = over_at now old.holding;
}

module _ (setup : Limits → Setup) (rules : Rules) (old : Reserving) (mid : Serving) (held : List Reservation) (over : List ℕ) (now : ℕ)
    (sweeps : with_held mid held over ≡ swept now old) where
  limits_is : mid.limits ≡ old.limits
  limits_is = ap (λ (r : Reserving). r.limits) sweeps

  pub state_is : mid.state ≡ old.holding.state
  state_is = ap (λ (r : Reserving). r.holding.state) sweeps

  pub held_is : held ≡ held_at now old.holding
  held_is = ap (λ (r : Reserving). r.holding.held) sweeps

  same_step : (outer : Outer) → step (setup mid.limits) rules mid.state now (inner (setup mid.limits) (at now mid.state) held outer) ≡ (outer_step (setup old.limits) rules old.holding now outer).step
  same_step outer =
      ap (λ (l : Limits). step (setup l) rules mid.state now (inner (setup l) (at now mid.state) held outer)) limits_is
      ∙ (ap (λ (s : State). step (setup old.limits) rules s now (inner (setup old.limits) (at now s) held outer)) state_is
      ∙ ap (λ (l : List Reservation). step (setup old.limits) rules old.holding.state now (inner (setup old.limits) (at now old.holding.state) l outer)) held_is)

  pub stepped : (new : Serving) (kept : List Reservation) (outer : Outer) (output : Output) (token : Option ℕ)
      → IsStep (setup mid.limits) rules mid now (inner (setup mid.limits) (at now mid.state) held outer) output new
      → kept ≡ held_after (setup mid.limits) (at now mid.state) outer output held → token ≡ token_for outer output kept
      → IsOuterStep (setup old.limits) rules old now outer output token (with_held new kept over)
  stepped new kept outer output token is kept_is token_is =
      let after = (outer_step (setup old.limits) rules old.holding now outer).step in
      let same = same_step outer in
      let output_is : output ≡ after.output = is.output_is ∙ ap (λ (x : Step). x.output) same in
      let kept_so : kept ≡ held_after (setup old.limits) (at now old.holding.state) outer after.output (held_at now old.holding) =
      kept_is
      ∙ (ap (λ (l : Limits). held_after (setup l) (at now mid.state) outer output held) limits_is
      ∙ (ap (λ (s : State). held_after (setup old.limits) (at now s) outer output held) state_is
      ∙ (ap (λ (o : Output). held_after (setup old.limits) (at now old.holding.state) outer o held) output_is
      ∙ ap (λ (l : List Reservation). held_after (setup old.limits) (at now old.holding.state) outer after.output l) held_is))) in
      record {
        holding_is =
            ap (λ (s : State). record { state = s; held = kept }) (is.state_is ∙ ap (λ (x : Step). x.state) same)
            ∙ ap (λ (l : List Reservation). record { state = after.state; held = l }) kept_so;
        output_is = output_is;
        token_is =
            token_is ∙ (ap (λ (o : Output). token_for outer o kept) output_is
            ∙ ap (λ (l : List Reservation). token_for outer after.output l) kept_so);
        ended_are = λ n. is.ended_are n ∙ ap (λ (x : Step). times n x.closes) same;
        over_are = ap (λ (r : Reserving). r.over) sweeps;
        limits_are = is.limits_are ∙ limits_is;
        slow = subst (λ (s : State). new.state.next ≤ s.next + 2 ^ 26) state_is is.slow;
      }

  -- a call that neither reserves nor claims
  pub plainly : (new : Serving) (event : Event) (output : Output) → IsStep (setup mid.limits) rules mid now event output new
      → IsOuterStep (setup old.limits) rules old now (plain event) output None (with_held new held over)
  plainly new event output is = stepped new held (plain event) output None is refl refl
